-- What is written of a report is what is told of the input.
use Rattle.std.proofs.Common.{◌≡◌, ℕ, List, Option, Some, None, Ok, Err, ap, sym, ◌∙◌, subst}
use Rattle.desk_base.specs.declared.source.Failed.{Failed}
use Rattle.desk_base.specs.Streams.{Appended, AppendsFront}
use Rattle.akn_json.specs.Reading.Bytes.{most_bytes}
use Rattle.dossier_text.specs.declared.text_job.TextJob.{TextJob}
use Rattle.dossier_text.specs.Input.{IsInputOf}
use Rattle.dossier_text.specs.Reports.{Told, told}
use Rattle.dossier_text.specs.Runs.{IsWritten, IsTold, IsCut}
use Rattle.dossier_text.proofs.Wholes.{whole}

is_written : (written after : Option (List ℕ)) (bytes : List ℕ) (done : Unit) → Appended {E = Failed} written after bytes (Ok done) → IsWritten written after bytes
is_written None after bytes done h = tt
is_written (Some before) after bytes done h = h

pub is_front : (written after : Option (List ℕ)) (bytes : List ℕ) (fault : Failed) → Appended {E = Failed} written after bytes (Err fault) → AppendsFront written after bytes
is_front None after bytes fault h = tt
is_front (Some before) after bytes fault h = h

-- a report that is written whole
pub told_by : (job : TextJob) (left now written after : Option (List ℕ)) (input shown : List ℕ) (report : Told) (done : Unit)
    → IsInputOf most_bytes left now input → report ≡ told job input → shown ≡ report.bytes → Appended {E = Failed} written after shown (Ok done)
    → IsTold job left now written after report.status
told_by job left now written after input shown report done came is_told is_shown h =
    let all = whole left now input came in
    let same : told job all.input ≡ report = all.same job ∙ sym is_told in
    let P : List ℕ → Type 0 = λ bytes. IsWritten written after bytes in
    record {
      input = all.input;
      read = all.read;
      status_told = ap (λ (t : Told). t.status) same;
      bytes_told = subst P (is_shown ∙ sym (ap (λ (t : Told). t.bytes) same)) (is_written written after shown done h);
    }

-- a report that is cut
pub cut_by : (job : TextJob) (left now written after : Option (List ℕ)) (input shown : List ℕ) (report : Told) (fault : Failed)
    → IsInputOf most_bytes left now input → report ≡ told job input → shown ≡ report.bytes → Appended {E = Failed} written after shown (Err fault)
    → IsCut job left now written after
cut_by job left now written after input shown report fault came is_told is_shown h =
    let all = whole left now input came in
    let same : told job all.input ≡ report = all.same job ∙ sym is_told in
    let P : List ℕ → Type 0 = λ bytes. AppendsFront written after bytes in
    record {
      input = all.input;
      read = all.read;
      bytes_cut = subst P (is_shown ∙ sym (ap (λ (t : Told). t.bytes) same)) (is_front written after shown fault h);
    }
