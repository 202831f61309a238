-- What is told of the bytes that were read is what is told of all that the source had left.
use Rattle.std.proofs.Common.{◌≡◌, ℕ, ◌<◌, List, ◌++◌, length, false, Option, Some, None, Err, refl, ap, sym, ◌∙◌, inl, inr, arith, nat_le}
use Rattle.std.proofs.lemmas.List.{append-nil, length-append}
use Rattle.akn_json.specs.Reading.Bytes.{most_bytes}
use Rattle.akn_json.specs.Reading.Dossiers.{dossier_of}
use Rattle.akn_json.specs.Reading.Reads.{broken}
use Rattle.akn_json.specs.declared.fault.FormRule.TheVariants.{TooLong}
use Rattle.dossier_text.specs.declared.text_job.TextJob.{TextJob}
use Rattle.dossier_text.specs.Input.{IsInputOf}
use Rattle.dossier_text.specs.Reports.{told, told_of}
use Rattle.dossier_text.specs.Runs.{IsRead}

past : (n m : ℕ) → m < n → nat_le n m ≡ false
past n m h = grind arith

-- more bytes than a dossier may have are no dossier
dossier_of-long : (bytes : List ℕ) → most_bytes < length bytes → dossier_of bytes ≡ Err (broken TooLong)
unfolding dossier_of
dossier_of-long bytes long = rw (past (length bytes) most_bytes long) refl

-- of all inputs past the limit the same is told
told-long : (job : TextJob) (a b : List ℕ) → most_bytes < length a → most_bytes < length b → told job a ≡ told job b
unfolding told
told-long job a b p q = ap (told_of job.day job.reading) (dossier_of-long a p ∙ sym (dossier_of-long b q))

-- an input that was read, and of which the same is told as of the bytes
pub record IsWhole (left now : Option (List ℕ)) (bytes : List ℕ) : Type 0 where
  pub input : List ℕ
  pub read : IsRead left now input
  pub same : (job : TextJob) → told job input ≡ told job bytes

pub whole : (left now : Option (List ℕ)) (bytes : List ℕ) → IsInputOf most_bytes left now bytes → IsWhole left now bytes
whole None now bytes h = record { input = bytes; read = tt; same = λ job. refl }
whole (Some all) now bytes h =
    elim h.enough [
      | inl ended ↦
          let e : all ≡ bytes = h.begins ∙ ap (λ r. bytes ++ r) ended ∙ append-nil bytes in
          record { input = all; read = (refl, inl (h.left ∙ ap (λ r. Some r) ended)); same = λ job. ap (told job) e }
      | inr long ↦
          let longer : most_bytes < length all = omega (arith, ap (length {A = ℕ}) h.begins, length-append bytes h.rest) in
          record { input = all; read = (refl, inr longer); same = λ job. told-long job all bytes longer long }
    ]
