-- What a run of the program leaves: its status, what it read, and what it wrote. Each form of the command line has a record.
use Rattle.std.specs.Prelude.{ℕ, ◌≡◌, ◌≢◌, ◌+◌, ◌≤◌, ◌<◌, List, [], ◌++◌, length, Option, Some, None, ◌⊎◌}
use Rattle.desk_base.specs.Streams.{AppendsFront, risen}
use Rattle.akn_json.specs.Reading.Bytes.{most_bytes}
use Rattle.dossier_text.specs.Reports.{told}
use Rattle.dossier_text.specs.declared.text_job.TextJob.{TextJob}

-- the statuses with which a text is told: 0 answered, 9 a rule refuses the question, 10 the bytes are of no form
abbrev pub IsDone : ℕ → Type 0
IsDone status = (status ≡ 0) ⊎ ((status ≡ 9) ⊎ (status ≡ 10))

-- the statuses of `text`: beside these, 3 and 4 for a source and a sink that failed, 7 for want of memory
abbrev pub IsTextStatus : ℕ → Type 0
IsTextStatus status = IsDone status ⊎ ((status ≡ 3) ⊎ ((status ≡ 4) ⊎ (status ≡ 7)))

-- all that a source had left is read, or more of it than a dossier may have; of a source that tells nothing, nothing is known
abbrev pub IsRead : Option (List ℕ) → Option (List ℕ) → List ℕ → Type 0
IsRead None now input = Unit {0}
IsRead (Some all) now input = (all ≡ input) × ((now ≡ Some []) ⊎ (most_bytes < length input))

-- of a source at most one byte more is taken than a dossier may have, as its room tells
abbrev pub TakesWithinLimit : ℕ → ℕ → Type 0
TakesWithinLimit before now = before ≤ now + (most_bytes + 1)

-- the bytes are written behind those before, and nothing else is; of a sink that tells nothing, nothing is known
abbrev pub IsWritten : Option (List ℕ) → Option (List ℕ) → List ℕ → Type 0
IsWritten None after bytes = Unit {0}
IsWritten (Some before) after bytes = after ≡ Some (before ++ bytes)

-- the input was read, and all that is told of it was written, and nothing else
pub record IsTold (job : TextJob) (left now written after : Option (List ℕ)) (status : ℕ) : Type 0 where
  pub input : List ℕ
  pub read : IsRead left now input
  pub status_told : (told job input).status ≡ status
  pub bytes_told : IsWritten written after (told job input).bytes

-- the input was read, and a front part of what is told of it was written, and nothing else
pub record IsCut (job : TextJob) (left now written after : Option (List ℕ)) : Type 0 where
  pub input : List ℕ
  pub read : IsRead left now input
  pub bytes_cut : AppendsFront written after (told job input).bytes

-- what a run of `text` leaves, of a source and a sink that clauses see by these functions
pub record RanText {S W : Type 0} (left : S → Option (List ℕ)) (room read_faults : S → ℕ)
    (written : W → Option (List ℕ)) (write_faults : W → ℕ)
    (job : TextJob) (source source_new : S) (sink sink_new : W) (status : ℕ) : Type 0 where
  pub status_is : IsTextStatus status
  -- a text that was told: the input was read, and what is told of it is the status and all that was written
  pub told_is : IsDone status
      → IsTold job (left source) (left source_new) (written sink) (written sink_new) status
  -- one that was not, and its cause; want of memory has none
  pub source_cause : status ≡ 3 → read_faults source_new ≡ risen (read_faults source)
  pub sink_cause : status ≡ 4 → write_faults sink_new ≡ risen (write_faults sink)
  pub cut : status ≡ 4 → IsCut job (left source) (left source_new) (written sink) (written sink_new)
  pub unwritten : (status ≡ 3) ⊎ (status ≡ 7) → sink_new ≡ sink
  -- no count rose but that of the stream which the status names
  pub source_stays : status ≢ 3 → read_faults source_new ≡ read_faults source
  pub sink_stays : status ≢ 4 → write_faults sink_new ≡ write_faults sink
  pub taken : TakesWithinLimit (room source) (room source_new)
