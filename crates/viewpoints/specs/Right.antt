-- What is kept of past viewpoints, and when it is right.
use Rattle.std.specs.Prelude.{◌≡◌, ◌≤◌, ◌⊎◌, ℕ, List, slice_get, Some, Contains}
use Rattle.std.specs.Map.{keys_of}
use Rattle.law_register.specs.Answer.Replay.{VersionValue, replay_on}
use Rattle.law_register.specs.Provisions.Carrying.{known_held}
use Rattle.law_register.specs.Register.LawList.{front}
use Rattle.law_register.specs.declared.register.entry.Entry.{Entry}
use Rattle.law_register.specs.declared.register.known.Known.{Known}
use Rattle.law_register.specs.Answer.PastKeys.{keys_after}
use Rattle.law_register.specs.declared.answer.past_key.PastKey.{PastKey}
use Rattle.viewpoints.specs.declared.past_tables.PastTable.{PastTable}

-- a work as it is known, once there are so many law entries
abbrev pub with_front : ℕ → Known → Known
with_front front known = record known { front = front }

-- what is kept under a key is right for these entries: at the key's viewpoint, which they have reached, they make known of the work,
-- with what it carries, what the table was made for, whatever came since; and each version is its replay in the key's reading
pub record IsRightAt {T : Type 0} (version_on : T → ℕ → VersionValue) (entries : List Entry) (key : PastKey) (kept : PastTable T) : Type 0 where
  pub reached : key.viewpoint ≤ front entries
  pub known : known_held entries key.work key.viewpoint ≡ Some (with_front (front entries) kept.known)
  pub made : key.viewpoint ≤ kept.known.front
  pub versions : (day : ℕ) → version_on kept.table day ≡ replay_on kept.known key.reading day

-- all that is kept is right
abbrev pub IsRight : {T : Type 0} → (T → ℕ → VersionValue) → List Entry → List (PastKey × PastTable T) → Type 0
IsRight {T} version_on entries past = (e : PastKey × PastTable T) → Contains past e → IsRightAt version_on entries e.0 e.1

-- this is the latest that is kept, under this key, and all else was kept before
pub record IsLatest {T : Type 0} (key : PastKey) (kept : PastTable T) (old new : List (PastKey × PastTable T)) : Type 0 where
  pub first : slice_get new 0 ≡ Some (key, kept)
  pub keys : keys_of new ≡ keys_after key (keys_of old)
  pub others : (e : PastKey × PastTable T) → Contains new e → Contains old e ⊎ (e ≡ (key, kept))
