-- What is kept of a work, beside the entries of a register.
use Rattle.std.specs.Prelude.{◌≡◌, ℕ, true, List, Option, IfSome}
use Rattle.law_register.specs.declared.register.entry.Entry.{Entry}
use Rattle.law_register.specs.Register.KnownIds.{known_at}
use Rattle.law_register.specs.Register.LawList.{front}
use Rattle.law_register.specs.Register.Verdicts.{is_legal}
use Rattle.version_cache.specs.Seen.{work_view}
use Rattle.version_cache.specs.Works.{AreRightIf, IsForIf}
use Rattle.table_trial.specs.declared.kept.Kept.{Kept}

-- the tables that are kept are right before a day for what the entries make known of their work
abbrev pub IsHeldUntil : List Entry → Option ℕ → Kept → Type 0
IsHeldUntil entries until kept = AreRightIf (known_at entries kept.work (front entries)) until (work_view kept.tables)

-- what is kept is for what the entries make known of its work
abbrev pub IsHeld : List Entry → Kept → Type 0
IsHeld entries kept = IsForIf (known_at entries kept.work (front entries)) (work_view kept.tables)

-- each entry was accepted behind those before it, and what is kept, if anything is, is right for them before a day
pub record HoldsUntil (entries : List Entry) (until : Option ℕ) (kept : Option Kept) : Type 0 where
  pub legal : is_legal entries ≡ true
  pub right : IfSome kept (IsHeldUntil entries until)

-- each entry was accepted behind those before it, and what is kept, if anything is, is for them
pub record Holds (entries : List Entry) (kept : Option Kept) : Type 0 where
  pub legal : is_legal entries ≡ true
  pub held : IfSome kept (IsHeld entries)
