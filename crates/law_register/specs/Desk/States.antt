-- What contracts alone see of a desk.
use Rattle.std.specs.Prelude.{ℕ, ◌≡◌, ◌≢◌, ◌⊎◌, ◌≤◌, true, List, [], ◌∷◌, ◌++◌, length, All, Option, None, Some, IfSome, IsSome, Result, Ok}
use Rattle.desk_base.specs.Crashes.{Crashes}
use Rattle.law_register.specs.declared.desk.damage.Damage.{Damage}
use Rattle.law_register.specs.declared.desk.fault_mark.FaultMark.{FaultMark}
use Rattle.law_register.specs.declared.register.entry.Entry.{Entry}
use Rattle.law_register.specs.Law.Spelling.{is_well_spelled}
use Rattle.law_register.specs.Register.Verdicts.{is_accepted, verdict}

-- what an opening finds in what was kept: the entries of a register, or damage
abbrev pub Found : Type 0
Found = Result (List Entry) Damage

-- what a desk has, and what it was told
pub record DeskState : Type 0 where
  -- the entries of its register
  pub entries : List Entry
  -- the entry of which it is not known whether the keeper has it, if there is one
  pub pending : Option Entry
  -- the marks of the commands that a fault of the keeper answered, in their order
  pub marks : List FaultMark
  -- its keeper's count of faults
  pub faults : ℕ
  -- the days to come, where its clock tells them: that of the next call first, numbered from 0
  pub days : Option (ℕ → ℕ)
  -- the names of what it was lent
  pub origin : List ℕ

-- what a command moves: the entries, the one that is pending, and the days to come
pub record Standing : Type 0 where
  pub entries : List Entry
  pub pending : Option Entry
  pub days : Option (ℕ → ℕ)

abbrev pub standing : DeskState → Standing
standing state = record { entries = state.entries; pending = state.pending; days = state.days }

-- an entry that may stand behind others: it is accepted there with its law number, and is well spelled
pub record MayFollow (entries : List Entry) (entry : Entry) : Type 0 where
  pub accepted : is_accepted entry.law (verdict entries entry.drafter entry.request entry.command) ≡ true
  pub spelled : is_well_spelled entry.command ≡ true

-- these entries are found, and the one that is pending behind them, or not
abbrev pub IsFoundOf : List Entry → Option Entry → Found → Type 0
IsFoundOf entries None found = found ≡ Ok entries
IsFoundOf entries (Some entry) found = (found ≡ Ok entries) ⊎ (found ≡ Ok (entries ++ entry ∷ []))

-- an entry that is pending may stand behind the others, and a fault of the keeper left a mark when it became so; each mark
-- was made when so many entries stood as there are, or fewer
pub record IsSound (state : DeskState) : Type 0 where
  pub pending : IfSome state.pending (MayFollow state.entries)
  pub marked : IsSome state.pending → state.marks ≢ []
  pub marks : All (λ mark. mark.entries ≤ length state.entries) state.marks

-- where it is told: after a crash the entries are found, with the one that is pending or without it
abbrev pub IsDurable : DeskState → Crashes Found → Type 0
IsDurable state crashes =
    crashes.tells → (found : Found) → crashes.may_leave found → IsFoundOf state.entries state.pending found
