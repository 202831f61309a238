-- What a command does to a desk: a pending entry is settled, the clock gives a day, and then the command is judged.
use Rattle.std.specs.Prelude.{ℕ, ◌≡◌, ◌≤◌, ◌+◌, ◌⊎◌, List, [], ◌∷◌, ◌++◌, length, Option, Some, None, IsSome, Result, Ok, Err}
use Rattle.std.proofs.Common.{inl, inr}
use Rattle.desk_base.specs.Clocks.{GivesDay}
use Rattle.desk_base.specs.Crashes.{Crashes, LeavesOnly}
use Rattle.desk_base.specs.Streams.{risen}
use Rattle.law_register.specs.declared.desk.command_fault.CommandFault.{CommandFault}
use Rattle.law_register.specs.declared.desk.command_fault.CommandFault.TheVariants as fails
use Rattle.law_register.specs.declared.desk.fault_mark.FaultMark.{FaultMark}
use Rattle.law_register.specs.declared.law.command.Command.{Command}
use Rattle.law_register.specs.declared.register.entry.Entry.{Entry}
use Rattle.law_register.specs.declared.register.rules.Rule.{Rule}
use Rattle.law_register.specs.declared.register.verdict.Reply.{Reply}
use Rattle.law_register.specs.declared.register.verdict.Verdict.TheVariants.{Accepted}
use Rattle.law_register.specs.Answer.Renewing.{command_cost, judging_cost}
use Rattle.law_register.specs.Desk.States.{DeskState, Found, IsFoundOf, Standing}
use Rattle.law_register.specs.Register.Entering.{entered, entry_of}
use Rattle.law_register.specs.Register.Verdicts.{verdict}

-- the entries once a desk is settled: an entry that was pending is found, and stands behind the others, or it is
-- dropped
abbrev pub AreSettled : List Entry → Option Entry → List Entry → Type 0
AreSettled entries None settled = settled ≡ entries
AreSettled entries (Some entry) settled = (settled ≡ entries) ⊎ (settled ≡ entries ++ entry ∷ [])

-- a command begins: the desk is settled, with these entries, and then its clock gives this day
pub record Begins (old new : Standing) (settled : List Entry) (day : ℕ) : Type 0 where
  pub settles : AreSettled old.entries old.pending settled
  pub gives : GivesDay old.days new.days day

-- nothing has come of a command: the desk is not settled, and its clock was not asked
pub record Waits (old new : Standing) : Type 0 where
  pub entries : new.entries ≡ old.entries
  pub pending : new.pending ≡ old.pending
  pub days : new.days ≡ old.days

module _ (drafter : List ℕ) (request : ℕ) (command : Command) (old new : Standing) where
  -- the command is a repeat, or its entry stands behind the others
  pub record IsReplied (reply : Reply) : Type 0 where
    pub settled : List Entry
    pub day : ℕ
    pub begins : Begins old new settled day
    pub entered : entered settled drafter request day command ≡ Ok (new.entries, reply)
    pub pending : new.pending ≡ None

  -- the command breaks a rule
  pub record IsRefused (rule : Rule) : Type 0 where
    pub day : ℕ
    pub begins : Begins old new new.entries day
    pub refused : entered new.entries drafter request day command ≡ Err rule
    pub pending : new.pending ≡ None

  -- the command is accepted, and its entry is pending
  pub record IsPending : Type 0 where
    pub day : ℕ
    pub begins : Begins old new new.entries day
    pub law : Option ℕ
    pub reply : Reply
    pub accepted : verdict new.entries drafter request command ≡ Accepted law reply
    pub pending : new.pending ≡ Some (entry_of drafter request day law command)

  -- the desk is settled, and the command did nothing else
  pub record IsIdle : Type 0 where
    pub day : ℕ
    pub begins : Begins old new new.entries day
    pub pending : new.pending ≡ None

  -- a command ends: after a fault of the keeper the desk is not settled, or the command's entry is pending; for want
  -- of memory nothing has come of it, or the desk is settled
  abbrev pub Ends : Result Reply CommandFault → Type 0
  Ends (Ok reply) = IsReplied reply
  Ends (Err (fails.Rule rule)) = IsRefused rule
  Ends (Err fails.KeeperFault) = (Waits old new × IsSome old.pending) ⊎ IsPending
  Ends (Err fails.Memory) = Waits old new ⊎ IsIdle

  -- the steps that a command may take whose entry stands behind these, where so many references are judged anew for an entry: one for each id
  -- that is applied, and one for each of these references
  abbrev pub acting_cost : (List Entry → Entry → ℕ) → List Entry → ℕ → ℕ
  acting_cost judging settled day =
      command_cost settled (entry_of drafter request day None command) + judging_cost judging settled (entry_of drafter request day None command)

  -- the steps that a command may take, by how it ended: none where it was refused, is a repeat, or was not judged
  abbrev pub spending : (List Entry → Entry → ℕ) → (result : Result Reply CommandFault) → Ends result → ℕ
  spending judging (Ok reply) replied = acting_cost judging replied.settled replied.day
  spending judging (Err (fails.Rule rule)) refused = 0
  spending judging (Err fails.KeeperFault) (inl waited) = 0
  spending judging (Err fails.KeeperFault) (inr left) = acting_cost judging new.entries left.day
  spending judging (Err fails.Memory) (inl waited) = 0
  spending judging (Err fails.Memory) (inr idle) = acting_cost judging new.entries idle.day

  -- a command ends, and so many steps were taken before it, and after
  pub record EndsWithin (judging : List Entry → Entry → ℕ) (before after : ℕ) (result : Result Reply CommandFault) : Type 0 where
    pub ends : Ends result
    pub within : after ≤ before + spending judging result ends

-- a mark of a command that is answered when these entries stand
abbrev pub mark_of : List ℕ → ℕ → List Entry → FaultMark
mark_of drafter request entries = record { drafter = drafter; request = request; entries = length entries }

-- a fault of the keeper leaves a mark, and no other outcome does
abbrev pub marks_after : {T : Type 0} → List FaultMark → FaultMark → Result T CommandFault → List FaultMark
marks_after marks mark (Ok value) = marks
marks_after marks mark (Err (fails.Rule rule)) = marks
marks_after marks mark (Err fails.KeeperFault) = marks ++ mark ∷ []
marks_after marks mark (Err fails.Memory) = marks

-- a fault of the keeper is one more in its count of faults; else the count is as it was
abbrev pub HasCommandCause : {T : Type 0} → ℕ → ℕ → Result T CommandFault → Type 0
HasCommandCause before now (Ok value) = now ≡ before
HasCommandCause before now (Err (fails.Rule rule)) = now ≡ before
HasCommandCause before now (Err fails.KeeperFault) = now ≡ risen before
HasCommandCause before now (Err fails.Memory) = now ≡ before

-- what is found after a crash in the midst of a command: what a desk had before it, or what it has behind it, in both
-- cases with the entry that is pending or without it
abbrev pub IsFoundBetween : DeskState → DeskState → Found → Type 0
IsFoundBetween old new found = IsFoundOf old.entries old.pending found ⊎ IsFoundOf new.entries new.pending found

-- where a desk tells it: a crash at any moment of a command leaves that
abbrev pub LeavesBetween : DeskState → DeskState → Crashes Found → Crashes Found → Type 0
LeavesBetween old new before now = before.tells → LeavesOnly (IsFoundBetween old new) before now

-- where a desk tells it: a crash at any moment of a call leaves what it could leave before
abbrev pub LeavesNoMore : Crashes Found → Crashes Found → Type 0
LeavesNoMore before now = before.tells → LeavesOnly before.may_leave before now
