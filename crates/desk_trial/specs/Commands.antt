-- What is told of a command that a desk is asked to do.
use Rattle.std.specs.Prelude.{◌≡◌, ℕ, Bool, true, false, nat_lt, List, ◌++◌, length, Result, Ok, Err, codes}
use Rattle.std.specs.Fmt.{decimal}
use Rattle.serde_json.specs.Written.{compact_text}
use Rattle.akn_json.specs.Printing.Refusals.{rule_data}
use Rattle.akn_json.specs.declared.asked.Asked.{Asked}
use Rattle.law_register.specs.Desk.Commands.{Ends}
use Rattle.law_register.specs.Desk.States.{DeskState, standing}
use Rattle.law_register.specs.declared.desk.command_fault.CommandFault.{CommandFault}
use Rattle.law_register.specs.declared.desk.command_fault.CommandFault.TheVariants as fails
use Rattle.law_register.specs.declared.register.verdict.Reply.{Reply}
use Rattle.law_register.specs.declared.register.verdict.Reply.TheVariants as reply

-- a reply, as a JSON object of one member
abbrev pub reply_text : Reply → List ℕ
reply_text (reply.Law number) = codes "{\"law\":" ++ decimal number ++ codes "}"
reply_text (reply.Draft number) = codes "{\"draft\":" ++ decimal number ++ codes "}"

-- what is told of a reply, with which the entries became more or stayed
abbrev pub reply_line : Bool → Reply → List ℕ
reply_line true reply = reply_text reply
reply_line false reply = codes "repeat " ++ reply_text reply

-- that the keeper failed
abbrev pub fault_text : List ℕ
fault_text = codes "{\"fault\":\"keeper\"}"

-- the line of a command that ended so
abbrev pub IsLine : Bool → Result Reply CommandFault → List ℕ → Type 0
IsLine more (Ok reply) line = line ≡ reply_line more reply
IsLine more (Err (fails.Rule rule)) line = line ≡ compact_text (rule_data rule)
IsLine more (Err fails.KeeperFault) line = line ≡ fault_text
IsLine more (Err fails.Memory) line = ⊥

-- a line tells how a command ended, which a desk was asked to do
pub record IsTold (old new : DeskState) (asked : Asked) (line : List ℕ) : Type 0 where
  pub result : Result Reply CommandFault
  pub ends : Ends asked.drafter asked.request asked.command (standing old) (standing new) result
  pub line_is : IsLine (nat_lt (length old.entries) (length new.entries)) result line
