-- What a command makes of the entries of a register.
use Rattle.std.specs.Prelude.{◌≡◌, ℕ, List, [], ◌∷◌, ◌++◌, Option, Result, Ok, Err}
use Rattle.law_register.specs.declared.law.command.Command.{Command}
use Rattle.law_register.specs.declared.register.entering.EnterFault.{EnterFault}
use Rattle.law_register.specs.declared.register.entering.EnterFault.TheVariants as fails
use Rattle.law_register.specs.declared.register.entry.Entry.{Entry}
use Rattle.law_register.specs.declared.register.rules.Rule.{Rule}
use Rattle.law_register.specs.declared.register.verdict.Reply.{Reply}
use Rattle.law_register.specs.declared.register.verdict.Verdict.{Verdict}
use Rattle.law_register.specs.declared.register.verdict.Verdict.TheVariants.{Accepted, Repeat, Refused}
use Rattle.law_register.specs.Register.Verdicts.{verdict}

-- the entry that a command of a drafter's request becomes on a day, with this law number
abbrev pub entry_of : List ℕ → ℕ → ℕ → Option ℕ → Command → Entry
entry_of drafter request day law command =
    record { drafter = drafter; request = request; day = day; law = law; command = command }

-- the entries and the reply after a command of which this is said: it is appended where it is accepted, and nothing changes where it is a
-- repeat; or the rule for which it is refused
abbrev pub entered_by : List Entry → List ℕ → ℕ → ℕ → Command → Verdict → Result (List Entry × Reply) Rule
entered_by entries drafter request day command (Accepted law reply) =
    Ok (entries ++ entry_of drafter request day law command ∷ [], reply)
entered_by entries drafter request day command (Repeat reply) = Ok (entries, reply)
entered_by entries drafter request day command (Refused rule) = Err rule

-- the entries and the reply after a command of a drafter's request, which comes on a day; or the rule that it breaks
unfoldable pub entered : List Entry → List ℕ → ℕ → ℕ → Command → Result (List Entry × Reply) Rule
entered entries drafter request day command =
    entered_by entries drafter request day command (verdict entries drafter request command)

-- a command is not entered: this is the rule, or there was not enough memory
abbrev pub Fails : {A : Type 0} → EnterFault → Result A Rule → Type 0
Fails (fails.Rule rule) told = told ≡ Err rule
Fails fails.Memory told = Unit {0}

-- a command is entered as is told, with these entries behind it and that reply; or it is not
abbrev pub Enters : List Entry → Result Reply EnterFault → Result (List Entry × Reply) Rule → Type 0
Enters entries (Ok reply) told = told ≡ Ok (entries, reply)
Enters entries (Err fault) told = Fails fault told
