-- The register that a dossier makes: its commands are entered one after another, until one is refused.
use Rattle.std.specs.Prelude.{◌≡◌, ℕ, ◌+◌, List, [], ◌∷◌, map, codes, Result, Ok, Err}
use Rattle.akn_json.specs.declared.dossier.Dossier.{Dossier}
use Rattle.law_register.specs.declared.law.command.Command.{Command}
use Rattle.law_register.specs.declared.law.command.Command.TheVariants.{Enact, Record}
use Rattle.law_register.specs.declared.register.entry.Entry.{Entry}
use Rattle.law_register.specs.declared.law.modification.Modification.{Modification}
use Rattle.law_register.specs.declared.register.rules.Rule.{Rule}
use Rattle.law_register.specs.declared.register.entering.EnterFault.{EnterFault}
use Rattle.law_register.specs.Register.Entering.{Fails, entered}

-- who sends the commands of a dossier
unfoldable pub sender : List ℕ
sender = codes "text"

-- the day of each entry: 0001-01-01
abbrev pub first_day : ℕ
first_day = 1

-- a modification is recorded alone
abbrev pub record_of : List ℕ → Modification → Command
record_of work m = Record work (m ∷ [])

-- the commands of a dossier: its act is enacted, and then each modification is recorded in the act's work
abbrev pub commands_of : Dossier → List Command
commands_of dossier = Enact dossier.act ∷ map (record_of dossier.act.work) dossier.mods

-- what comes of entries that were made, or the rule for which there are none
abbrev pub and_then : {A B : Type 0} → Result A Rule → (A → Result B Rule) → Result B Rule
and_then (Ok made) next = next made
and_then (Err rule) next = Err rule

-- the entries after commands, the first of which has this request, or the rule that the first refused one breaks
abbrev pub all_entered : List Entry → ℕ → List Command → Result (List Entry) Rule
all_entered entries request [] = Ok entries
all_entered entries request (c ∷ cs) =
    and_then (entered entries sender request first_day c) (λ made. all_entered made.0 (request + 1) cs)

-- the entries of the register that a dossier makes, or the rule that its first refused command breaks
unfoldable pub entries_of : Dossier → Result (List Entry) Rule
entries_of dossier = all_entered [] 1 (commands_of dossier)

-- commands are entered as is told, and these are the entries; or they are not
abbrev pub Enters : {A : Type 0} → (A → List Entry) → Result A EnterFault → Result (List Entry) Rule → Type 0
Enters entries (Ok done) told = told ≡ Ok (entries done)
Enters entries (Err fault) told = Fails fault told
