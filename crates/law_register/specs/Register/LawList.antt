-- The law: the law entries in order, numbered from 1.
use Rattle.std.specs.Prelude.{ℕ, zero, suc, Option, Some, None, List, [], ◌∷◌, ◌++◌, map, length}
use Rattle.law_register.specs.declared.law.act.Act.{Act}
use Rattle.law_register.specs.declared.law.command.Command.{Command}
use Rattle.law_register.specs.declared.law.command.Command.TheVariants.{Enact, Record, DraftAdd, DraftDrop, File}
use Rattle.law_register.specs.declared.register.draft.DraftItem.{DraftItem}
use Rattle.law_register.specs.declared.register.entry.Entry.{Entry}
use Rattle.law_register.specs.Register.Drafts.{items_of, draft_of}

-- what the command of a drafter with this draft is to the law: a filing records the items that it takes, in order, and a command
-- on the draft is nothing
abbrev pub law_command : List DraftItem → Command → List Command
law_command draft (DraftAdd work body) = []
law_command draft (DraftDrop item) = []
law_command draft (File work seen) = Record work (map (λ i. i.body) (items_of work draft)) ∷ []
law_command draft command = command ∷ []

-- what an entry is to the law, behind these entries
abbrev pub law_of : List Entry → Entry → List Command
law_of before e = law_command (draft_of e.drafter before) e.command

-- the law that entries make behind others
abbrev pub laws_from : List Entry → List Entry → List Command
laws_from before [] = []
laws_from before (e ∷ es) = law_of before e ++ laws_from (before ++ e ∷ []) es

-- the law: the commands of the law entries in order
abbrev pub laws : List Entry → List Command
laws entries = laws_from [] entries

-- the acts that law entries enact, in order
abbrev pub acts_by : Command → List Act
acts_by (Enact act) = act ∷ []
acts_by _ = []

abbrev pub acts_of : List Command → List Act
acts_of [] = []
acts_of (law ∷ laws) = acts_by law ++ acts_of laws

-- the works that law entries enact, in order
abbrev pub works_enacted : List Command → List (List ℕ)
works_enacted laws = map (λ act. act.work) (acts_of laws)

-- the front: how many law entries there are
abbrev pub front : List Entry → ℕ
front entries = length (laws entries)

-- the numbers of the law entries, in order
abbrev pub with_number : Option ℕ → List ℕ → List ℕ
with_number None numbers = numbers
with_number (Some number) numbers = number ∷ numbers

abbrev pub law_numbers : List Entry → List ℕ
law_numbers [] = []
law_numbers (e ∷ es) = with_number e.law (law_numbers es)

-- the numbers 1, 2, .. up to one
abbrev pub first_numbers : ℕ → List ℕ
first_numbers zero = []
first_numbers (suc n) = first_numbers n ++ suc n ∷ []
