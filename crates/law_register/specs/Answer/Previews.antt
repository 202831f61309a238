-- Previews: what an act will say with a drafter's draft, before it is filed.
use Rattle.std.specs.Prelude.{ℕ, List, [], ◌∷◌, ◌++◌, length, map, filter, Option}
use Rattle.law_register.specs.declared.answer.question.Question.{Question}
use Rattle.law_register.specs.declared.law.command.Command.{Command}
use Rattle.law_register.specs.declared.law.command.Command.TheVariants.{Record}
use Rattle.law_register.specs.declared.register.draft.DraftItem.{DraftItem}
use Rattle.law_register.specs.declared.register.entry.Entry.{Entry}
use Rattle.law_register.specs.declared.register.known.Known.{Known}
use Rattle.law_register.specs.Register.Drafts.{draft_of, is_by, items_of}
use Rattle.law_register.specs.Register.KnownIds.{enacted, known_by}
use Rattle.law_register.specs.Register.KnownNext.{with_bodies}
use Rattle.law_register.specs.Register.LawList.{laws}

-- the law with one more entry, which records these items of a draft in a work and is not judged; without items, the law as it is
abbrev pub law_with : List Command → List ℕ → List DraftItem → List Command
law_with law work [] = law
law_with law work (item ∷ items) = law ++ Record work (map (λ i. i.body) (item ∷ items)) ∷ []

-- what the whole of a law makes known of a work
abbrev pub known_by_law : List Command → List ℕ → Option Known
known_by_law law work = known_by work (length law) (length law) law (enacted work law)

-- a question at the viewpoint that knows the whole of a law
abbrev pub question_by : List Command → Question → Question
question_by law q = record q { viewpoint = length law }

-- the law with what a drafter's draft holds of a work
abbrev pub law_previewed : List Entry → List ℕ → List ℕ → List Command
law_previewed entries drafter work = law_with (laws entries) work (items_of work (draft_of drafter entries))

-- what a drafter's preview knows of a work
abbrev pub known_previewed : List Entry → List ℕ → List ℕ → Option Known
known_previewed entries drafter work = known_by_law (law_previewed entries drafter work) work

-- what is known of a work once one more law entry records these items in it; without items, what was known
abbrev pub with_items : List DraftItem → Known → Known
with_items [] known = known
with_items (i ∷ items) known = with_bodies (map (λ i. i.body) (i ∷ items)) known

-- the entries of a drafter
abbrev pub own_entries : List ℕ → List Entry → List Entry
own_entries drafter entries = filter (is_by drafter) entries
