-- Where a work stands in a line, and the works that entries enact.
use Rattle.std.specs.Prelude.{ℕ, ◌+◌, List, [], ◌∷◌, Option, Some, None}
use Rattle.std.specs.Ordering.{match_ordering}
use Rattle.law_register.specs.declared.law.command.Command.{Command}
use Rattle.law_register.specs.declared.law.command.Command.TheVariants.{Correct, DraftAdd, DraftDrop, Enact, File, Record, Restore, Withdraw}
use Rattle.law_register.specs.declared.register.entry.Entry.{Entry}
use Rattle.law_register.specs.declared.register.known.Known.{Known}
use Rattle.law_register.specs.Answer.Previews.{known_by_law}
use Rattle.law_register.specs.Provisions.Line.{line_cmp, with_work}

-- the index before which a work is put that is not before the first of these, whose index this is; none, where one ties with it
abbrev pub place_from : ℕ → Known → List Known → Option ℕ
place_from index known [] = Some index
place_from index known (other ∷ others) =
    match_ordering (line_cmp known other) (Some index) None (place_from (index + 1) known others)

-- the work that a command enacts
abbrev pub enacted_work : Command → Option (List ℕ)
enacted_work (Enact act) = Some act.work
enacted_work (Record work mods) = None
enacted_work (Correct id body) = None
enacted_work (Withdraw id) = None
enacted_work (Restore id) = None
enacted_work (DraftAdd work body) = None
enacted_work (DraftDrop item) = None
enacted_work (File work seen) = None

-- a work before others, where there is one
abbrev pub with_own : Option (List ℕ) → List (List ℕ) → List (List ℕ)
with_own None works = works
with_own (Some work) works = work ∷ works

-- the works that entries enact, in order
abbrev pub works_of : List Entry → List (List ℕ)
works_of [] = []
works_of (e ∷ es) = with_own (enacted_work e.command) (works_of es)

-- a work takes its place in a line, as a law makes it known, where there is one
abbrev pub with_enacted : List Command → Option (List ℕ) → List Known → List Known
with_enacted law None works = works
with_enacted law (Some work) works = with_work works (known_by_law law work)
