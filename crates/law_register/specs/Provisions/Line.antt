-- The line of works: what a law makes known of each work that it enacts, the act of the latest day first.
use Rattle.std.specs.Prelude.{◌≡◌, ℕ, List, [], ◌∷◌, Option, Some, None}
use Rattle.std.specs.BTreeSet.{insert_key}
use Rattle.std.specs.Cmp.Lexicographic.{slice_cmp}
use Rattle.std.specs.List.{AllByRecursion, find}
use Rattle.std.specs.List.Sorted.{IsStrictlySortedBy}
use Rattle.std.specs.Ordering.{nat_cmp, on, then_cmp}
use Rattle.std.specs.Str.{bytes_eq}
use Rattle.std.specs.declared.cmp.Ordering.{Ordering}
use Rattle.law_register.specs.declared.law.command.Command.{Command}
use Rattle.law_register.specs.declared.register.known.Known.{Known}
use Rattle.law_register.specs.Answer.Previews.{known_by_law}
use Rattle.law_register.specs.Register.LawList.{works_enacted}

-- a later day comes before an earlier one
abbrev pub latest_first : ℕ → ℕ → Ordering
latest_first day other = nat_cmp other day

-- works stand in the line by the day of their act, the latest first, and on one day by the bytes of their IRI
abbrev pub line_cmp : Known → Known → Ordering
line_cmp = then_cmp (on (λ k. k.act.day) latest_first) (on (λ k. k.act.work) (slice_cmp nat_cmp))

-- a work takes its place in a line, where it is known
abbrev pub with_work : List Known → Option Known → List Known
with_work works None = works
with_work works (Some known) = insert_key line_cmp works known

-- these works in a line, each as a law makes it known
abbrev pub line_of : List Command → List (List ℕ) → List Known
line_of law [] = []
line_of law (work ∷ works) = with_work (line_of law works) (known_by_law law work)

-- the line of a law: each work that it enacts
unfoldable pub line : List Command → List Known
line law = line_of law (works_enacted law)

-- the work of this IRI in a line
abbrev pub work_in : List ℕ → List Known → Option Known
work_in work works = find (λ known. bytes_eq known.act.work work) works

-- works are a line: they stand in its order, and no two have one IRI
pub record IsLine (works : List Known) : Type 0 where
  pub ascends : IsStrictlySortedBy line_cmp works
  pub own : AllByRecursion (λ known. work_in known.act.work works ≡ Some known) works
