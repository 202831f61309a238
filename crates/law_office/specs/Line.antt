-- The line of works: in which order what is kept of them is made.
use Rattle.std.specs.Prelude.{ℕ, ◌≡◌, List, map, IsPermutation, IsSorted}
use Rattle.std.specs.Cmp.Lexicographic.{slice_cmp}
use Rattle.std.specs.Ordering.{nat_cmp, on, then_cmp}
use Rattle.std.specs.declared.cmp.Ordering.{Ordering}
use Rattle.law_register.specs.declared.law.act.Act.{Act}
use Rattle.law_register.specs.declared.register.entry.Entry.{Entry}
use Rattle.law_register.specs.Register.LawList.{acts_of, laws}
use Rattle.law_office.specs.declared.line.DatedWork.{DatedWork}

-- the work of an act, with its day
abbrev pub dated_work : Act → DatedWork
dated_work act = record { day = record { 0 = act.day }; work = act.work }

-- the work of the later act comes first, and of acts of one day that of which the IRI has the lesser bytes
abbrev pub line_cmp : DatedWork → DatedWork → Ordering
line_cmp = then_cmp (on (λ d. d.day.0) (λ x y. nat_cmp y x)) (on (λ d. d.work) (slice_cmp nat_cmp))

-- works stand in line: each that entries enact, in this order
pub record AreInLine (entries : List Entry) (works : List (List ℕ)) : Type 0 where
  pub dated : List DatedWork
  pub all : IsPermutation (map dated_work (acts_of (laws entries))) dated
  pub order : IsSorted line_cmp dated
  pub are : works ≡ map (λ d. d.work) dated
