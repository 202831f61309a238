-- Where those that are left are noted in a set that has more, all are.
use Rattle.std.proofs.Common.{drop, map}
use Rattle.std.specs.List.{AllByRecursion}
use Rattle.law_office.specs.Noting.{AreMore, IsNoted}
use Rattle.law_office.specs.Tables.{revised_view}
use Rattle.law_office.proofs.noting.note_revised.Given as goal

abbrev pub invariant-loop-work : goal.invariant-loop-work
invariant-loop-work l = record {
  more : AreMore l.initial.naming l.naming;
  all : (later : _) → AreMore l.naming later
      → AllByRecursion (λ one. IsNoted later one.0 one.1.names) (map revised_view (drop l.work-index l.revised))
      → AllByRecursion (λ one. IsNoted later one.0 one.1.names) (map revised_view l.revised);
}
