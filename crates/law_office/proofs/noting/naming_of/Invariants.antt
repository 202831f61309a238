-- Where those that are left are noted in a set that has more, all are.
use Rattle.std.specs.List.{AllByRecursion}
use Rattle.version_cache.specs.Seen.{work_view}
use Rattle.law_office.specs.Noting.{AreMore, IsNoted}
use Rattle.law_office.proofs.noting.naming_of.Given as goal

abbrev pub invariant-loop-work : goal.invariant-loop-work
invariant-loop-work l = (later : _) → AreMore l.naming later
    → AllByRecursion (λ e. IsNoted later e.0 (work_view e.1).names) l.work-iterator
    → AllByRecursion (λ e. IsNoted later e.0 (work_view e.1).names) l.tables.entries
