-- What is added from here on is added from the start.
use Rattle.std.proofs.Common.{◌≡◌, [], drop}
use Rattle.law_refs.specs.Covering.{with_names}
use Rattle.law_refs.proofs.kept_work.copy_works.Given as goal

abbrev pub invariant-loop-work : goal.invariant-loop-work
invariant-loop-work l = with_names l.copied (drop l.work-index l.works) ≡ with_names [] l.works
