-- None of those passed is noted, so the rest decides.
use Rattle.std.proofs.Common.{◌≡◌, drop}
use Rattle.std.specs.List.{list_any}
use Rattle.law_refs.specs.Names.{is_among}
use Rattle.law_refs.proofs.kept_work.has_one.Given as goal

abbrev pub invariant-loop-work : goal.invariant-loop-work
invariant-loop-work l = list_any (λ work. is_among work l.noted) (drop l.work-index l.works) ≡ list_any (λ work. is_among work l.noted) l.works
