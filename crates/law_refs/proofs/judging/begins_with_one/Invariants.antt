-- None of those passed begins the text, so the rest decides.
use Rattle.std.proofs.Common.{◌≡◌, drop}
use Rattle.std.specs.Prelude.{◌==◌}
use Rattle.std.specs.List.{list_any, starts_with}
use Rattle.law_refs.proofs.judging.begins_with_one.Given as goal

abbrev pub invariant-loop-work : goal.invariant-loop-work
invariant-loop-work l =
    list_any (λ work. starts_with ◌==◌ l.iri work) (drop l.work-index l.works) ≡ list_any (λ work. starts_with ◌==◌ l.iri work) l.works
