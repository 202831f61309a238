-- None of those passed depends on the work, so the rest decides.
use Rattle.std.proofs.Common.{◌≡◌, drop, map}
use Rattle.std.specs.List.{list_any}
use Rattle.law_register.specs.Provisions.Depending.{depends}
use Rattle.held_provisions.proofs.needing.one_depends.Given as goal

abbrev pub invariant-loop-one : goal.invariant-loop-one
invariant-loop-one g l =
    list_any (λ one. depends (map g.T.InLine.known_of l.works) one l.other) (drop l.one-index l.needed)
    ≡ list_any (λ one. depends (map g.T.InLine.known_of l.works) one l.other) l.needed
