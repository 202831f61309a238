-- None of those passed is of the IRI, so the rest decides.
use Rattle.std.proofs.Common.{◌≡◌, drop}
use Rattle.std.specs.List.{find}
use Rattle.std.specs.Str.{bytes_eq}
use Rattle.held_provisions.proofs.looking.find_work.Given as goal

abbrev pub invariant-loop-one : goal.invariant-loop-one
invariant-loop-one g l =
    find (λ one. bytes_eq (g.T.InLine.known_of one).act.work l.work) (drop l.one-index l.works) ≡ find (λ one. bytes_eq (g.T.InLine.known_of one).act.work l.work) l.works
