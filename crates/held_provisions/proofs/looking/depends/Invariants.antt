-- None of those passed comes from there, so the rest decides.
use Rattle.std.proofs.Common.{◌≡◌, drop, map}
use Rattle.std.specs.List.{list_any}
use Rattle.law_register.specs.Provisions.Depending.{comes_from}
use Rattle.held_provisions.proofs.looking.depends.Given as goal

abbrev pub invariant-loop-one : goal.invariant-loop-one
invariant-loop-one g l =
    list_any (comes_from (map g.T.InLine.known_of l.works) l.known.act.day l.on) (drop l.one-index l.one-items)
    ≡ list_any (comes_from (map g.T.InLine.known_of l.works) l.known.act.day l.on) l.one-items
