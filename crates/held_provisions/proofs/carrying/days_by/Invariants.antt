-- The days of those passed, from the last on.
use Rattle.std.proofs.Common.{◌≡◌, drop}
use Rattle.held_provisions.specs.Sources.{days_by}
use Rattle.held_provisions.proofs.carrying.days_by.Given as goal

abbrev pub invariant-loop-index : goal.invariant-loop-index
invariant-loop-index g l = l.days.keys ≡ days_by (g.S.Sources.kept_of l.sources) l.day (drop l.index l.mods)
