use Rattle.std.proofs.Common.{◌≡◌, drop}
use Rattle.bearing_mods.specs.Force.{force_at}
use Rattle.bearing_mods.proofs.force.force_at.Given as goal

-- the effects of what is left, on the period so far, are those of all on the first one
abbrev pub invariant-loop-one : goal.invariant-loop-one
invariant-loop-one l = force_at l.period (drop l.one-index l.fn.counted) ≡ force_at l.fn.base l.fn.counted
