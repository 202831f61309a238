use Rattle.std.proofs.Common.{◌≡◌, drop}
use Rattle.bearing_mods.specs.Efficacy.{efficacy_period}
use Rattle.bearing_mods.proofs.efficacy.period_at.Given as goal

-- the effects of what is left, on the period so far, are those of all on the first one
abbrev pub invariant-loop-one : goal.invariant-loop-one
invariant-loop-one l = efficacy_period l.period (drop l.one-index l.fn.counted) ≡ efficacy_period l.fn.force l.fn.counted
