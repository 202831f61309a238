use Rattle.std.proofs.Common.{◌≡◌, drop}
use Rattle.bearing_mods.specs.Efficacy.{is_inapplied}
use Rattle.bearing_mods.proofs.efficacy.is_inapplied.Given as goal

-- the day is inapplied by what is left just where it is by all
abbrev pub invariant-loop-one : goal.invariant-loop-one
invariant-loop-one l = is_inapplied (drop l.one-index l.fn.counted) l.fn.day ≡ is_inapplied l.fn.counted l.fn.day
