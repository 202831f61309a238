-- None of those passed does, so the rest decides.
use Rattle.std.proofs.Common.{◌≡◌, drop}
use Rattle.version_cache.specs.Readings.{has_efficacy}
use Rattle.version_cache.proofs.sharing.has_efficacy.Given as goal

abbrev pub invariant-loop-known : goal.invariant-loop-known
invariant-loop-known l = has_efficacy (drop l.known-index l.mods) ≡ has_efficacy l.mods
