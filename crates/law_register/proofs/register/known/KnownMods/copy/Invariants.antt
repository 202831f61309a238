-- The copies are those of the modifications passed.
use Rattle.std.proofs.Common.{◌≡◌, take}
use Rattle.law_register.proofs.register.known.KnownMods.copy.Given as goal

abbrev pub invariant-loop-known : goal.invariant-loop-known
invariant-loop-known l = l.copies ≡ take l.known-index l.known-items
