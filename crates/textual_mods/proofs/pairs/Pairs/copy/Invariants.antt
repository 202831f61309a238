-- The pairs passed are copied.
use Rattle.std.proofs.Common.{◌≡◌, take}
use Rattle.textual_mods.proofs.pairs.Pairs.copy.Given as goal

abbrev pub invariant-loop-wid : goal.invariant-loop-wid
invariant-loop-wid l = l.copies ≡ take l.wid-index l.wid-items
