-- The copies so far are the first modifications.
use Rattle.std.proofs.Common.{◌≡◌, take}
use Rattle.law_register.proofs.law.modification.Mods.copy.Given as goal

abbrev pub invariant-loop-body : goal.invariant-loop-body
invariant-loop-body l = l.copies ≡ take l.body-index l.self
