-- The key has the bytes passed.
use Rattle.std.proofs.Common.{◌≡◌, take}
use Rattle.law_register.proofs.register.drafter.Drafter.key.Given as goal

abbrev pub invariant-loop-byte : goal.invariant-loop-byte
invariant-loop-byte l = l.key.items ≡ take l.byte-index l.byte-items
