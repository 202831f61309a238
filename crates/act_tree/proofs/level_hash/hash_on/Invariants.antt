-- The hash so far goes on over the bytes that are left to the hash of all.
use Rattle.std.proofs.Common.{◌≡◌, drop}
use Rattle.act_tree.specs.LevelHashes.{hash_on}
use Rattle.act_tree.proofs.level_hash.hash_on.Given as goal

abbrev pub invariant-loop-byte : goal.invariant-loop-byte
invariant-loop-byte l = hash_on l.hash (drop l.byte-index l.bytes) ≡ hash_on l.initial.hash l.bytes
