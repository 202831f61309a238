-- The first numbers are linked.
use Rattle.std.proofs.Common.{length}
use Rattle.act_tree.specs.HashIndex.{buckets, IsLinked}
use Rattle.act_tree.proofs.hash_index.link_all.Given as goal

abbrev pub invariant-loop-number : goal.invariant-loop-number
invariant-loop-number l = IsLinked (length l.fn.heads) (buckets (length l.fn.heads) l.hashes) l.heads l.before l.number
