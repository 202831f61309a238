-- A number of the bucket that is behind the other, and one past the last before it.
use Rattle.std.proofs.Common.{◌≡◌, ◌<◌, ◌≤◌, length, get_or}
use Rattle.act_tree.specs.HashIndex.{buckets, latest}
use Rattle.act_tree.proofs.hash_index.HashIndex.next_in.Given as goal

abbrev pub invariant-loop-end : goal.invariant-loop-end
invariant-loop-end l = record {
  within : l.next < length l.self.hashes;
  behind : l.number < l.next;
  here : get_or (buckets l.self.width l.self.hashes) l.next 0 ≡ l.bucket;
  last : l.end ≡ latest (buckets l.self.width l.self.hashes) l.next l.bucket;
  most : l.end ≤ l.next;
}

abbrev pub decreases-loop-end : goal.decreases-loop-end
decreases-loop-end l = l.next
