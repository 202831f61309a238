-- Of the numbers that are left the last of the wId is that of all, and the last of them is in its bucket.
use Rattle.std.proofs.Common.{◌≡◌, ◌≤◌, length}
use Rattle.act_tree.specs.LastNumbers.{last_passing, last_named, is_named}
use Rattle.act_tree.specs.LevelHashes.{hash_on}
use Rattle.act_tree.specs.HashIndex.{EndsIn}
use Rattle.act_tree.proofs.wid_index.WidIndex.last.Given as goal

abbrev pub invariant-loop-end : goal.invariant-loop-end
invariant-loop-end l = record {
  most : l.end ≤ length l.self.wids;
  same : last_passing (is_named l.self.wids l.wid) l.end ≡ last_named l.self.wids l.wid;
  here : EndsIn l.self-inside.chains (hash_on 0 l.wid) l.end;
}

abbrev pub decreases-loop-end : goal.decreases-loop-end
decreases-loop-end l = l.end
