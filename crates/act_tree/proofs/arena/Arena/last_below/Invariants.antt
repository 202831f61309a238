-- Of the numbers that are left the last that has the level is that of all, and the last of them is of the bucket.
use Rattle.std.proofs.Common.{◌≡◌, ◌≤◌}
use Rattle.eid_paths.specs.Levels.{level_text}
use Rattle.act_tree.specs.LevelHashes.{level_hash}
use Rattle.act_tree.specs.HashIndex.{EndsIn}
use Rattle.act_tree.specs.LevelsOfNodes.{latest_at}
use Rattle.act_tree.specs.Slots.{at, size}
use Rattle.act_tree.proofs.arena.Arena.last_below.Given as goal

abbrev pub invariant-loop-end : goal.invariant-loop-end
invariant-loop-end l = record {
  most : l.end ≤ size l.self;
  same : latest_at (at l.self) (level_text l.element l.num) l.end ≡ latest_at (at l.self) (level_text l.element l.num) l.initial.end;
  here : EndsIn l.self.levels (level_hash (level_text l.element l.num)) l.end;
}

abbrev pub decreases-loop-end : goal.decreases-loop-end
decreases-loop-end l = l.end
