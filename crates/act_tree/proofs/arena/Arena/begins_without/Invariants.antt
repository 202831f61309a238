-- The number that is visited next has the level, and those up to it tell what all tell.
use Rattle.std.proofs.Common.{◌≡◌}
use Rattle.eid_paths.specs.Levels.{level_text}
use Rattle.act_tree.specs.LevelsOfNodes.{some_past}
use Rattle.act_tree.specs.Slots.{at, size}
use Rattle.act_tree.proofs.LevelsVisited.{IsMet, upto}
use Rattle.act_tree.proofs.arena.Arena.begins_without.Given as goal

abbrev pub invariant-loop-next : goal.invariant-loop-next
invariant-loop-next l = record {
  has : IsMet l.self (level_text l.element l.num) l.next;
  same : some_past l.numbering (at l.self) (size l.self) l.gone (level_text l.element l.num) (upto l.next)
      ≡ some_past l.numbering (at l.self) (size l.self) l.gone (level_text l.element l.num) (size l.self);
}

abbrev pub decreases-loop-next : goal.decreases-loop-next
decreases-loop-next l = upto l.next
