-- Of those from which a way goes down none is greater than the next number, which has the first level.
use Rattle.std.proofs.Common.{◌≡◌, ℕ, true, drop, IfSome}
use Rattle.eid_paths.specs.Levels.{level_text}
use Rattle.act_tree.specs.Slots.{at, number, size}
use Rattle.act_tree.proofs.LatestNumbers.{IsUpTo, up_to, IsOne}
use Rattle.act_tree.proofs.WaysFound.{leads}
use Rattle.act_tree.proofs.tree.Tree.of_levels.Given as goal

abbrev pub invariant-loop-next : goal.invariant-loop-next
invariant-loop-next l =
    IfSome l.next (IsOne (at l.self.arena) (level_text l.first.element l.first.num) (size l.self.arena))
    × ((i : ℕ) → leads l.self.numbering (at l.self.arena) (number l.self.arena) (size l.self.arena) l.self.whole l.first (drop 1 l.levels) i ≡ true → IsUpTo l.next i)

abbrev pub decreases-loop-next : goal.decreases-loop-next
decreases-loop-next l = up_to l.next
