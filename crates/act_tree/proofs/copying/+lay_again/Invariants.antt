-- The children so far are laid down.
use Rattle.std.proofs.Common.{map, take}
use Rattle.act_tree.specs.Branches.{branches_of, height}
use Rattle.act_tree.specs.Planted.{AreLaid}
use Rattle.act_tree.specs.Seen.{branch_at}
use Rattle.act_tree.proofs.copying.+lay_again.Given as goal

abbrev pub decreases-lay_again : goal.decreases-lay_again
decreases-lay_again l = height (branch_at l.tree.now l.node)

abbrev pub invariant-loop-child : goal.invariant-loop-child
invariant-loop-child l = AreLaid l.initial.arena l.arena l.below.items (branches_of (map (branch_at l.tree) (take l.child-index l.children)))
