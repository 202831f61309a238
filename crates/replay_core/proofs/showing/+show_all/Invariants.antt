-- The provisions shown so far are the first of the nodes, shown.
use Rattle.std.proofs.Common.{◌≡◌, map, option_map, take}
use Rattle.act_tree.specs.Branches.{branches_of, heights}
use Rattle.act_tree.specs.Seen.{tree_view, branch_at}
use Rattle.law_register.specs.Answer.Answers.{shown}
use Rattle.replay_core.proofs.showing.+show_all.Given as goal

abbrev pub decreases-show_all : goal.decreases-show_all
decreases-show_all l = heights (branches_of (map (branch_at l.tree.now) l.ids.now))

abbrev pub invariant-loop-id : goal.invariant-loop-id
invariant-loop-id l =
    l.shown ≡ map (shown l.on.known.now l.on.reading l.on.day (tree_view l.tree).numbering l.flag (option_map (λ s. s.now) l.above)) (map (branch_at l.tree) (take l.id-index l.ids))
