-- What the nodes that are left make of what was found is what all of them make of what was found before.
use Rattle.std.proofs.Common.{◌≡◌, map, option_map, drop}
use Rattle.act_tree.specs.Branches.{branches_of, heights}
use Rattle.act_tree.specs.Faults.{all_owns}
use Rattle.act_tree.specs.Seen.{tree_view, branch_at}
use Rattle.act_tree.specs.Surveys.{seen, all_surveyed}
use Rattle.act_tree.proofs.walks.+survey.Given as goal

abbrev pub decreases-survey : goal.decreases-survey
decreases-survey l = heights (branches_of (map (branch_at l.tree.now) l.ids.now))

abbrev pub invariant-loop-id : goal.invariant-loop-id
invariant-loop-id l =
    all_surveyed (tree_view l.tree).numbering (option_map (λ s. s.now) l.above) l.levels (all_owns (branches_of (map (branch_at l.tree) (drop l.id-index l.ids)))) (seen l.survey_so_far)
    ≡ all_surveyed (tree_view l.tree).numbering (option_map (λ s. s.now) l.above) l.levels (all_owns (branches_of (map (branch_at l.tree) l.ids))) (seen l.initial.survey_so_far)
