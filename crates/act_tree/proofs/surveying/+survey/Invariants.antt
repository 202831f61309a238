-- What the nodes that are left make of what was found is what all of them make of what was found before.
use Rattle.std.proofs.Common.{◌≡◌, map, option_map, drop}
use Rattle.act_tree.specs.Branches.{branches_of}
use Rattle.act_tree.specs.Specs.{spec_view}
use Rattle.act_tree.specs.Surveys.{seen, all_surveyed}
use Rattle.act_tree.proofs.surveying.+survey.Given as goal

abbrev pub invariant-loop-node : goal.invariant-loop-node
invariant-loop-node l =
    all_surveyed l.numbering (option_map (λ s. s.now) l.above) l.levels (branches_of (map spec_view (drop l.node-index l.node-items))) (seen l.survey_so_far)
    ≡ all_surveyed l.numbering (option_map (λ s. s.now) l.above) l.levels (branches_of (map spec_view l.node-items)) (seen l.initial.survey_so_far)
