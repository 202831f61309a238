-- What is found so far, and what the provisions that are left have.
use Rattle.std.proofs.Common.{◌≡◌, ◌++◌, drop, map, option_map}
use Rattle.act_tree.specs.Branches.{branches_of, heights}
use Rattle.act_tree.specs.Seen.{branch_at, tree_view}
use Rattle.law_refs.specs.Missing.{all_branch_refs}
use Rattle.law_office.proofs.text_refs.+add_all.Given as goal

abbrev pub decreases-add_all : goal.decreases-add_all
decreases-add_all l = heights (branches_of (map (branch_at l.tree.now) l.ids.now))

abbrev pub invariant-loop-id : goal.invariant-loop-id
invariant-loop-id l =
    l.found ++ all_branch_refs (tree_view l.tree).numbering (option_map (λ s. s.now) l.above) (branches_of (map (branch_at l.tree) (drop l.id-index l.ids)))
    ≡ l.initial.found ++ all_branch_refs (tree_view l.tree).numbering (option_map (λ s. s.now) l.above) (branches_of (map (branch_at l.tree) l.ids))
