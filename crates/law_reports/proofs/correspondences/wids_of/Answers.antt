-- What stands below the root is the text.
use Rattle.std.proofs.Common.{◌∙◌, sym, ap, ◌++◌, map}
use Rattle.act_tree.specs.Branches.{branches_of}
use Rattle.act_tree.specs.Seen.{branch_at, below_at}
use Rattle.act_tree.specs.Wids.{all_wids}
use Rattle.act_tree.proofs.Walking.{body_is}
use Rattle.law_reports.proofs.correspondences.wids_of.Goals as goal

pub returns : goal.returns
returns c =
    let tree = c.args.tree.now in
    c.in_ok-add_wids.ensures
    ∙ ap (λ ws. ws ++ all_wids (branches_of (map (branch_at tree) c.children.result.now))) c.new-wids.ensures.items
    ∙ ap all_wids (c.children.ensures.branches ∙ ap (below_at tree) c.root.ensures.root ∙ sym (body_is tree))
