use Rattle.std.proofs.Common.{◌∙◌, sym, ap, ◌++◌, map, List, None}
use Rattle.act_tree.specs.Branches.{Branches, branches_of}
use Rattle.act_tree.specs.Provisions.{Provision}
use Rattle.act_tree.specs.Seen.{below_at, branch_at, tree_view}
use Rattle.act_tree.proofs.Walking.{body_is}
use Rattle.law_refs.specs.Missing as spec
use Rattle.law_refs.specs.declared.node_ref.NodeRef.{NodeRef}
use Rattle.law_office.proofs.text_refs.text_refs.Goals as goal

pub returns : goal.returns
returns c =
    let tree = c.args.tree.now in
    let top = c.children-top.ensures.branches ∙ ap (below_at tree) c.root.ensures.root ∙ sym (body_is tree) in
    c.in_ok-add_all.ensures
    ∙ ap (λ (found : List NodeRef). found ++ spec.all_branch_refs (tree_view tree).numbering None (branches_of (map (branch_at tree) c.children-top.result.now))) c.new-found.ensures
    ∙ ap (λ (bs : Branches Provision). spec.all_branch_refs (tree_view tree).numbering None bs) top
