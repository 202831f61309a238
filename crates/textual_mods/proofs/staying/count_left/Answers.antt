use Rattle.std.proofs.Common.{◌≡◌, ◌∙◌, sym, ap, min, map}
use Rattle.act_tree.specs.Branches.{Branches, branches_of, counts}
use Rattle.act_tree.specs.Provisions.{Provision}
use Rattle.act_tree.specs.Seen.{tree_view, below_at, branch_at}
use Rattle.act_tree.proofs.Walking.{body_is}
use Rattle.textual_mods.specs.Substitutions.{left, wid_of}
use Rattle.textual_mods.proofs.staying.count_left.Goals as goal

pub returns-in-Some : goal.returns-in-Some
returns-in-Some c =
    let t = c.args.tree.now in
    let body : branches_of (map (branch_at t) c.children.result.now) ≡ (tree_view t).body = c.children.ensures.branches ∙ ap (below_at t) c.root.ensures.root ∙ sym (body_is t) in
    c.count_of_left.ensures ∙ ap (λ (bs : Branches Provision). min (counts (left (wid_of t c.args.gone.now) bs)) 4294967295) body
