use Rattle.act_tree.proofs.StayingNodes.{stay_on}
use Rattle.std.proofs.Common.{◌∙◌, ap, List, ℕ}
use Rattle.act_tree.specs.Branches.{Branches, branches_of}
use Rattle.act_tree.specs.Brought.{brought}
use Rattle.act_tree.specs.Changes.{removed}
use Rattle.act_tree.specs.Provisions.{Provision}
use Rattle.act_tree.specs.Seen.{tree_view, provision_at}
use Rattle.act_tree.specs.Trees.{TreeValue}
use Rattle.act_tree.proofs.BroughtWids.{brought_apart}
use Rattle.act_tree.proofs.ReplacedNodes.{replaced_text}
use Rattle.act_tree.specs.declared.limits.TheConstants.{MAX_DEPTH}
use Rattle.act_tree.proofs.LowTexts.{as_low}
use Rattle.act_tree.proofs.LowNodes.{beside_low}
use Rattle.act_tree.proofs.tree.Tree.put_instead.Goals as goal

pub put_nodes-requires-clause-depth : goal.put_nodes-requires-clause-depth
put_nodes-requires-clause-depth c =
    let new : Branches Provision = brought c.args.by (branches_of c.args.nodes.now) in
    as_low MAX_DEPTH _ _ (c.place_of-parent.ensures.before new) (beside_low c.args.self.now c.args.id new c.requires.node c.requires.provision c.requires.depth)

pub returns-clause-tree : goal.returns-clause-tree
returns-clause-tree c =
    let old = c.args.self.now in
    let mid = c.put_nodes.new.self in
    let id = c.args.id in
    let value : TreeValue = tree_view old in
    let new : Branches Provision = brought c.args.by (branches_of c.args.nodes.now) in
    let parent : List ℕ = (provision_at old c.place_of-parent.result.0).wid in
    c.take_away.ensures.tree
    ∙ ap {B = TreeValue} (λ p. record (tree_view mid) { body = removed p.wid (tree_view mid).body }) (c.in_ok-put_nodes.ensures.says id c.requires.node)
    ∙ ap {B = TreeValue} (λ t. record t { body = removed (provision_at old id).wid t.body }) c.in_ok-put_nodes.ensures.tree
    ∙ ap {B = TreeValue} (λ bs. record value { body = removed (provision_at old id).wid bs }) (c.place_of-parent.ensures.before new)
    ∙ ap {B = TreeValue} (λ bs. record value { body = bs }) (replaced_text old id new c.requires.node c.requires.provision (brought_apart c.args.by (branches_of c.args.nodes.now) value.body c.requires.fresh))

pub returns-clause-stay : goal.returns-clause-stay
returns-clause-stay c =
    stay_on c.args.self.now c.put_nodes.new.self c.take_away.new.self c.in_ok-put_nodes.ensures.nodes c.in_ok-put_nodes.ensures.says c.take_away.ensures.stay
