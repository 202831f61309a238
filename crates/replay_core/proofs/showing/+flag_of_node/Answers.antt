use Rattle.std.proofs.Common.{rules, ◌≡◌, ◌∙◌, sym, ap, ◌+◌, ◌<◌, Bool, Some, arith}
use Rattle.std.proofs.lemmas.Bool.{eqb-true, eqb-false}
use Rattle.std.proofs.lemmas.Result.{IfOk-weaker}
use Rattle.act_tree.specs.Depths.{depth_of}
use Rattle.act_tree.specs.Seen.{tree_view, provision_at}
use Rattle.replay_core.proofs.NodesFound.{root_flagged, flag_of_own, flag_from_above}
use Rattle.replay_core.proofs.showing.+flag_of_node.Goals as goal

pub returns-then-eq : goal.returns-then-eq
returns-then-eq t c =
    root_flagged c.args.on.now.known.now c.args.on.now.reading c.args.on.now.day c.args.tree.now c.args.node
    (eqb-true c.args.node c.root.result (sym c.eq.ensures ∙ c.if-eq.true) ∙ c.root.ensures.root)
    ∙ ap (λ (f : Bool). Some f) (sym c.requires.flag)

pub returns-in-Some : goal.returns-in-Some
returns-in-Some t c =
    let other : c.args.node ≡ 0 → ⊥ = λ is. eqb-false c.args.node c.root.result (sym c.eq.ensures ∙ c.if-eq.false) (is ∙ sym c.root.ensures.root) in
    flag_of_own c.args.on.now.known.now c.args.on.now.reading c.args.on.now.day c.args.tree.now c.args.node c.provision.result.wid.now c.in_ok-own.own
    c.requires.node other c.provision.ensures.wid c.in_ok-own.ensures (Some c.in-Some.bears) c.in-Some.is

pub flag_of_node-requires : goal.flag_of_node-requires
flag_of_node-requires t c =
    let tree = c.args.tree.now in
    let deeper : depth_of (provision_at tree c.args.node).wid (tree_view tree).body ≡ depth_of (provision_at tree c.parent-parent.result).wid (tree_view tree).body + 1 = c.parent-parent.ensures.depth in
    let higher : depth_of (provision_at tree c.parent-parent.result).wid (tree_view tree).body < depth_of (provision_at tree c.args.node).wid (tree_view tree).body = omega arith in
    (search (rules, higher), (c.parent-parent.ensures.node, (c.requires.flag, omega (arith, deeper, c.requires.depth))))

pub returns-in-None : goal.returns-in-None
returns-in-None t c =
    let other : c.args.node ≡ 0 → ⊥ = λ is. eqb-false c.args.node c.root.result (sym c.eq.ensures ∙ c.if-eq.false) (is ∙ sym c.root.ensures.root) in
    IfOk-weaker c.flag_of_node.result _ _
    (λ found there. flag_from_above c.args.on.now.known.now c.args.on.now.reading c.args.on.now.day c.args.tree.now c.args.node c.provision.result.wid.now c.in_ok-own.own
    c.requires.node other c.provision.ensures.wid c.in_ok-own.ensures c.in-None.is
    c.parent-parent.result found c.parent-parent.ensures.number c.parent-parent.ensures.node there)
    c.flag_of_node.ensures
