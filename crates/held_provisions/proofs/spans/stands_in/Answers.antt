use Rattle.std.proofs.lemmas.Result.{IfOk-weaker}
use Rattle.act_tree.specs.Seen.{provision_at, tree_view}
use Rattle.held_provisions.proofs.Flagged.{not_there, raised}
use Rattle.held_provisions.proofs.spans.stands_in.Goals as goal

pub returns-in-Some : goal.returns-in-Some
returns-in-Some g c =
    let tree = c.args.version.now.tree in
    IfOk-weaker c.flag_of.result _ _
    (λ found e. raised c.args.known.now c.args.reading c.args.day c.args.provision.now (tree_view tree).body (provision_at tree c.in-Some.node).wid found
    (rw c.in-Some.is at c.node_of.ensures.wid) (rw c.in-Some.is at c.node_of.ensures.provision) e)
    c.flag_of.ensures

pub returns-in-None : goal.returns-in-None
returns-in-None g c =
    not_there c.args.known.now c.args.reading c.args.day c.args.provision.now (tree_view c.args.version.now.tree).body (rw c.in-None.is at c.node_of.ensures.none)
