use Rattle.act_tree.proofs.StayingNodes.{counted}
use Rattle.act_tree.proofs.tree.Tree.graft.Goals as goal

pub returns-clause-stay : goal.returns-clause-stay
returns-clause-stay g c =
    counted c.args.self.now c.put_nodes.new.self c.count_change.new.self _ c.in_ok-put_nodes.ensures.stay c.count_change.ensures.tree c.count_change.ensures.nodes c.count_change.ensures.says
