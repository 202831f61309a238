use Rattle.act_tree.proofs.StayingNodes.{counted}
use Rattle.act_tree.proofs.tree.Tree.merge_next.Goals as goal

pub returns-clause-stay : goal.returns-clause-stay
returns-clause-stay g c =
    counted c.args.self.now c.take_next_in.new.self c.count_change.new.self _ c.in_ok-take_next_in.ensures.stay c.count_change.ensures.tree c.count_change.ensures.nodes c.count_change.ensures.says
