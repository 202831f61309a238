use Rattle.std.proofs.Common.{rules, ◌≡◌, length, arith}
use Rattle.act_tree.proofs.SlotsOfNodes.{node_within}
use Rattle.act_tree.proofs.tree.Tree.laid_down.Goals as goal

pub returns-clause-past : goal.returns-clause-past
returns-clause-past c k node =
    let is : c.len.result ≡ length c.args.self.now.arena.slots.items = search rules in
    omega (arith, node_within c.args.self.now k node, is)
