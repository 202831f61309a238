use Rattle.std.proofs.Common.{rules, sym, ◌<◌, length}
use Rattle.act_tree.proofs.SlotsOfNodes.{node_within, node_says}
use Rattle.act_tree.proofs.tree.Tree.slot.Goals as goal

pub index-requires : goal.index-requires
index-requires c =
    let inside : c.args.id < length c.args.self.now.arena.slots.items = node_within c.args.self.now c.args.id c.requires in
    search (rules, inside)

pub returns : goal.returns
returns c = sym (node_says c.args.self.now c.args.id c.place.result c.index.result.now c.requires c.place.ensures c.index.ensures)
