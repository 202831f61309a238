use Rattle.std.proofs.Common.{rules, ◌≡◌, ◌+◌, ◌<◌, ℕ, length, refl, subst, sym}
use Rattle.act_tree.specs.Depths.{depth_of}
use Rattle.act_tree.specs.Seen.{tree_view, provision_at, parent_at}
use Rattle.act_tree.proofs.HowDeep.{deeper}
use Rattle.act_tree.proofs.Places.{child_there, parent_climbs, parent_is}
use Rattle.act_tree.proofs.SlotsOfNodes.{node_within}
use Rattle.act_tree.proofs.tree.Tree.parent.Goals as goal

pub index-requires : goal.index-requires
index-requires c =
    let inside : c.args.id < length c.args.self.now.arena.slots.items = node_within c.args.self.now c.args.id c.requires.node in
    search (rules, inside)

pub returns-clause-number : goal.returns-clause-number
returns-clause-number c = parent_is c.args.self.now c.args.id c.place.result c.index.result.now c.requires.node c.place.ensures c.index.ensures

pub returns-clause-node : goal.returns-clause-node
returns-clause-node c =
    parent_climbs c.args.self.now c.args.id c.index.result.now.above c.requires.node c.requires.provision
    (parent_is c.args.self.now c.args.id c.place.result c.index.result.now c.requires.node c.place.ensures c.index.ensures)

pub returns-clause-child : goal.returns-clause-child
returns-clause-child c =
    child_there c.args.self.now c.args.id c.index.result.now.above c.requires.node c.requires.provision
    (parent_is c.args.self.now c.args.id c.place.result c.index.result.now c.requires.node c.place.ensures c.index.ensures)

pub returns-clause-depth : goal.returns-clause-depth
returns-clause-depth c =
    let t = c.args.self.now in
    let up : c.index.result.now.above ≡ parent_at t c.args.id = parent_is t c.args.id c.place.result c.index.result.now c.requires.node c.place.ensures c.index.ensures in
    let P : ℕ → Type 0 = λ j. depth_of (provision_at t c.args.id).wid (tree_view t).body ≡ depth_of (provision_at t j).wid (tree_view t).body + 1 in
    subst P (sym up) (deeper t c.args.id c.requires.node c.requires.provision (parent_climbs t c.args.id (parent_at t c.args.id) c.requires.node c.requires.provision refl))
