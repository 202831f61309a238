use Rattle.act_tree.proofs.Places.{place_within, placed_child, placed_before, placed_after}
use Rattle.act_tree.proofs.tree.Tree.place_of.Goals as goal

pub returns-clause-place : goal.returns-clause-place
returns-clause-place c =
    place_within c.args.self.now c.args.id c.parent-above.result c.place_in.result c.children.result.now c.requires.node c.requires.provision c.parent-above.ensures.number c.children.ensures.numbers c.place_in.ensures

pub returns-clause-child : goal.returns-clause-child
returns-clause-child c =
    placed_child c.args.self.now c.args.id c.parent-above.result c.place_in.result c.children.result.now c.requires.node c.requires.provision c.parent-above.ensures.number c.children.ensures.numbers c.place_in.ensures

pub returns-clause-before : goal.returns-clause-before
returns-clause-before c =
    placed_before c.args.self.now c.args.id c.parent-above.result c.place_in.result c.children.result.now c.requires.node c.requires.provision c.parent-above.ensures.number c.children.ensures.numbers c.place_in.ensures

pub returns-clause-after : goal.returns-clause-after
returns-clause-after c =
    placed_after c.args.self.now c.args.id c.parent-above.result c.place_in.result c.children.result.now c.requires.node c.requires.provision c.parent-above.ensures.number c.children.ensures.numbers c.place_in.ensures
