-- A split is held back by what is told before, or made.
use Rattle.std.proofs.Common.{◌∙◌, sym, ap}
use Rattle.eid_paths.specs.declared.element.Element.{Element}
use Rattle.act_tree.specs.Seen.{tree_view}
use Rattle.textual_mods.specs.Edits.{tree_after, outcome_of}
use Rattle.textual_mods.specs.Insertions.{split_fault}
use Rattle.textual_mods.specs.declared.outcome.Outcome.TheVariants.{Unapplied}
use Rattle.textual_mods.proofs.SplitTrees.{split_held, split_done}
use Rattle.textual_mods.proofs.splitting.part_along.Goals as goal

pub returns-in-Some-clause-outcome : goal.returns-in-Some-clause-outcome
returns-in-Some-clause-outcome g c =
    c.held_back.ensures.outcome ∙ ap Unapplied c.cause.ensures
    ∙ sym (ap outcome_of (split_held c.args.tree.now c.args.id c.place_of-parent.result.0 c.place_of-parent.result.1 c.args.by c.args.cut.children c.args.cut.head c.args.num c.args.heading c.args.cut.tail c.requires.fits c.requires.node c.requires.provision c.place_of-parent.ensures.parent c.place_of-parent.ensures.after c.requires.num c.in-Some.fault c.is_long-long.result c.is_long-long.ensures (sym c.in-Some.is ∙ c.fault_of_split.ensures ∙ ap (λ (e : Element). split_fault c.args.tree.now c.place_of-parent.result.0 e c.args.num c.is_long-long.result) c.provision-element.ensures.element)))

pub returns-in-Some-clause-tree : goal.returns-in-Some-clause-tree
returns-in-Some-clause-tree g c = sym (ap (tree_after (tree_view c.args.tree.now)) (split_held c.args.tree.now c.args.id c.place_of-parent.result.0 c.place_of-parent.result.1 c.args.by c.args.cut.children c.args.cut.head c.args.num c.args.heading c.args.cut.tail c.requires.fits c.requires.node c.requires.provision c.place_of-parent.ensures.parent c.place_of-parent.ensures.after c.requires.num c.in-Some.fault c.is_long-long.result c.is_long-long.ensures (sym c.in-Some.is ∙ c.fault_of_split.ensures ∙ ap (λ (e : Element). split_fault c.args.tree.now c.place_of-parent.result.0 e c.args.num c.is_long-long.result) c.provision-element.ensures.element)))

pub returns-in_ok-cut_node-in-None-clause-outcome : goal.returns-in_ok-cut_node-in-None-clause-outcome
returns-in_ok-cut_node-in-None-clause-outcome g c = sym (ap outcome_of (split_done c.args.tree.now c.args.id c.place_of-parent.result.0 c.place_of-parent.result.1 c.args.by c.args.cut.children c.args.cut.head c.args.num c.args.heading c.args.cut.tail c.requires.fits c.requires.node c.requires.provision c.place_of-parent.ensures.parent c.place_of-parent.ensures.after c.requires.num c.is_long-long.result c.is_long-long.ensures (sym c.in-None.is ∙ c.fault_of_split.ensures ∙ ap (λ (e : Element). split_fault c.args.tree.now c.place_of-parent.result.0 e c.args.num c.is_long-long.result) c.provision-element.ensures.element)))

pub returns-in_ok-cut_node-in-None-clause-tree : goal.returns-in_ok-cut_node-in-None-clause-tree
returns-in_ok-cut_node-in-None-clause-tree g c =
    c.in_ok-cut_node-in-None.ensures.tree ∙ sym (ap (tree_after (tree_view c.args.tree.now)) (split_done c.args.tree.now c.args.id c.place_of-parent.result.0 c.place_of-parent.result.1 c.args.by c.args.cut.children c.args.cut.head c.args.num c.args.heading c.args.cut.tail c.requires.fits c.requires.node c.requires.provision c.place_of-parent.ensures.parent c.place_of-parent.ensures.after c.requires.num c.is_long-long.result c.is_long-long.ensures (sym c.in-None.is ∙ c.fault_of_split.ensures ∙ ap (λ (e : Element). split_fault c.args.tree.now c.place_of-parent.result.0 e c.args.num c.is_long-long.result) c.provision-element.ensures.element)))
