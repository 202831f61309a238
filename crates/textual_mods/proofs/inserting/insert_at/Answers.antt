-- An insertion is held back by what is told before, or made.
use Rattle.std.proofs.Common.{rules, ◌∙◌, sym, ap}
use Rattle.act_tree.specs.Branches.{branches_of}
use Rattle.act_tree.specs.Seen.{tree_view}
use Rattle.act_tree.proofs.KeptNumbers.{wid_there}
use Rattle.textual_mods.specs.Edits.{tree_after, outcome_of}
use Rattle.textual_mods.specs.declared.outcome.Outcome.TheVariants.{Unapplied}
use Rattle.textual_mods.proofs.InsertedTrees.{held_by, done_by}
use Rattle.textual_mods.proofs.Limits.{within_low}
use Rattle.textual_mods.proofs.inserting.insert_at.Goals as goal

pub fault_of_bringing-requires : goal.fault_of_bringing-requires
fault_of_bringing-requires g c =
    let left = wid_there c.args.tree.now c.args.parent c.requires.node in
    search (rules, left)

pub graft-requires-clause-depth : goal.graft-requires-clause-depth
graft-requires-clause-depth g c =
    let is = rw (← c.in_ok-fault.ensures.same) at c.fault_of_bringing.ensures in
    within_low (tree_view c.args.tree.now) _
    (done_by c.args.tree.now c.args.by (branches_of c.args.new.now) c.requires.fits c.requires.payload c.nums_are_kept.ensures.nums c.args.parent c.args.place c.requires.node (sym c.in-None.is ∙ is))

pub returns-in-Some-clause-outcome : goal.returns-in-Some-clause-outcome
returns-in-Some-clause-outcome g c =
    let is = rw (← c.in_ok-fault.ensures.same) at c.fault_of_bringing.ensures in
    c.held_back.ensures.outcome ∙ ap Unapplied c.cause.ensures
    ∙ sym (ap outcome_of (held_by c.args.tree.now c.args.by (branches_of c.args.new.now) c.requires.fits c.requires.payload c.nums_are_kept.ensures.nums c.args.parent c.args.place c.requires.node c.in-Some.fault (sym c.in-Some.is ∙ is)))

pub returns-in-Some-clause-tree : goal.returns-in-Some-clause-tree
returns-in-Some-clause-tree g c =
    let is = rw (← c.in_ok-fault.ensures.same) at c.fault_of_bringing.ensures in
    sym (ap (tree_after (tree_view c.args.tree.now)) (held_by c.args.tree.now c.args.by (branches_of c.args.new.now) c.requires.fits c.requires.payload c.nums_are_kept.ensures.nums c.args.parent c.args.place c.requires.node c.in-Some.fault (sym c.in-Some.is ∙ is)))

pub returns-in_ok-graft-in-None-clause-outcome : goal.returns-in_ok-graft-in-None-clause-outcome
returns-in_ok-graft-in-None-clause-outcome g c =
    let is = rw (← c.in_ok-fault.ensures.same) at c.fault_of_bringing.ensures in
    sym (ap outcome_of (done_by c.args.tree.now c.args.by (branches_of c.args.new.now) c.requires.fits c.requires.payload c.nums_are_kept.ensures.nums c.args.parent c.args.place c.requires.node (sym c.in-None.is ∙ is)))

pub returns-in_ok-graft-in-None-clause-tree : goal.returns-in_ok-graft-in-None-clause-tree
returns-in_ok-graft-in-None-clause-tree g c =
    let is = rw (← c.in_ok-fault.ensures.same) at c.fault_of_bringing.ensures in
    c.in_ok-graft-in-None.ensures.tree
    ∙ sym (ap (tree_after (tree_view c.args.tree.now)) (done_by c.args.tree.now c.args.by (branches_of c.args.new.now) c.requires.fits c.requires.payload c.nums_are_kept.ensures.nums c.args.parent c.args.place c.requires.node (sym c.in-None.is ∙ is)))
