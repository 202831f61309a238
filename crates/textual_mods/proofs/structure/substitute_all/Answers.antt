-- What takes the place of all is held back by its own first fault, or made.
use Rattle.std.proofs.Common.{◌≡◌, ◌∙◌, sym, ap, Some, arith}
use Rattle.act_tree.specs.Branches.{Branches, branches_of}
use Rattle.act_tree.specs.Brought.{bringer, brought}
use Rattle.act_tree.specs.Changes.{substituted}
use Rattle.act_tree.specs.Faults.{first_fault}
use Rattle.act_tree.specs.Provisions.{Provision}
use Rattle.act_tree.specs.Seen.{tree_view, provision_at}
use Rattle.act_tree.specs.Trees.{changed_once}
use Rattle.act_tree.specs.declared.limits.NodeLimit.TheVariants.{Plain}
use Rattle.act_tree.specs.declared.limits.TheConstants.{MAX_DEPTH}
use Rattle.act_tree.specs.declared.surveying.TheConstants.{NONE_THROUGHOUT}
use Rattle.act_tree.proofs.LowTexts.{as_low, faultless_low, heights_enacted}
use Rattle.act_tree.proofs.ReplacedNodes.{root_text}
use Rattle.textual_mods.specs.Edits.{tree_after, outcome_of}
use Rattle.textual_mods.specs.declared.outcome.Outcome.TheVariants.{Unapplied}
use Rattle.textual_mods.proofs.BodyReplaced.{body_held, body_done}
use Rattle.textual_mods.proofs.structure.substitute_all.Goals as goal

pub replace-requires-clause-depth : goal.replace-requires-clause-depth
replace-requires-clause-depth g c =
    let new : Branches Provision = brought c.args.by (branches_of c.args.new.now) in
    let root : substituted (provision_at c.args.tree.now c.root-root.result).wid new (tree_view c.args.tree.now).body ≡ new =
    ap (λ j. substituted (provision_at c.args.tree.now j).wid new (tree_view c.args.tree.now).body) c.root-root.ensures.root ∙ sym (root_text c.args.tree.now new) in
    as_low MAX_DEPTH _ _ root
    (omega (arith, heights_enacted NONE_THROUGHOUT (Some (bringer c.args.by)) (branches_of c.args.new.now), faultless_low NONE_THROUGHOUT Plain (branches_of c.args.new.now) c.requires.payload))

pub returns-in-Some-clause-outcome : goal.returns-in-Some-clause-outcome
returns-in-Some-clause-outcome g c =
    let t = tree_view c.args.tree.now in
    let new = branches_of c.args.new.now in
    let is = rw (← c.in_ok-fault.ensures.same) at c.fault_of.ensures in
    c.held_back.ensures.outcome ∙ ap Unapplied c.cause.ensures
    ∙ sym (ap outcome_of (body_held t c.args.by new c.in-Some.fault (sym c.in-Some.is ∙ is ∙ ap (λ m. first_fault m c.limit.result new) c.numbering.ensures ∙ ap (λ l. first_fault t.numbering l new) c.limit.ensures)))

pub returns-in-Some-clause-tree : goal.returns-in-Some-clause-tree
returns-in-Some-clause-tree g c =
    let t = tree_view c.args.tree.now in
    let new = branches_of c.args.new.now in
    let is = rw (← c.in_ok-fault.ensures.same) at c.fault_of.ensures in
    sym (ap (tree_after t) (body_held t c.args.by new c.in-Some.fault (sym c.in-Some.is ∙ is ∙ ap (λ m. first_fault m c.limit.result new) c.numbering.ensures ∙ ap (λ l. first_fault t.numbering l new) c.limit.ensures)))

pub returns-in_ok-replace-in-None-clause-outcome : goal.returns-in_ok-replace-in-None-clause-outcome
returns-in_ok-replace-in-None-clause-outcome g c =
    let t = tree_view c.args.tree.now in
    let new = branches_of c.args.new.now in
    let is = rw (← c.in_ok-fault.ensures.same) at c.fault_of.ensures in
    sym (ap outcome_of (body_done t c.args.by new (sym c.in-None.is ∙ is ∙ ap (λ m. first_fault m c.limit.result new) c.numbering.ensures ∙ ap (λ l. first_fault t.numbering l new) c.limit.ensures)))

pub returns-in_ok-replace-in-None-clause-tree : goal.returns-in_ok-replace-in-None-clause-tree
returns-in_ok-replace-in-None-clause-tree g c =
    let t = tree_view c.args.tree.now in
    let new = branches_of c.args.new.now in
    let is = rw (← c.in_ok-fault.ensures.same) at c.fault_of.ensures in
    c.in_ok-replace-in-None.ensures.tree
    ∙ ap (λ j. changed_once t (substituted (provision_at c.args.tree.now j).wid (brought c.args.by new) t.body)) c.root-root.ensures.root
    ∙ ap (changed_once t) (sym (root_text c.args.tree.now (brought c.args.by new)))
    ∙ sym (ap (tree_after t) (body_done t c.args.by new (sym c.in-None.is ∙ is ∙ ap (λ m. first_fault m c.limit.result new) c.numbering.ensures ∙ ap (λ l. first_fault t.numbering l new) c.limit.ensures)))
