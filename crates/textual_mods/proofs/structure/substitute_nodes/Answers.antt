use Rattle.std.proofs.Common.{◌≡◌, ◌∙◌, sym, subst, true}
use Rattle.std.specs.Prelude.{Result, IfOk, OnOk}
use Rattle.std.proofs.lemmas.Bool.{eqb-true}
use Rattle.act_tree.specs.declared.cause.Cause.{Cause}
use Rattle.act_tree.specs.Branches.{Branches, branches_of}
use Rattle.act_tree.specs.Changes.{is_in}
use Rattle.act_tree.specs.Provisions.{Provision}
use Rattle.act_tree.specs.Seen.{tree_view}
use Rattle.textual_mods.specs.Edits.{outcome_of, tree_after, within_limits}
use Rattle.textual_mods.proofs.Substituted.{node_is, all_is}
use Rattle.textual_mods.proofs.structure.substitute_nodes.Goals as goal

pub returns-then-eq-clause-outcome : goal.returns-then-eq-clause-outcome
returns-then-eq-clause-outcome g c =
    let t = c.args.tree.now in
    let P : Result (Branches Provision) Cause → Type 0 = λ r. IfOk c.substitute_all.result (λ o. o ≡ outcome_of (within_limits (tree_view t) r)) in
    subst P (sym (all_is t c.args.by (branches_of c.args.new.now) c.in-Some.id c.args.wid.now (eqb-true c.in-Some.id c.root.result (sym c.eq.ensures ∙ c.if-eq.true) ∙ c.root.ensures.root) (c.in-Some.ensures.wid ∙ c.as_bytes.ensures.value))) c.substitute_all.ensures.outcome

pub returns-then-eq-clause-tree : goal.returns-then-eq-clause-tree
returns-then-eq-clause-tree g c =
    let t = c.args.tree.now in
    let P : Result (Branches Provision) Cause → Type 0 = λ r. OnOk c.substitute_all.result (tree_view c.substitute_all.new.tree ≡ tree_after (tree_view t) (within_limits (tree_view t) r)) in
    subst P (sym (all_is t c.args.by (branches_of c.args.new.now) c.in-Some.id c.args.wid.now (eqb-true c.in-Some.id c.root.result (sym c.eq.ensures ∙ c.if-eq.true) ∙ c.root.ensures.root) (c.in-Some.ensures.wid ∙ c.as_bytes.ensures.value))) c.substitute_all.ensures.tree

pub returns-clause-outcome : goal.returns-clause-outcome
returns-clause-outcome g c =
    let t = c.args.tree.now in
    let there : is_in c.args.wid.now (tree_view t).body ≡ true = rw c.as_bytes.ensures.value at (sym c.in-Some.ensures.found) in
    let P : Result (Branches Provision) Cause → Type 0 = λ r. IfOk c.substitute_node.result (λ o. o ≡ outcome_of (within_limits (tree_view t) r)) in
    subst P (sym (node_is t c.args.by (branches_of c.args.new.now) c.in-Some.id c.args.wid.now there (c.in-Some.ensures.wid ∙ c.as_bytes.ensures.value))) c.substitute_node.ensures.outcome

pub returns-clause-tree : goal.returns-clause-tree
returns-clause-tree g c =
    let t = c.args.tree.now in
    let there : is_in c.args.wid.now (tree_view t).body ≡ true = rw c.as_bytes.ensures.value at (sym c.in-Some.ensures.found) in
    let P : Result (Branches Provision) Cause → Type 0 = λ r. OnOk c.substitute_node.result (tree_view c.substitute_node.new.tree ≡ tree_after (tree_view t) (within_limits (tree_view t) r)) in
    subst P (sym (node_is t c.args.by (branches_of c.args.new.now) c.in-Some.id c.args.wid.now there (c.in-Some.ensures.wid ∙ c.as_bytes.ensures.value))) c.substitute_node.ensures.tree
