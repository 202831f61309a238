use Rattle.std.proofs.Common.{rules, ◌≡◌, ◌∙◌, sym, ap, is_some, List, ℕ}
use Rattle.std.proofs.lemmas.Bool.{eqb-false, eqb-true}
use Rattle.act_tree.specs.Changes.{is_in, root_wid}
use Rattle.act_tree.specs.Seen.{tree_view}
use Rattle.act_tree.proofs.Texts.{other_text}
use Rattle.held_provisions.proofs.Flagged.{not_in, not_root}
use Rattle.held_provisions.proofs.spans.node_of.Goals as goal

pub returns-in_default-clause-none : goal.returns-in_default-clause-none
returns-in_default-clause-none c =
    let body = (tree_view c.args.tree.now).body in
    let same : c.as_bytes.result.now ≡ c.args.provision.now = search rules in
    not_in c.args.provision.now body (ap (λ (w : List ℕ). is_in w body) (sym same) ∙ sym c.find.ensures.found ∙ ap is_some c.in_default.is)

pub returns-then-eq-clause-none : goal.returns-then-eq-clause-none
returns-then-eq-clause-none c =
    let same : c.as_bytes.result.now ≡ c.args.provision.now = search rules in
    let either = rw c.in-Some.is at c.find.ensures.root in
    not_root c.args.tree.now c.args.provision.now
    (sym same ∙ either.0 (eqb-true c.in-Some.node c.root.result (sym c.eq.ensures ∙ c.if-eq.true) ∙ c.root.ensures.root))

pub returns-clause-provision : goal.returns-clause-provision
returns-clause-provision c =
    let same : c.as_bytes.result.now ≡ c.args.provision.now = search rules in
    let either = rw c.in-Some.is at c.find.ensures.root in
    other_text c.args.provision.now root_wid
    (λ is. eqb-false c.in-Some.node c.root.result (sym c.eq.ensures ∙ c.if-eq.false) (either.1 (same ∙ is) ∙ sym c.root.ensures.root))
