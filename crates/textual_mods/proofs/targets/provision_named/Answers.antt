use Rattle.std.proofs.Common.{◌≡◌, ◌∙◌, sym, ap, eq-eqb, true, false, ℕ, List, ◌==◌, Some}
use Rattle.std.specs.Prelude.{option_map}
use Rattle.act_tree.specs.Branches.{branch}
use Rattle.act_tree.specs.Changes.{is_in, root_wid}
use Rattle.act_tree.specs.Seen.{tree_view, provision_at, below_at}
use Rattle.act_tree.proofs.Walking.{branch_is}
use Rattle.textual_mods.specs.Targets as spec
use Rattle.textual_mods.proofs.Naming.{none_named, is_named}
use Rattle.textual_mods.proofs.targets.provision_named.Goals as goal

pub returns-in_err-id-clause-named : goal.returns-in_err-id-clause-named
returns-in_err-id-clause-named c =
    let missing : is_in c.args.wid.now (tree_view c.args.tree.now).body ≡ false = rw c.as_bytes.ensures.value at (sym c.in_err-id.ensures.found) in
    ap (option_map (λ (id : ℕ). branch (provision_at c.args.tree.now id) (below_at c.args.tree.now id))) c.from_residual.ensures
    ∙ sym (none_named c.args.wid.now (tree_view c.args.tree.now).body missing)

pub returns-clause-named : goal.returns-clause-named
returns-clause-named c =
    let other : c.as_bytes.result.now ≡ root_wid → ⊥ =
    λ same. absurd (let equal : (c.in_ok-id.id == c.root.result) ≡ true = eq-eqb c.in_ok-id.id c.root.result (c.in_ok-id.ensures.root.1 same ∙ sym c.root.ensures.root) in
    let told : (c.in_ok-id.id == c.root.result) ≡ false = sym c.eq.ensures ∙ c.if-eq.false in cc) in
    is_named c.as_bytes.result.now (tree_view c.args.tree.now).body (branch (provision_at c.args.tree.now c.in_ok-id.id) (below_at c.args.tree.now c.in_ok-id.id)) other
    (c.in_ok-id.ensures.branch (λ zero. other (c.in_ok-id.ensures.root.0 zero)) ∙ ap Some (branch_is c.args.tree.now c.in_ok-id.id))
    ∙ ap (λ (w : List ℕ). spec.provision_named w (tree_view c.args.tree.now).body) c.as_bytes.ensures.value
