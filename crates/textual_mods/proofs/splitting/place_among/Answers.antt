use Rattle.std.proofs.Common.{◌≡◌, ◌∙◌, sym, ap, ℕ, ◌+◌, ◌<◌, true, false, List, length, get_or, Some, arith}
use Rattle.std.specs.Prelude.{option_map}
use Rattle.std.specs.Str.{bytes_eq}
use Rattle.act_tree.specs.Seen.{provision_at}
use Rattle.textual_mods.proofs.Placing.{one_here, one_other, shifted, from}
use Rattle.textual_mods.proofs.splitting.place_among.Goals as goal

pub returns-then-eq-clause-place : goal.returns-then-eq-clause-place
returns-then-eq-clause-place c =
    let i : ℕ = c.loop-place.place in
    let d : ℕ = c.index-nodes-place.result in
    let within : i < length c.args.nodes.now = omega arith in
    let here : bytes_eq (provision_at c.args.tree.now (get_or c.args.nodes.now i d)).wid c.args.wid.now ≡ true =
    ap (λ (v : List ℕ). bytes_eq v c.args.wid.now) (sym (c.as_str.ensures ∙ c.provision.ensures.wid ∙ ap (λ (k : ℕ). (provision_at c.args.tree.now k).wid) c.index-nodes-place.is)) ∙ sym c.eq.ensures ∙ c.if-eq.true in
    let zero : i ≡ 0 + i = omega arith in
    ap Some zero
    ∙ sym (ap (option_map (λ (k : ℕ). k + i)) (one_here c.args.tree.now c.args.wid.now c.args.nodes.now i d within here))
    ∙ c.loop-place.invariant

pub loop-place-preserved : goal.loop-place-preserved
loop-place-preserved c =
    let i : ℕ = c.loop-place.place in
    let d : ℕ = c.index-nodes-place.result in
    let within : i < length c.args.nodes.now = omega arith in
    let other : bytes_eq (provision_at c.args.tree.now (get_or c.args.nodes.now i d)).wid c.args.wid.now ≡ false =
    ap (λ (v : List ℕ). bytes_eq v c.args.wid.now) (sym (c.as_str.ensures ∙ c.provision.ensures.wid ∙ ap (λ (k : ℕ). (provision_at c.args.tree.now k).wid) c.index-nodes-place.is)) ∙ sym c.eq.ensures ∙ c.if-eq.false in
    shifted i (from c.args.tree.now c.args.wid.now c.args.nodes.now (i + 1))
    ∙ ap (option_map (λ (k : ℕ). k + i)) (sym (one_other c.args.tree.now c.args.wid.now c.args.nodes.now i d within other))
    ∙ c.loop-place.invariant
