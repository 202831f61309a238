use Rattle.std.proofs.Common.{rules, ◌≡◌, ◌∙◌, sym, ap, ◌<◌, get_or, length, arith}
use Rattle.std.proofs.lemmas.Bool.{eqb-true, eqb-false}
use Rattle.act_tree.specs.Arena.{climbs_past}
use Rattle.act_tree.specs.Slots.{laid, laid_of}
use Rattle.act_tree.proofs.Climbing.{past_on, past_off}
use Rattle.act_tree.proofs.LaidDown.{laid_slot}
use Rattle.act_tree.proofs.arena.Arena.climbs_past.Goals as goal

pub returns-then-eq-2 : goal.returns-then-eq-2
returns-then-eq-2 c =
    let items = c.args.self.now.slots.items in
    let slot = c.in-Some.slot.now in
    let h = c.in-Some.ensures.lookup in
    let it : slot ≡ get_or items c.loop-steps.id slot =
    h.1 ∙ ap (λ k. get_or items k slot) c.place-in-loop-steps.ensures in
    let within : c.place-in-loop-steps.result < length items = h.3.0 in
    let inside : c.loop-steps.id < length items = omega (arith, within, c.place-in-loop-steps.ensures) in
    let below : c.loop-steps.id ≡ 0 → ⊥ = λ root. c.if-place-eq0.false (c.place.ensures ∙ root) in
    let all : c.len-steps.result ≡ length items = search rules in
    let own : slot.above ≡ c.loop-steps.id = eqb-true slot.above c.loop-steps.id (sym c.if-eq-2.ensures) in
    sym (past_off c.loop-steps.steps (laid items) c.args.gone c.loop-steps.id (laid_of slot) (laid_slot items c.loop-steps.id slot inside it) below own)
    ∙ c.loop-steps.invariant
    ∙ ap (λ n. climbs_past n (laid items) c.args.gone c.args.id) all

pub loop-steps-preserved : goal.loop-steps-preserved
loop-steps-preserved c =
    let items = c.args.self.now.slots.items in
    let slot = c.in-Some.slot.now in
    let h = c.in-Some.ensures.lookup in
    let it : slot ≡ get_or items c.loop-steps.id slot =
    h.1 ∙ ap (λ k. get_or items k slot) c.place-in-loop-steps.ensures in
    let within : c.place-in-loop-steps.result < length items = h.3.0 in
    let inside : c.loop-steps.id < length items = omega (arith, within, c.place-in-loop-steps.ensures) in
    let below : c.loop-steps.id ≡ 0 → ⊥ = λ root. c.if-place-eq0.false (c.place.ensures ∙ root) in
    let apart : c.loop-steps.id ≡ c.args.gone → ⊥ = eqb-false c.loop-steps.id c.args.gone (sym c.if-eq.ensures) in
    let other : slot.above ≡ c.loop-steps.id → ⊥ = eqb-false slot.above c.loop-steps.id (sym c.if-eq-2.ensures) in
    let some : 0 < c.loop-steps.steps = search rules in
    past_on c.loop-steps.steps (laid items) c.args.gone c.loop-steps.id (laid_of slot) some (laid_slot items c.loop-steps.id slot inside it) below apart other
    ∙ c.loop-steps.invariant
