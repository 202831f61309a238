use Rattle.std.proofs.Common.{◌≡◌, ◌∙◌, ap, sym, subst, ℕ, List, length, arith}
use Rattle.law_register.specs.Register.LawList.{laws}
use Rattle.law_register.proofs.Chains.{IsLeft, left_all, left_more, left_none, next_of}
use Rattle.law_register.proofs.Gathering.{step_within, before_step, before_less}
use Rattle.law_register.proofs.register.knowing.numbers_on.Goals as goal

pub loop-number-init : goal.loop-number-init
loop-number-init c =
    let w = c.args.work.now in
    let L = laws c.args._entries.now in
    let P : List ℕ → Type 0 = λ numbers. IsLeft w L c.args.viewpoint c.last_on-number.result numbers in
    subst P (sym c.new-numbers.ensures.items) (left_all w L c.args.viewpoint c.last_on-number.result (c.last_on-number.ensures ∙ (c.requires.stands.works w).last))

pub step_of-number-requires-clause-within : goal.step_of-number-requires-clause-within
step_of-number-requires-clause-within c =
    omega (arith, c.loop-number.invariant.within, step_within c.args.indexes.now c.args._entries.now c.requires, ap length c.deref.ensures.value)

pub loop-number-smaller : goal.loop-number-smaller
loop-number-smaller c =
    let number = c.loop-number.number in
    let left = c.loop-number.invariant in
    let next = next_of c.args.work.now (laws c.args._entries.now) number c.loop-number-test.true left.within left.last in
    before_less c.args.indexes.now c.args._entries.now c.args.work.now number c.deref.result.now c.step_of-number.result c.requires next c.deref.ensures.value c.step_of-number.ensures

pub loop-number-preserved : goal.loop-number-preserved
loop-number-preserved c =
    let number = c.loop-number.number in
    let s = c.step_of-number.result in
    let w = c.args.work.now in
    let L = laws c.args._entries.now in
    let left = c.loop-number.invariant in
    let next = next_of w L number c.loop-number-test.true left.within left.last in
    left_more w L c.args.viewpoint number s.before c.loop-number.numbers.items c.add_number.new.numbers.items left next
    (before_step c.args.indexes.now c.args._entries.now w number c.deref.result.now s c.requires next c.deref.ensures.value c.step_of-number.ensures) c.in_ok-add_number.ensures

pub returns : goal.returns
returns c =
    let none : c.loop-number.number ≡ 0 = omega (arith, c.loop-number-test.false) in
    left_none c.args.work.now (laws c.args._entries.now) c.args.viewpoint c.loop-number.number c.loop-number.numbers.items c.loop-number.invariant none
