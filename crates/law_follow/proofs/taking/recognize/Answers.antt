use Rattle.std.proofs.Common.{◌≡◌, ◌↔◌, ◌-◌, subst, true, false, List, ℕ, []}
use Rattle.std.specs.Prelude.{get_or, IsTrue}
use Rattle.law_follow.specs.Opening.{spellings}
use Rattle.law_follow.proofs.Stepping.{recognized}
use Rattle.law_follow.proofs.taking.recognize.Goals as goal

pub returns-in-Ok-true : goal.returns-in-Ok-true
returns-in-Ok-true c =
    recognized c.args.replica.now c.args.number c.args.payload.items c.in-Ok-true.field-0 true c.in-Ok-true.field-0-test c.requires.last c.requires.settled
    (subst (λ (bytes : List ℕ). IsTrue c.in-Ok-true.field-0 ↔ (get_or (spellings c.args.replica.now.register.entries) (c.args.number - 1) [] ≡ bytes))
    c.as_slice.ensures.value c.in-Ok-true.ensures)

pub returns-in-Ok-false : goal.returns-in-Ok-false
returns-in-Ok-false c =
    recognized c.args.replica.now c.args.number c.args.payload.items c.in-Ok-false.field-0 false c.in-Ok-false.field-0-test c.requires.last c.requires.settled
    (subst (λ (bytes : List ℕ). IsTrue c.in-Ok-false.field-0 ↔ (get_or (spellings c.args.replica.now.register.entries) (c.args.number - 1) [] ≡ bytes))
    c.as_slice.ensures.value c.in-Ok-false.ensures)
