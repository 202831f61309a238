use Rattle.std.proofs.Common.{◌∙◌, sym}
use Rattle.law_register.proofs.answer.carrier.known_held.Goals as goal

pub carry-requires : goal.carry-requires
carry-requires g c =
    c.known_works_carry_nothing.ensures.viewpoints c.args.register.now.entries c.args.work.now c.args.viewpoint c.in-Some.known
    (sym c.in_ok-known.ensures.known ∙ c.in-Some.is)

pub returns-in_ok-carry-in-Some-clause-sound : goal.returns-in_ok-carry-in-Some-clause-sound
returns-in_ok-carry-in-Some-clause-sound g c =
    c.in_ok-carry-in-Some.ensures.sound (rw c.in-Some.is at c.in_ok-known.ensures.sound)
