use Rattle.std.proofs.Common.{rules, sym}
use Rattle.law_register.specs.Answer.Counted.{is_same_id}
use Rattle.law_register.proofs.Continuing.{found_sound}
use Rattle.law_register.proofs.answer.replaying.apply_id.Goals as goal

pub apply_known-requires-clause-fresh : goal.apply_known-requires-clause-fresh
apply_known-requires-clause-fresh g c = c.requires.replayed.fresh c.args.id (search rules) (search rules) c.requires.fresh

pub apply_known-requires-clause-sound : goal.apply_known-requires-clause-sound
apply_known-requires-clause-sound g c =
    found_sound (λ m. is_same_id m.id c.args.id) c.args.mods.now c.in-Some.known.now c.requires.sound (sym c.in-Some.ensures)
