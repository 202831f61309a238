use Rattle.std.proofs.Common.{refl}
use Rattle.replay_core.proofs.answering.answer.Goals as goal

pub answer_text-told-requires : goal.answer_text-told-requires
answer_text-told-requires c = record { known = c.args.known.now; of_act = refl; is = c.requires }
