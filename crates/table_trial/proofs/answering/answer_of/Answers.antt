use Rattle.std.proofs.Common.{refl}
use Rattle.table_trial.proofs.answering.answer_of.Goals as goal

pub answer_text-requires : goal.answer_text-requires
answer_text-requires c = record { known = c.args.known.now; of_act = refl; is = c.requires }
