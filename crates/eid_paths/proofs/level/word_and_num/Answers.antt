use Rattle.eid_paths.proofs.Cuts.{halves}
use Rattle.eid_paths.proofs.level.word_and_num.Goals as goal

pub returns : goal.returns
returns c = halves c.args.text.now c.split_once.result c.split_once.ensures.cases
