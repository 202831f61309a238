use Rattle.frbr_names.proofs.WorkLemmas.{work_spelled}
use Rattle.frbr_names.proofs.laws.read_work_is_spelled.Goals as goal

pub returns : goal.returns
returns c = work_spelled c.args._text.now
