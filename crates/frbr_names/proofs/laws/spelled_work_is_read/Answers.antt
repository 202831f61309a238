use Rattle.frbr_names.proofs.WorkLemmas.{work_read}
use Rattle.frbr_names.proofs.laws.spelled_work_is_read.Goals as goal

pub returns : goal.returns
returns c = work_read
