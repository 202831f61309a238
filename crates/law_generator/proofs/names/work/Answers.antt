use Rattle.law_generator.specs.Acts.{work}
use Rattle.law_generator.proofs.Readings.{work_is_read}
use Rattle.law_generator.proofs.names.work.Goals as goal

pub work_named-requires : goal.work_named-requires
unfolding work
work_named-requires c = work_is_read
