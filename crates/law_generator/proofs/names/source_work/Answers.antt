use Rattle.law_generator.specs.Drawn.{source_work}
use Rattle.law_generator.proofs.Readings.{source_is_read}
use Rattle.law_generator.proofs.names.source_work.Goals as goal

pub work_named-requires : goal.work_named-requires
unfolding source_work
work_named-requires c = source_is_read
