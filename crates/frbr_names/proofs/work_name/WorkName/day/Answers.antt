use Rattle.frbr_names.proofs.WorkLemmas.{named_date}
use Rattle.frbr_names.proofs.work_name.WorkName.day.Goals as goal

pub first_day-requires : goal.first_day-requires
first_day-requires c = named_date _ _ c.self.invariant
