use Rattle.version_cache.proofs.Early.{not_before}
use Rattle.version_cache.proofs.calendar.is_counted.Goals as goal

pub returns : goal.returns
returns c = not_before c.args.day c.day_is_numbered.ensures.0
