use Rattle.version_cache.proofs.OneMore.{one_more}
use Rattle.version_cache.proofs.laws.nothing_changes_before_the_touched_day.Goals as goal

pub returns : goal.returns
returns c = λ entries entry work reading old new legal was is. one_more entries entry legal work reading old new was is
