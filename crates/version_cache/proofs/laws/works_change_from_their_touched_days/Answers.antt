use Rattle.version_cache.proofs.OneMore.{one_more_of}
use Rattle.version_cache.proofs.laws.works_change_from_their_touched_days.Goals as goal

pub returns : goal.returns
returns c = λ entries entry work reading old new legal was is. one_more_of entries entry legal work reading old new was is
