use Rattle.eid_paths.proofs.EidLaws.{eid_is_read}
use Rattle.eid_paths.proofs.laws.spelled_eid_is_read.Goals as goal

pub returns : goal.returns
returns c = eid_is_read c.args._levels.now c.requires.some c.requires.nums
