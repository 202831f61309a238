use Rattle.eid_paths.proofs.EidLaws.{eid_is_spelled}
use Rattle.eid_paths.proofs.laws.read_eid_is_spelled.Goals as goal

pub returns : goal.returns
returns c = let are = eid_is_spelled c.args._text.now c.args._levels.now c.requires in record { text = are.0; nums = are.1 }
