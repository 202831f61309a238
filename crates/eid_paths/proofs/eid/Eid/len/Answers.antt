use Rattle.eid_paths.specs.Eids.{levels_in}
use Rattle.eid_paths.proofs.EidLaws.{some_level}
use Rattle.eid_paths.proofs.eid.Eid.len.Goals as goal

pub returns-clause-some : goal.returns-clause-some
returns-clause-some c = rw c.self.invariant.1 (some_level c.self.inside.text.now (levels_in c.self.inside.text.now) c.self.invariant.0)
