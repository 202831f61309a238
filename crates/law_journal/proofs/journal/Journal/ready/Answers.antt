use Rattle.law_journal.proofs.Resting.{listed}
use Rattle.law_journal.proofs.journal.Journal.ready.Goals as goal

pub returns-clause-listed : goal.returns-clause-listed
returns-clause-listed g c = λ ready t. listed (g.D.Disk.outlook c.args.self.now.disk) c.args.self.now.window c.args.self.now.gate (c.args.self.now.known ready) t
