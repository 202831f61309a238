use Rattle.law_keeper.proofs.OverJournals.{settled, is_ready}
use Rattle.law_keeper.proofs.journal_keeper.JournalKeeperKeeper.load.Goals as goal

pub returns-clause-settled : goal.returns-clause-settled
returns-clause-settled g c = λ ready.
    let j = c.load_at-loaded.new.journal in
    settled (g.D.Disk.outlook j.disk) j.gate (c.load_at-loaded.ensures.listed (is_ready c.args.self.now.opened j.ready ready).1)
