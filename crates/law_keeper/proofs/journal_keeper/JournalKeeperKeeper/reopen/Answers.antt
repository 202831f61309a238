use Rattle.std.proofs.Common.{◌||◌}
use Rattle.law_keeper.proofs.OverJournals.{settled, is_ready, old_or_same}
use Rattle.law_keeper.proofs.journal_keeper.JournalKeeperKeeper.reopen.Goals as goal

pub returns-clause-settled : goal.returns-clause-settled
returns-clause-settled g c = λ ready.
    let j = c.reopen-opening.new.self in
    settled (g.D.Disk.outlook j.disk) j.gate (c.reopen-opening.ensures.listed (is_ready (c.args.self.now.opened || c.is_ok.result) j.ready ready).1)

pub returns-clause-crash : goal.returns-clause-crash
returns-clause-crash g c = λ t.
    old_or_same (g.D.Disk.outlook c.args.self.now.journal.disk) (g.D.Disk.outlook c.reopen-opening.new.self.disk) (c.reopen-opening.ensures.any_moment t)
