use Rattle.law_keeper.specs.Keepers.{bytes_of}
use Rattle.law_keeper.proofs.OverJournals.{settled, is_ready, still_list_all}
use Rattle.law_keeper.proofs.journal_keeper.JournalKeeperKeeper.append_all.Goals as goal

pub invariant_of-self : goal.invariant_of-self
invariant_of-self g c =
    let o = g.D.Disk.outlook c.args.self.now.journal.disk in
    let n = g.D.Disk.outlook c.append_all_to.new.journal.disk in
    record { undamaged = λ opened. still_list_all o n (bytes_of c.args.payloads.now) c.append_all_to.result c.append_all_to.ensures.appended (c.args.self.now.undamaged opened) }

pub returns-clause-settled : goal.returns-clause-settled
returns-clause-settled g c = λ ready.
    settled (g.D.Disk.outlook c.append_all_to.new.journal.disk) c.append_all_to.new.journal.gate
    (c.append_all_to.ensures.listed (is_ready c.args.self.now.opened c.append_all_to.new.journal.ready ready).1)
