use Rattle.law_journal.proofs.MemorySteps.{was_cut}
use Rattle.law_journal.proofs.PartlyDone.{failed_cut}
use Rattle.law_journal.proofs.memory_disk.MemoryDiskDisk.cut.Goals as goal

pub returns-clause-change : goal.returns-clause-change
returns-clause-change c = was_cut c.args.self.now.history c.count_change.new.self.history c.cut.new.self c.count_change.ensures.history c.args.len c.cut.ensures

pub returns-in-Err-clause-change : goal.returns-in-Err-clause-change
returns-in-Err-clause-change c =
    failed_cut c.args.self.now.history c.count_change.new.self.history c.cut_part.new.history c.count_change.ensures.history c.count_change.new.self.effect c.args.len c.cut_part.ensures
