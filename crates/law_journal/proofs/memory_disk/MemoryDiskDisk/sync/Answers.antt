use Rattle.law_journal.proofs.MemorySteps.{was_synced, idles_synced}
use Rattle.law_journal.proofs.PartlyDone.{failed_sync}
use Rattle.law_journal.proofs.memory_disk.MemoryDiskDisk.sync.Goals as goal

pub returns-clause-durable : goal.returns-clause-durable
returns-clause-durable c t = was_synced c.args.self.now.history c.count_change.new.self.history c.sync.new.self c.count_change.ensures.history c.sync.ensures

pub returns-clause-idle : goal.returns-clause-idle
returns-clause-idle c = idles_synced c.args.self.now.history c.count_change.new.self.history c.sync.new.self c.count_change.ensures.history c.sync.ensures

pub returns-in-Err-clause-idle : goal.returns-in-Err-clause-idle
returns-in-Err-clause-idle c =
    failed_sync c.args.self.now.history c.count_change.new.self.history c.sync_part.new.history c.count_change.ensures.history c.count_change.new.self.effect c.sync_part.ensures
