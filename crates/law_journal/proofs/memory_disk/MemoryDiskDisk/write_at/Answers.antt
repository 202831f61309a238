use Rattle.std.proofs.Common.{rules, ◌≤◌, length}
use Rattle.law_journal.proofs.MemorySteps.{wrote}
use Rattle.law_journal.proofs.PartlyDone.{failed_write}
use Rattle.law_journal.proofs.memory_disk.MemoryDiskDisk.write_at.Goals as goal

pub returns-clause-change : goal.returns-clause-change
returns-clause-change c =
    let within : c.args.place ≤ length c.args.self.now.history.bytes = search rules in
    wrote c.args.self.now.history c.count_change.new.self.history c.write.new.self c.count_change.ensures.history c.args.place c.args.bytes.now within c.write.ensures.held

pub returns-in-Err-clause-change : goal.returns-in-Err-clause-change
returns-in-Err-clause-change c =
    let within : c.args.place ≤ length c.args.self.now.history.bytes = search rules in
    failed_write c.args.self.now.history c.count_change.new.self.history c.write_part.new.history c.count_change.ensures.history c.count_change.new.self.effect c.args.place c.args.bytes.now within c.write_part.ensures
