use Rattle.law_journal.specs.Journals.{read_into}
use Rattle.law_journal.proofs.Resting.{given, listed, idle_known, rests_known}
use Rattle.law_journal.proofs.journal.Journal.read_record.Goals as goal

pub returns-clause-given : goal.returns-clause-given
returns-clause-given g c t =
    let o = g.D.Disk.outlook c.args.self.now.disk in
    let rests = rests_known o c.args.self.now.window c.args.self.now.gate (c.args.self.now.known c.requires) t in
    given o c.args.self.now.gate rests c.args.place (read_into c.entry_at-entry.new.into.items c.entry_at-entry.result) (c.entry_at-entry.ensures.read t)

pub returns-clause-listed : goal.returns-clause-listed
returns-clause-listed g c = λ ready t.
    let o = g.D.Disk.outlook c.args.self.now.disk in
    let n = g.D.Disk.outlook c.entry_at-entry.new.disk in
    let k = idle_known o n c.args.self.now.window c.entry_at-entry.new.window c.args.self.now.gate c.entry_at-entry.ensures.idle (c.args.self.now.known c.requires) c.entry_at-entry.ensures.window in
    listed n c.entry_at-entry.new.window c.args.self.now.gate k t
