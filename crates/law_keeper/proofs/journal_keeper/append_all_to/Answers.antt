use Rattle.std.proofs.Common.{subst, sym}
use Rattle.std.proofs.lemmas.Result.{err_from_is_err_and}
use Rattle.law_journal.specs.Journals.{AreFrames}
use Rattle.law_journal.proofs.Resting.{listed}
use Rattle.law_keeper.specs.Keepers.{bytes_of}
use Rattle.law_keeper.proofs.OverJournals.{failed_all, done_all, none_made, none_left, leaves_some}
use Rattle.law_keeper.proofs.journal_keeper.append_all_to.Goals as goal

pub returns-in_err-framed-clause-listed : goal.returns-in_err-framed-clause-listed
returns-in_err-framed-clause-listed g c = λ ready t. let j = c.args.journal.now in listed (g.D.Disk.outlook j.disk) j.window j.gate (j.known ready) t

pub returns-in_err-framed-clause-appended : goal.returns-in_err-framed-clause-appended
returns-in_err-framed-clause-appended g c =
    let p = err_from_is_err_and c.from_residual.result c.from_residual.ensures.1 in
    rw (p.1, p.2) (none_made (g.D.Disk.outlook c.args.journal.now.disk) (bytes_of c.args.payloads.now))

pub returns-in_err-framed-clause-crash : goal.returns-in_err-framed-clause-crash
returns-in_err-framed-clause-crash g c =
    let j = c.args.journal.now in
    none_left (g.D.Disk.outlook j.disk) (bytes_of c.args.payloads.now) (g.met.D.Disk.is_outlook j.disk) (λ t. (listed (g.D.Disk.outlook j.disk) j.window j.gate (j.known c.requires.ready) t).durable)

pub returns-in_err-gate-clause-appended : goal.returns-in_err-gate-clause-appended
returns-in_err-gate-clause-appended g c =
    let o = g.D.Disk.outlook c.args.journal.now.disk in
    let n = g.D.Disk.outlook c.append.new.self.disk in
    let all = bytes_of c.args.payloads.now in
    let f = subst (AreFrames all) (sym c.deref.ensures.value) c.in_ok-framed.ensures.frames in
    let p = err_from_is_err_and c.from_residual-in_err-gate.result c.from_residual-in_err-gate.ensures.1 in
    rw (p.1, p.2) (failed_all o n all (λ t. (c.append.ensures.any_moment all f t).tells, c.append.ensures.tells) (c.append.ensures.left all f) c.append.ensures.gates)

pub returns-in_err-gate-clause-crash : goal.returns-in_err-gate-clause-crash
returns-in_err-gate-clause-crash g c =
    let o = g.D.Disk.outlook c.args.journal.now.disk in
    let n = g.D.Disk.outlook c.append.new.self.disk in
    let all = bytes_of c.args.payloads.now in
    leaves_some o n all (c.append.ensures.any_moment all (subst (AreFrames all) (sym c.deref.ensures.value) c.in_ok-framed.ensures.frames))

pub overflow_sub-result : goal.overflow_sub-result
overflow_sub-result g c = c.in_ok-gate.ensures.first

pub returns-clause-appended : goal.returns-clause-appended
returns-clause-appended g c =
    let o = g.D.Disk.outlook c.args.journal.now.disk in
    let n = g.D.Disk.outlook c.append.new.self.disk in
    let all = bytes_of c.args.payloads.now in
    let f = subst (AreFrames all) (sym c.deref.ensures.value) c.in_ok-framed.ensures.frames in
    let j = c.append.new.self in
    rw c.in_ok-gate.ensures.place (done_all o n all j.gate (λ t. (c.append.ensures.any_moment all f t).tells, c.append.ensures.tells)
    (c.in_ok-gate.ensures.added all f) c.append.ensures.gates (c.append.ensures.listed c.in_ok-gate.ensures.ready))

pub returns-clause-crash : goal.returns-clause-crash
returns-clause-crash g c =
    let o = g.D.Disk.outlook c.args.journal.now.disk in
    let n = g.D.Disk.outlook c.append.new.self.disk in
    let all = bytes_of c.args.payloads.now in
    leaves_some o n all (c.append.ensures.any_moment all (subst (AreFrames all) (sym c.deref.ensures.value) c.in_ok-framed.ensures.frames))
