use Rattle.std.proofs.Common.{[], ◌∷◌, subst, sym}
use Rattle.std.proofs.lemmas.Result.{err_from_is_err_and}
use Rattle.law_journal.specs.Journals.{AreFrames}
use Rattle.law_journal.proofs.Resting.{listed}
use Rattle.law_keeper.specs.JournalKeepers.{holding_of, holding_is}
use Rattle.law_keeper.proofs.Moments.{rests}
use Rattle.law_keeper.proofs.OverJournals.{failed, done, leaves_one}
use Rattle.law_keeper.proofs.journal_keeper.append_to.Goals as goal

pub returns-in_err-framed-clause-listed : goal.returns-in_err-framed-clause-listed
returns-in_err-framed-clause-listed g c = λ ready t. let j = c.args.journal.now in listed (g.D.Disk.outlook j.disk) j.window j.gate (j.known ready) t

pub returns-in_err-gate-clause-appended : goal.returns-in_err-gate-clause-appended
returns-in_err-gate-clause-appended g c =
    let o = g.D.Disk.outlook c.args.journal.now.disk in
    let n = g.D.Disk.outlook c.append.new.self.disk in
    let one = c.args.payload.now ∷ [] in
    let f = subst (AreFrames one) (sym c.deref.ensures.value) c.in_ok-framed.ensures.frames in
    let p = err_from_is_err_and c.from_residual-in_err-gate.result c.from_residual-in_err-gate.ensures.1 in
    rw (p.1, p.2) (failed o n c.args.payload.now (λ t. (c.append.ensures.any_moment one f t).tells, c.append.ensures.tells) (c.append.ensures.left one f) c.append.ensures.gates)

pub returns-in_err-gate-clause-crash : goal.returns-in_err-gate-clause-crash
returns-in_err-gate-clause-crash g c =
    let o = g.D.Disk.outlook c.args.journal.now.disk in
    let n = g.D.Disk.outlook c.append.new.self.disk in
    let one = c.args.payload.now ∷ [] in
    leaves_one o n c.args.payload.now (c.append.ensures.any_moment one (subst (AreFrames one) (sym c.deref.ensures.value) c.in_ok-framed.ensures.frames))

pub overflow_sub-result : goal.overflow_sub-result
overflow_sub-result g c = c.in_ok-gate.ensures.first

pub returns-clause-appended : goal.returns-clause-appended
returns-clause-appended g c =
    let o = g.D.Disk.outlook c.args.journal.now.disk in
    let n = g.D.Disk.outlook c.append.new.self.disk in
    let one = c.args.payload.now ∷ [] in
    let f = subst (AreFrames one) (sym c.deref.ensures.value) c.in_ok-framed.ensures.frames in
    let j = c.append.new.self in
    rw c.in_ok-gate.ensures.place (done o n c.args.payload.now j.gate (λ t. (c.append.ensures.any_moment one f t).tells, c.append.ensures.tells)
    (c.in_ok-gate.ensures.added one f) c.append.ensures.gates (c.append.ensures.listed c.in_ok-gate.ensures.ready))

pub returns-clause-crash : goal.returns-clause-crash
returns-clause-crash g c =
    let o = g.D.Disk.outlook c.args.journal.now.disk in
    let n = g.D.Disk.outlook c.append.new.self.disk in
    let one = c.args.payload.now ∷ [] in
    leaves_one o n c.args.payload.now (c.append.ensures.any_moment one (subst (AreFrames one) (sym c.deref.ensures.value) c.in_ok-framed.ensures.frames))

pub returns-in_err-framed-clause-untouched : goal.returns-in_err-framed-clause-untouched
returns-in_err-framed-clause-untouched g c = λ memory t.
    let disk = c.args.journal.now.disk in
    rests (holding_of (g.D.Disk.outlook disk)) (holding_is (g.D.Disk.outlook disk) (g.met.D.Disk.is_outlook disk)) t
