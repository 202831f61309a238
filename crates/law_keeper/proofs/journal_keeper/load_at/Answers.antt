use Rattle.std.proofs.Common.{ℕ, Option, Ok, subst}
use Rattle.std.proofs.lemmas.Result.{err_from_is_err_and}
use Rattle.law_journal.specs.Journals.{GivesListed, IsLater, read_into}
use Rattle.law_journal.proofs.Resting.{listed}
use Rattle.law_keeper.proofs.OverJournals.{some_given, none_given, fault_given}
use Rattle.law_keeper.proofs.journal_keeper.load_at.Goals as goal

pub returns-in_err-next-clause-given : goal.returns-in_err-next-clause-given
returns-in_err-next-clause-given g c =
    let o = g.D.Disk.outlook c.args.journal.now.disk in
    let n = g.D.Disk.outlook c.read_record.new.self.disk in
    let j = c.args.journal.now in
    let p = err_from_is_err_and c.from_residual.result c.from_residual.ensures.1 in
    rw (p.1, p.2) (fault_given o n c.read_record.ensures.idle j.gate (listed o j.window j.gate (j.known c.requires)) c.args.cursor c.saturating_add.result c.saturating_add.ensures _ c.in_err-next.ensures.given)

pub returns-in-Some-clause-given : goal.returns-in-Some-clause-given
returns-in-Some-clause-given g c =
    let o = g.D.Disk.outlook c.args.journal.now.disk in
    let n = g.D.Disk.outlook c.read_record.new.self.disk in
    let j = c.args.journal.now in
    let later = subst (λ (found : Option ℕ). IsLater c.saturating_add.result found) c.in-Some.is c.in_ok-next.ensures.later in
    some_given o n c.read_record.ensures.idle j.gate (listed o j.window j.gate (j.known c.requires)) c.args.cursor c.saturating_add.result c.saturating_add.ensures c.read_record.new.into.items c.in-Some.next later
    (λ t. subst (λ (found : Option ℕ). GivesListed o.seen c.saturating_add.result (read_into c.read_record.new.into.items (Ok found))) c.in-Some.is (c.in_ok-next.ensures.given t))

pub returns-in-None-clause-given : goal.returns-in-None-clause-given
returns-in-None-clause-given g c =
    let o = g.D.Disk.outlook c.args.journal.now.disk in
    let n = g.D.Disk.outlook c.read_record.new.self.disk in
    let j = c.args.journal.now in
    none_given o n c.read_record.ensures.idle j.gate (listed o j.window j.gate (j.known c.requires)) c.args.cursor c.saturating_add.result c.saturating_add.ensures
    (λ t. subst (λ (found : Option ℕ). GivesListed o.seen c.saturating_add.result (read_into c.read_record.new.into.items (Ok found))) c.in-None.is (c.in_ok-next.ensures.given t))
