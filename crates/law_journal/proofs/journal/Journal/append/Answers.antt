use Rattle.std.proofs.Common.{arith}
use Rattle.law_journal.proofs.Lists.{kept_gates}
use Rattle.law_journal.proofs.Resting.{known, has_list, rests_known}
use Rattle.law_journal.proofs.Windows.{empty_window}
use Rattle.law_journal.proofs.journal.Journal.append.Goals as goal

pub append_at-requires-clause-rests : goal.append_at-requires-clause-rests
append_at-requires-clause-rests g c = rests_known (g.D.Disk.outlook c.args.self.now.disk) c.args.self.now.window c.args.self.now.gate (c.args.self.now.known c.requires.ready)

pub returns-in_err-self-clause-gates : goal.returns-in_err-self-clause-gates
returns-in_err-self-clause-gates g c t =
    kept_gates (g.D.Disk.outlook c.args.self.now.disk).seen c.requires.framed.0 (g.D.Disk.outlook c.append_at.new.disk).seen (c.append_at.ensures.left c.requires.framed.0 c.requires.framed.1 t)

pub invariant_of-self-2 : goal.invariant_of-self-2
invariant_of-self-2 g c =
    let n = g.D.Disk.outlook c.append_at.new.disk in
    record { known = λ ready. known n c.forget.new.self c.in_ok-self.field-0 (omega (arith, (c.args.self.now.known c.requires.ready).first, c.in_ok-self.ensures.place)) c.in_ok-self.ensures.bound (empty_window n c.forget.new.self c.forget.ensures) c.in_ok-self.ensures.rests }

pub returns-clause-listed : goal.returns-clause-listed
returns-clause-listed g c = λ ready t. has_list (g.D.Disk.outlook c.append_at.new.disk) c.in_ok-self.field-0 c.in_ok-self.ensures.bound (c.in_ok-self.ensures.rests t)

pub returns-clause-gates : goal.returns-clause-gates
returns-clause-gates g c t =
    kept_gates (g.D.Disk.outlook c.args.self.now.disk).seen c.requires.framed.0 (g.D.Disk.outlook c.append_at.new.disk).seen (c.append_at.ensures.left c.requires.framed.0 c.requires.framed.1 t)
