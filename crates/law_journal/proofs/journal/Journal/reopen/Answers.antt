use Rattle.law_journal.proofs.Resting.{known, has_list}
use Rattle.law_journal.proofs.journal.Journal.reopen.Goals as goal

pub invariant_of-self-2 : goal.invariant_of-self-2
invariant_of-self-2 g c =
    let n = g.D.Disk.outlook c.recover.new.disk in
    record { known = λ ready. known n c.recover.new.window c.in_ok-self.field-0 c.in_ok-self.ensures.first c.in_ok-self.ensures.bound c.in_ok-self.ensures.window (λ t. c.in_ok-self.ensures.rests (c.recover.ensures.tells t)) }

pub returns-clause-listed : goal.returns-clause-listed
returns-clause-listed g c = λ ready t.
    has_list (g.D.Disk.outlook c.recover.new.disk) c.in_ok-self.field-0 c.in_ok-self.ensures.bound (c.in_ok-self.ensures.rests (c.recover.ensures.tells t))
