use Rattle.law_register.proofs.Spellable.{accepted_can}
use Rattle.law_register.proofs.laws.accepted_can_be_spelled.Goals as goal

pub returns : goal.returns
returns c = accepted_can c.args._register.now.entries c.args._entry.now c.requires.accepted c.requires.spelled
