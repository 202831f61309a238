use Rattle.std.proofs.Common.{rules, [], ◌∷◌}
use Rattle.law_journal.proofs.framing.frame.Goals as goal

pub returns-clause-framed : goal.returns-clause-framed
returns-clause-framed c = (c.args.payload.now ∷ [], search rules)
