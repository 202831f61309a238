use Rattle.std.proofs.Common.{◌∙◌, ap}
use Rattle.law_follow.specs.Opening.{spellings}
use Rattle.law_follow.proofs.Committing.{pushed_right}
use Rattle.law_follow.proofs.Openings.{spellings_last}
use Rattle.law_follow.proofs.replica.Replica.push.Goals as goal

pub returns-clause-payloads : goal.returns-clause-payloads
returns-clause-payloads c = ap spellings c.push.ensures ∙ spellings_last c.args.self.now.register.entries c.args.entry

pub returns-clause-right : goal.returns-clause-right
returns-clause-right c =
    pushed_right c.args.self.now _ c.args.entry c.requires.right c.requires.fits c.push.ensures c.requires.settled
