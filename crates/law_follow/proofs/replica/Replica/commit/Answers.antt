use Rattle.std.proofs.Common.{◌∙◌, sym, ap, subst, ℕ, List, [], ◌∷◌, ◌++◌}
use Rattle.law_follow.specs.Replicas.{payloads_of}
use Rattle.law_follow.specs.Taking.{Fits}
use Rattle.law_follow.proofs.replica.Replica.commit.Goals as goal

pub push-requires-clause-fits : goal.push-requires-clause-fits
push-requires-clause-fits c =
    subst (λ (l : List ℕ). Fits c.args.self.now.register.entries c.args.pending.entry l) (sym c.requires.follows.bytes) c.requires.follows.fits

pub returns-clause-payloads : goal.returns-clause-payloads
returns-clause-payloads c =
    c.push.ensures.payloads ∙ ap (λ (l : List ℕ). payloads_of c.args.self.now ++ l ∷ []) c.requires.follows.bytes

pub returns-clause-right : goal.returns-clause-right
returns-clause-right c = record { opens = c.push.ensures.right.opens; pending = c.push.ensures.right.pending }
