use Rattle.std.proofs.Common.{◌∙◌, sym, ap, subst, ℕ, List, [], ◌∷◌, ◌++◌}
use Rattle.law_follow.specs.Replicas.{payloads_of}
use Rattle.law_follow.specs.Taking.{Fits}
use Rattle.law_follow.proofs.Ahead.{gathered}
use Rattle.law_follow.proofs.Stepping.{added_answer}
use Rattle.law_follow.proofs.gathering.gather.Goals as goal

pub push-requires-clause-fits : goal.push-requires-clause-fits
push-requires-clause-fits c =
    subst (λ (l : List ℕ). Fits c.args.replica.now.register.entries c.args.pending.entry l) (sym c.requires.follows.bytes) c.requires.follows.fits

pub returns-in-Ok-clause-steps : goal.returns-in-Ok-clause-steps
returns-in-Ok-clause-steps c = record {
  answered = added_answer c.args.replica.now c.args.number c.args.pending c.requires.right c.requires.next c.requires.follows;
  payloads = c.push.ensures.payloads ∙ ap (λ (l : List ℕ). payloads_of c.args.replica.now ++ l ∷ []) c.requires.follows.bytes;
  pending = c.push.ensures.pending;
}

pub returns-in-Ok-clause-ahead : goal.returns-in-Ok-clause-ahead
returns-in-Ok-clause-ahead c =
    gathered c.args.replica.now c.push.new.self c.args.batch.now c.put.new.self c.args.pending c.push.ensures.end
    (c.push.ensures.payloads ∙ ap (λ (l : List ℕ). payloads_of c.args.replica.now ++ l ∷ []) c.requires.follows.bytes)
    c.in-Ok.ensures.put c.pending_has_size.ensures
