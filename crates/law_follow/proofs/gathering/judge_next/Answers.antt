-- A payload that may stand behind the others is added with its entry, and one that may not is refused, as an opening would find it.
use Rattle.std.proofs.Common.{◌∙◌, sym, ap, subst, Err, List, ℕ}
use Rattle.law_follow.specs.Opening.{with_payload}
use Rattle.law_follow.specs.Replicas.{Judges}
use Rattle.law_follow.proofs.Stepping.{refused_step}
use Rattle.law_follow.proofs.gathering.judge_next.Goals as goal

pub gather_entry-requires-clause-spelled : goal.gather_entry-requires-clause-spelled
gather_entry-requires-clause-spelled c = c.in-Ok.ensures.spelled ∙ c.as_slice.ensures.value

pub gather_entry-requires-clause-fits : goal.gather_entry-requires-clause-fits
gather_entry-requires-clause-fits c =
    ap (with_payload c.args.replica.now.register.entries) (sym c.as_slice.ensures.value) ∙ c.in-Ok.ensures.judged

pub returns-in-Err-clause-steps : goal.returns-in-Err-clause-steps
returns-in-Err-clause-steps c =
    rw c.from.ensures
    (refused_step c.args.replica.now c.args.number c.args.payload.items c.in-Err.unfit c.requires.right c.requires.settled c.requires.next
    (subst (λ (bytes : List ℕ). Judges c.args.replica.now.register.entries (Err c.in-Err.unfit) (with_payload c.args.replica.now.register.entries bytes))
    c.as_slice.ensures.value c.in-Err.ensures.judged))
