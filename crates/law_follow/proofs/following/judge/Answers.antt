-- The message is judged, and its answer is that of the step.
use Rattle.law_follow.specs.Frames.{Message}
use Rattle.law_follow.proofs.Handed.{judged_message}
use Rattle.law_follow.proofs.following.judge.Goals as goal

pub returns-clause-takes : goal.returns-clause-takes
returns-clause-takes c =
    let m : Message = record { number = c.args.frame.number; payload = c.args.frame.payload.items } in
    rw c.answer_to.ensures
    (judged_message m c.args.replica.now c.judge_payload-taken.new.replica c.judge_payload-taken.result c.judge_payload-taken.ensures.settled
    c.judge_payload-taken.ensures.steps)
