use Rattle.std.proofs.Common.{◌≡◌, ◌∙◌, ◌++◌, ap, arith, length}
use Rattle.std.proofs.lemmas.Result.{IfOk-weaker}
use Rattle.law_register.specs.Answer.Order.{order}
use Rattle.law_register.specs.Answer.Replay.{VersionValue, as_enacted, replayed}
use Rattle.law_register.specs.Answer.Soundness.{id_twice}
use Rattle.law_register.proofs.DueOnce.{order_once}
use Rattle.replay_core.proofs.replaying.replay.Goals as goal

pub continue_replay-requires-clause-apart : goal.continue_replay-requires-clause-apart
continue_replay-requires-clause-apart g c =
    let known = c.args.known.now in
    ap (λ (v : VersionValue). id_twice (v.applied ++ c.as_slice.result.now)) c.in_ok-version.ensures.version
    ∙ ap id_twice (c.as_slice.ensures ∙ c.in_ok-ids.ensures)
    ∙ order_once known c.args.reading c.args.day c.requires.sound.ids

pub returns-clause-version : goal.returns-clause-version
returns-clause-version g c =
    let known = c.args.known.now in
    IfOk-weaker c.continue_replay.result _ _
    (λ v e. e
    ∙ ap (λ (w : VersionValue). replayed known.mods w c.as_slice.result.now) c.in_ok-version.ensures.version
    ∙ ap (replayed known.mods (as_enacted known.act)) (c.as_slice.ensures ∙ c.in_ok-ids.ensures))
    c.continue_replay.ensures.version

pub returns-clause-changes : goal.returns-clause-changes
returns-clause-changes g c = IfOk-weaker c.continue_replay.result _ _ (λ v e. e.changes) c.continue_replay.ensures.replayed

pub returns-clause-steps : goal.returns-clause-steps
returns-clause-steps g c =
    let same : length c.as_slice.result.now ≡ length (order c.args.known.now c.args.reading c.args.day) = ap length (c.as_slice.ensures ∙ c.in_ok-ids.ensures) in
    omega (arith, same, c.continue_replay.ensures.steps)
