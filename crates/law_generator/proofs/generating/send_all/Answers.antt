-- The command of each request is well spelled, the course goes on by what it leaves, and the first requests cost no more than all.
use Rattle.std.proofs.Common.{◌≡◌, ◌+◌, ◌∙◌, ap, subst, sym, true, ℕ, arith}
use Rattle.law_register.specs.Law.Spelling.{is_well_spelled}
use Rattle.law_register.specs.declared.law.command.Command.{Command}
use Rattle.law_generator.specs.Drawn.{asked}
use Rattle.law_generator.proofs.Spelled.{command_is}
use Rattle.law_generator.proofs.Steps.{command_is_next, costs_go_on, costs_within, entries_go_on, judged_within, state_goes_on}
use Rattle.law_generator.proofs.generating.send_all.Goals as goal

pub send-requires-clause-spelled : goal.send-requires-clause-spelled
send-requires-clause-spelled g c =
    let Spelled : Command → Type 0 = λ command. is_well_spelled command ≡ true in
    subst Spelled (sym c.in_ok-command.ensures.command) (command_is _ _ _)

pub returns-in_err-command-clause-steps : goal.returns-in_err-command-clause-steps
returns-in_err-command-clause-steps g c = λ most bounded.
    omega (arith, c.loop-done.invariant.stepped most bounded, costs_within most c.args.seed c.loop-done.done c.args.count c.loop-done.invariant.within)

pub returns-in_err-send-clause-steps : goal.returns-in_err-send-clause-steps
returns-in_err-send-clause-steps g c = λ most bounded.
    let entries = (g.D.Desk.state c.loop-done.desk).entries in
    let is = c.in_ok-command.ensures.command
    ∙ ap (λ (n : ℕ). (asked (c.loop-done.done + 1) n c.loop-done.draws.state).command) c.front.ensures in
    let next = command_is_next c.args.seed c.loop-done.done entries c.loop-done.draws.state c.loop-done.invariant.entries
    c.loop-done.invariant.draws c.in_ok-command.command is in
    let few = judged_within (λ d. (g.D.Desk.state d).entries) g.D.Desk.judging c.args.seed most bounded c.loop-done.desk c.loop-done.done
    c.loop-done.invariant.entries (c.loop-done.done + 1) c.in_ok-command.command (omega arith) next in
    let more = costs_go_on c.args.seed c.loop-done.done entries c.loop-done.draws.state c.loop-done.invariant.entries
    c.loop-done.invariant.draws most c.in_ok-command.command _ c.args.steps.now c.loop-done.steps c.send.new.steps is
    (c.loop-done.invariant.stepped most bounded) c.send.ensures.steps few in
    omega (arith, more, costs_within most c.args.seed (c.loop-done.done + 1) c.args.count (omega (arith, c.loop-done-test.true, c.loop-done.auto.done-end)))

pub loop-done-preserved : goal.loop-done-preserved
loop-done-preserved g c =
    let seed = c.args.seed in
    let done = c.loop-done.done in
    let so_far = c.loop-done.invariant in
    let entries = (g.D.Desk.state c.loop-done.desk).entries in
    let state = c.loop-done.draws.state in
    let command_is = c.in_ok-command.ensures.command ∙ ap (λ (n : ℕ). (asked (done + 1) n state).command) c.front.ensures in
    let state_is = c.in_ok-command.ensures.state ∙ ap (λ (n : ℕ). (asked (done + 1) n state).state) c.front.ensures in
    let sent = c.in_ok-send.ensures.sent in record {
      entries = entries_go_on seed done entries state so_far.entries so_far.draws c.in_ok-command.command _ command_is sent.entries;
      draws = state_goes_on seed done entries state so_far.entries so_far.draws _ state_is;
      ready = sent.ready;
      counted = c.in_ok-send.ensures.cause ∙ so_far.counted;
      stepped = λ most bounded. costs_go_on seed done entries state so_far.entries so_far.draws most c.in_ok-command.command _ c.args.steps.now
          c.loop-done.steps c.send.new.steps command_is (so_far.stepped most bounded) c.send.ensures.steps
          (judged_within (λ d. (g.D.Desk.state d).entries) g.D.Desk.judging seed most bounded c.loop-done.desk done so_far.entries (done + 1)
          c.in_ok-command.command (omega arith)
          (command_is_next seed done entries state so_far.entries so_far.draws c.in_ok-command.command command_is));
      within = omega (arith, c.loop-done-test.true, c.loop-done.auto.done-end);
    }
