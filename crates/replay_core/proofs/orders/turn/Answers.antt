use Rattle.std.proofs.Common.{◌≡◌, ◌∙◌, ap}
use Rattle.replay_core.specs.Starts.{due_by}
use Rattle.replay_core.proofs.DueByDays.{due_by_starts}
use Rattle.replay_core.proofs.orders.turn.Goals as goal

pub returns-clause-due : goal.returns-clause-due
returns-clause-due c =
    c.in_ok-change_all.ensures
    ∙ ap (λ l. due_by l c.as_slice-3.result.now) c.as_slice.ensures
    ∙ ap (due_by c.args.on.now.known.now.mods) (c.as_slice-3.ensures.value ∙ c.in_ok-news.ensures)
    ∙ due_by_starts c.args.on.now.reading c.args.on.now.day c.args.on.now.known.now.mods c.args.on.now.known.now.mods
