use Rattle.std.proofs.Common.{◌+◌, ◌∙◌, sym, ap, List, ℕ, take, drop, arith}
use Rattle.law_journal.specs.Grammar.{holds}
use Rattle.law_journal.proofs.Scans.{entry_there}
use Rattle.law_journal.proofs.reading.entry_at.Goals as goal

pub returns-in_ok-payload_at-in-Entry-clause-read : goal.returns-in_ok-payload_at-in-Entry-clause-read
returns-in_ok-payload_at-in-Entry-clause-read g c t =
    let file = (g.D.Disk.outlook c.args.disk.now).seen in
    let (rest, step_is, long) = entry_there file c.args.place c.in-Entry.size (sym c.in-Entry.is ∙ c.in_ok-step.ensures.found t) in
    let payload_is = c.in_ok-payload_at-in-Entry.ensures.payload (c.step.ensures.idle.tells.0 t) ∙ ap (λ (l : List ℕ). take c.in-Entry.size (drop (c.args.place + 5) l)) c.step.ensures.idle.seen in
    ((rest, step_is ∙ ap (λ (l : List ℕ). holds l rest) (sym payload_is)), omega (arith, c.in_ok-payload_at-in-Entry.ensures.size))
