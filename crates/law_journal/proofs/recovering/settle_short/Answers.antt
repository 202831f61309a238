use Rattle.std.proofs.Common.{rules, ◌≡◌, length}
use Rattle.law_journal.proofs.Crash.{start_rests, started_rests}
use Rattle.law_journal.proofs.recovering.settle_short.Goals as goal

pub returns-in_ok-start_synced-clause-rests : goal.returns-in_ok-start_synced-clause-rests
returns-in_ok-start_synced-clause-rests g c t =
    let told = c.read.ensures.idle.tells.0 t in
    start_rests _ 0 (λ is. cc is) (c.in_ok-start_synced.ensures.started told) (c.in_ok-start_synced.ensures.durable told)

pub returns-else-not-is_started-clause-rests : goal.returns-else-not-is_started-clause-rests
returns-else-not-is_started-clause-rests g c t =
    let nine : length c.read.new.into ≡ 9 = search rules in
    started_rests (g.D.Disk.outlook c.args.disk.now) _ _ c.read.new.into c.read.ensures.idle (c.requires.durable t) (c.requires.short t) nine (c.in_ok-count.ensures.given t) c.if-not-is_started.ensures
