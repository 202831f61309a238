use Rattle.std.proofs.Common.{◌+◌}
use Rattle.law_journal.specs.Disks.{Cut}
use Rattle.law_journal.specs.Journals.{IsSameList}
use Rattle.law_journal.proofs.Moments.{weaker}
use Rattle.law_journal.proofs.Crash.{cut_list, cut_rests}
use Rattle.law_journal.proofs.recovering.cut_behind.Goals as goal

pub returns-in_err-cut_synced-clause-any_moment : goal.returns-in_err-cut_synced-clause-any_moment
returns-in_err-cut_synced-clause-any_moment g c t =
    let o = g.D.Disk.outlook c.args.disk.now in
    weaker (Cut (c.args.gate + 1) o.seen) (IsSameList o.seen) o _ (λ f cut. cut_list o.seen f c.args.gate (c.requires.end t) cut) (c.cut_synced.ensures.any_moment t)

pub returns-in_ok-cut_synced-clause-rests : goal.returns-in_ok-cut_synced-clause-rests
returns-in_ok-cut_synced-clause-rests g c t =
    cut_rests (g.D.Disk.outlook c.args.disk.now) _ c.args.gate (c.requires.end t) (c.in_ok-cut_synced.ensures.cut t) (c.in_ok-cut_synced.ensures.durable t)

pub returns-in_ok-cut_synced-clause-any_moment : goal.returns-in_ok-cut_synced-clause-any_moment
returns-in_ok-cut_synced-clause-any_moment g c t =
    let o = g.D.Disk.outlook c.args.disk.now in
    weaker (Cut (c.args.gate + 1) o.seen) (IsSameList o.seen) o _ (λ f cut. cut_list o.seen f c.args.gate (c.requires.end t) cut) (c.cut_synced.ensures.any_moment t)
