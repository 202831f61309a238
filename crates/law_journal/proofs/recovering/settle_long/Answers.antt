use Rattle.std.proofs.Common.{List, ℕ, subst}
use Rattle.law_journal.specs.Journals.{HasEnd}
use Rattle.law_journal.proofs.Alone.{last_gate_there}
use Rattle.law_journal.proofs.Moments.{idle_both}
use Rattle.law_journal.proofs.Crash.{behind_idle}
use Rattle.law_journal.proofs.recovering.settle_long.Goals as goal

pub returns-in_err-cut_behind-clause-any_moment : goal.returns-in_err-cut_behind-clause-any_moment
returns-in_err-cut_behind-clause-any_moment g c =
    let is = g.met.D.Disk.is_outlook c.args.disk.now in
    let idle = idle_both _ _ _ is c.check_magic.ensures.idle c.end_of_list.ensures.idle in
    λ t. behind_idle _ _ _ is (c.requires.durable t) idle c.cut_behind.ensures.any_moment t

pub returns-clause-any_moment : goal.returns-clause-any_moment
returns-clause-any_moment g c =
    let is = g.met.D.Disk.is_outlook c.args.disk.now in
    let idle = idle_both _ _ _ is c.check_magic.ensures.idle c.end_of_list.ensures.idle in
    λ t. behind_idle _ _ _ is (c.requires.durable t) idle c.cut_behind.ensures.any_moment t

pub returns-in_err-cut_behind-clause-alone : goal.returns-in_err-cut_behind-clause-alone
returns-in_err-cut_behind-clause-alone g c = λ t rest.
    let is = g.met.D.Disk.is_outlook c.args.disk.now in
    let o = g.D.Disk.outlook c.args.disk.now in
    let idle = idle_both _ _ _ is c.check_magic.ensures.idle c.end_of_list.ensures.idle in
    let end : HasEnd o.seen c.in_ok-gate.gate = subst (λ (l : List ℕ). HasEnd l c.in_ok-gate.gate) c.check_magic.ensures.idle.seen (c.in_ok-gate.ensures.end (c.check_magic.ensures.idle.tells.0 t)) in
    idle_both _ _ _ is idle (c.cut_behind.ensures.alone (last_gate_there o.seen c.in_ok-gate.gate c.args.len end (c.requires.told t) rest))

pub returns-clause-alone : goal.returns-clause-alone
returns-clause-alone g c = λ t rest.
    let is = g.met.D.Disk.is_outlook c.args.disk.now in
    let o = g.D.Disk.outlook c.args.disk.now in
    let idle = idle_both _ _ _ is c.check_magic.ensures.idle c.end_of_list.ensures.idle in
    let end : HasEnd o.seen c.in_ok-gate.gate = subst (λ (l : List ℕ). HasEnd l c.in_ok-gate.gate) c.check_magic.ensures.idle.seen (c.in_ok-gate.ensures.end (c.check_magic.ensures.idle.tells.0 t)) in
    idle_both _ _ _ is idle (c.cut_behind.ensures.alone (last_gate_there o.seen c.in_ok-gate.gate c.args.len end (c.requires.told t) rest))
