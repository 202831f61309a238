use Rattle.std.proofs.Common.{◌+◌, ◌<◌, ◌∙◌, sym, refl, subst, arith}
use Rattle.law_journal.specs.Journals.{FitsIn}
use Rattle.law_journal.proofs.Moments.{idle_none, idle_both}
use Rattle.law_journal.proofs.Scans.{begins, goes_on, breaks_there, ends_there, as_first}
use Rattle.law_journal.proofs.scanning.end_of_list.Goals as goal

pub loop-place-init : goal.loop-place-init
loop-place-init g c = record {
  first = omega arith;
  within = omega (arith, c.requires.long);
  window = c.requires.window;
  idle = idle_none (g.D.Disk.outlook c.args.disk.now);
  faults = refl;
  walked = λ t. begins (g.D.Disk.outlook c.args.disk.now).seen (c.requires.magic t);
}

pub returns-in-End-clause-end : goal.returns-in-End-clause-end
returns-in-End-clause-end g c t =
    let l = c.loop-place.invariant in
    let found = as_first _ _ c.loop-place.place c.in_ok-step.field-0 l.idle c.in_ok-step.ensures.found t in
    ends_there _ c.loop-place.place (omega (arith, l.within, c.requires.told t)) (l.walked t) (sym c.in-End.is ∙ found)

pub returns-in-Broken-clause-damaged : goal.returns-in-Broken-clause-damaged
returns-in-Broken-clause-damaged g c t =
    let l = c.loop-place.invariant in
    let found = as_first _ _ c.loop-place.place c.in_ok-step.field-0 l.idle c.in_ok-step.ensures.found t in
    breaks_there _ c.loop-place.place c.in-Broken.place c.in-Broken.byte (omega (arith, c.requires.long, c.requires.told t)) (omega (arith, l.within, c.requires.told t)) (l.walked t)
    (sym c.in-Broken.is ∙ found)

pub loop-place-preserved : goal.loop-place-preserved
loop-place-preserved g c =
    let l = c.loop-place.invariant in
    let fits : c.loop-place.place + 5 + c.in-Entry.size < c.args.len = subst (FitsIn c.loop-place.place c.args.len) c.in-Entry.is c.in_ok-step.ensures.fits in
    record {
      first = omega (arith, l.first);
      within = omega (arith, fits);
      window = c.step.ensures.window;
      idle = idle_both _ _ _ (g.met.D.Disk.is_outlook c.args.disk.now) l.idle c.step.ensures.idle;
      faults = c.in_ok-step.ensures.cause ∙ l.faults;
      walked = λ t. goes_on _ c.loop-place.place c.in-Entry.size (l.walked t) (sym c.in-Entry.is ∙ as_first _ _ c.loop-place.place c.in_ok-step.field-0 l.idle c.in_ok-step.ensures.found t);
    }
