use Rattle.dossier_text.proofs.Telling.{told_by, cut_by}
use Rattle.dossier_text.proofs.texting.tell_text.Goals as goal

pub returns-in-Ok-clause-told : goal.returns-in-Ok-clause-told
returns-in-Ok-clause-told g c =
    told_by c.args.job _ _ _ _ c.in_ok-input.input.items c.as_slice.result.now _ c.in-Ok.field-0
    c.in_ok-input.ensures.read c.in_ok-report.ensures c.as_slice.ensures.value c.in-Ok.ensures.appended

pub returns-clause-cut : goal.returns-clause-cut
returns-clause-cut g c = λ _.
    cut_by c.args.job _ _ _ _ c.in_ok-input.input.items c.as_slice.result.now _ c.in-Err.field-0
    c.in_ok-input.ensures.read c.in_ok-report.ensures c.as_slice.ensures.value c.in-Err.ensures.appended
