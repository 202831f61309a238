use Rattle.std.proofs.Common.{◌∙◌, sym, ap}
use Rattle.law_register.specs.Register.LawList.{laws, works_enacted}
use Rattle.law_reports.specs.Tables.{table_text}
use Rattle.law_reports.specs.Unapplied.{rows_of_all, unapplied_names}
use Rattle.law_reports.proofs.InOrder.{same_in_order}
use Rattle.law_reports.proofs.laws.unapplied_is_one_table.Goals as goal

pub returns : goal.returns
returns c = λ entries day one other first second.
    first.is
    ∙ ap (λ works. table_text unapplied_names (rows_of_all entries day works))
    (same_in_order (works_enacted (laws entries)) first.works second.works first.all second.all first.in_order second.in_order)
    ∙ sym second.is
