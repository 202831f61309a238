use Rattle.std.proofs.Common.{◌∙◌, sym, ap}
use Rattle.law_refs.specs.Missing.{dangling_in}
use Rattle.law_reports.specs.Dangling.{dangling_table}
use Rattle.law_reports.proofs.SameMembers.{same_members}
use Rattle.law_reports.proofs.laws.dangling_is_one_table.Goals as goal

pub returns : goal.returns
returns c = λ entries day one other first second.
    let works =
    same_members (first.all).works (second.all).works (first.all).in_order (second.all).in_order
    (λ work. (first.all).all work ∙ sym ((second.all).all work)) in
    first.is
    ∙ ap dangling_table ((first.all).is ∙ ap (dangling_in entries day) works ∙ sym (second.all).is)
    ∙ sym second.is
