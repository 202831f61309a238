use Rattle.std.proofs.Common.{◌∙◌, ap, subst, sym, List}
use Rattle.law_refs.specs.OfRegister.{IsIndexOf}
use Rattle.law_register.specs.declared.register.entry.Entry.{Entry}
use Rattle.law_office.specs.Offices.{later_of}
use Rattle.law_office.proofs.office.Office.open.Goals as goal

pub returns-in-Ok-clause-refs : goal.returns-in-Ok-clause-refs
returns-in-Ok-clause-refs g c =
    let book = c.in-Ok.book in
    subst (λ (es : List Entry). IsIndexOf es c.new.result.refs) (sym c.new.ensures.entries)
    (subst (IsIndexOf book.register.entries) (sym c.new.ensures.refs) (c.in-Ok.ensures.right).refs)

pub returns-in-Ok-clause-later : goal.returns-in-Ok-clause-later
returns-in-Ok-clause-later g c = c.new.ensures.later ∙ ap (later_of c.in-Ok.book.refs) (c.in-Ok.ensures.new).0
