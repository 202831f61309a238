use Rattle.std.proofs.Common.{◌∙◌, sym}
use Rattle.law_office.proofs.Histories.{history_length}
use Rattle.law_office.proofs.office.OfficeHeld.count.Goals as goal

pub returns : goal.returns
returns g c =
    let book = c.self.inside.book in
    rw (sym c.self.view_is)
    (c.count.ensures ∙ sym (history_length book.register.entries book.marks.items (c.self.invariant.0).marks))
