use Rattle.std.proofs.Common.{sym}
use Rattle.law_refs.specs.Listed.{dangling_on}
use Rattle.law_refs.specs.Missing.{IsDangling}
use Rattle.law_office.proofs.AskedFor.{holds_of}
use Rattle.law_office.proofs.office.Office.dangling.Goals as goal

pub returns : goal.returns
returns g c =
    let book = c.self.inside.book in
    rw (sym c.self.view_is)
    (holds_of (IsDangling book.register.entries c.args.day) (dangling_on c.args.day book.refs) c.dangling.result
    (c.what_dangles_is_listed.ensures book.register.entries c.args.day c.day_is_numbered.ensures.0 (c.self.invariant.0).refs) c.dangling.ensures)
