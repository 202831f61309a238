use Rattle.std.proofs.Common.{refl}
use Rattle.law_office.specs.declared.book.Book.{Book}
use Rattle.law_office.proofs.Prepared.{prepared}
use Rattle.law_office.proofs.acting.prepare.Goals as goal

pub returns-in_err-changes-clause-right : goal.returns-in_err-changes-clause-right
returns-in_err-changes-clause-right g c =
    let new : Book = record c.args.book.now { tables = c.make_noted.new.tables; naming = c.make_noted.new.naming } in
    prepared c.args.book.now new c.requires.right c.requires.settled refl c.make_noted.ensures.same c.make_noted.ensures.more

pub returns-clause-right : goal.returns-clause-right
returns-clause-right g c =
    let new : Book = record c.args.book.now { tables = c.make_noted.new.tables; naming = c.make_noted.new.naming } in
    prepared c.args.book.now new c.requires.right c.requires.settled refl c.make_noted.ensures.same c.make_noted.ensures.more
