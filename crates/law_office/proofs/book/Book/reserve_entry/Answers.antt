use Rattle.std.proofs.Common.{refl}
use Rattle.law_office.specs.declared.book.Book.{Book}
use Rattle.law_office.proofs.Reserving.{reserved}
use Rattle.law_office.proofs.book.Book.reserve_entry.Goals as goal

pub returns-in_err-reserve-clause-right : goal.returns-in_err-reserve-clause-right
returns-in_err-reserve-clause-right c =
    let new : Book = record c.args.self.now { register = c.reserve.new.self } in
    reserved c.args.self.now new c.requires c.reserve.ensures.entries refl refl refl refl refl refl

pub returns-in_err-reserve-2-clause-right : goal.returns-in_err-reserve-2-clause-right
returns-in_err-reserve-2-clause-right c =
    let new : Book = record c.args.self.now { register = c.reserve.new.self; tables = c.reserve-2.new.self } in
    reserved c.args.self.now new c.requires c.reserve.ensures.entries c.reserve-2.ensures.entries refl refl refl refl refl

pub returns-clause-right : goal.returns-clause-right
returns-clause-right c =
    let new : Book = record c.args.self.now { register = c.reserve.new.self; tables = c.reserve-2.new.self } in
    reserved c.args.self.now new c.requires c.reserve.ensures.entries c.reserve-2.ensures.entries refl refl refl refl refl
