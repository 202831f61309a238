use Rattle.lawdesk.proofs.Dangles.{listed}
use Rattle.lawdesk.proofs.reporting.dangling_in.Goals as goal

pub returns : goal.returns
returns c =
    let book = c.args.book.now in
    listed c.dangling.result book.register.entries c.args.day book.refs
    (c.what_dangles_is_listed.ensures book.register.entries c.args.day c.day_is_numbered.ensures.0 (c.requires).refs) c.dangling.ensures
