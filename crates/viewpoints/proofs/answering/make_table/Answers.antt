use Rattle.std.proofs.Common.{◌≡◌, Some}
use Rattle.law_register.specs.Register.KnownIds.{known_at}
use Rattle.viewpoints.proofs.Making.{made_right}
use Rattle.viewpoints.proofs.answering.make_table.Goals as goal

pub returns-in_ok-table-in-Some-clause-right : goal.returns-in_ok-table-in-Some-clause-right
returns-in_ok-table-in-Some-clause-right g c =
    let q = c.args.question.now in
    let known = c.in-Some.known in
    let told = c.in_ok-known.ensures.known in
    let is = c.in-Some.is in
    let same : known_at c.args.register.now.entries q.work q.viewpoint ≡ Some known = cc in
    made_right g.T.Dated.version_on c.args.register.now.entries q known c.in_ok-known-in-Some.known c.in_ok-table-in-Some.table same
    c.in_ok-judge-in-Some.ensures c.in_ok-known-in-Some.ensures.known c.in_ok-table-in-Some.ensures.versions
