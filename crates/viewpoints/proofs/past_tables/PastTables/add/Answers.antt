use Rattle.std.proofs.Common.{◌≤◌, sym, ap, subst, length}
use Rattle.viewpoints.specs.Right.{IsLatest}
use Rattle.viewpoints.proofs.Latest.{put_is_latest}
use Rattle.viewpoints.proofs.past_tables.PastTables.add.Goals as goal

pub returns-clause-ok : goal.returns-clause-ok
returns-clause-ok g c =
    let cache = c.self.inside.tables in
    let few : length cache.entries ≤ 16 = subst (λ es. length es ≤ 16) (sym c.self.view_is) (subst (λ n. n ≤ 16) c.len-few.ensures.len c.len-few.ensures.most) in
    subst (λ es. IsLatest c.args.key c.args.kept es c.put.new.self.entries) c.self.view_is
    (put_is_latest c.args.key c.args.kept cache c.self.invariant few c.put.new.self.entries (ap (λ t. t.entries) c.in_ok-put.ensures.entries))
