use Rattle.std.proofs.Common.{◌≡◌, ◌≤◌, sym, ap, subst, length, Some}
use Rattle.std.specs.Map.{lookup}
use Rattle.law_register.specs.Answer.PastKeys.{is_same_key}
use Rattle.viewpoints.specs.Right.{IsLatest}
use Rattle.viewpoints.proofs.Latest.{promoted_is_latest}
use Rattle.viewpoints.proofs.past_tables.PastTables.renew.Goals as goal

pub returns : goal.returns
returns g c = λ kept found.
    let cache = c.self.inside.tables in
    let few : length cache.entries ≤ 16 = subst (λ es. length es ≤ 16) (sym c.self.view_is) (subst (λ n. n ≤ 16) c.len-few.ensures.len c.len-few.ensures.most) in
    subst (λ es. IsLatest c.args.key.now kept es c.promote.new.self.entries) c.self.view_is
    (promoted_is_latest c.args.key.now kept cache.entries few c.promote.new.self.entries (ap (λ t. t.entries) c.promote.ensures.entries)
    (subst (λ es. lookup (is_same_key c.args.key.now) es ≡ Some kept) (sym c.self.view_is) found))
