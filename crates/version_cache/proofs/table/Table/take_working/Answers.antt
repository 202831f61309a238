use Rattle.std.proofs.Common.{◌≡◌, ◌≤◌, ◌∙◌, sym, ap, subst, arith, ℕ, length, List, Option}
use Rattle.law_register.specs.declared.answer.version.Version.{Version}
use Rattle.version_cache.specs.declared.row.Row.{Row}
use Rattle.version_cache.specs.Rows.{kept_view, rows_view}
use Rattle.version_cache.specs.Tables.{RowValue, last_version, rows_before}
use Rattle.version_cache.specs.Working.{IsWorking}
use Rattle.version_cache.proofs.Going.{all_stay}
use Rattle.version_cache.proofs.table.Table.take_working.Goals as goal

pub returns-clause-last : goal.returns-clause-last
returns-clause-last c =
    let t : ℕ = c.args.touched in
    let items : List Row = c.args.self.now.rows.items in
    let last = last_version (kept_view c.args.self.now.enacted) in
    let count : c.count_rows_before.result ≡ length (rows_before t (rows_view items)) =
    c.count_rows_before.ensures.count ∙ ap (λ (xs : List Row). length (rows_before t (rows_view xs))) c.as_slice.ensures.value in
    let all : length items ≤ length (rows_before t (rows_view items)) = omega (arith, count, c.len.ensures, c.if-count_rows_before-len.false) in
    let stay = all_stay t items all in
    subst (λ (working : Option Version). IsWorking (last (rows_before t (rows_view items))) working) (sym c.take.ensures.value)
    (subst (λ (rows : List RowValue). IsWorking (last rows) c.args.self.now.working) (sym stay) c.args.self.now.goes_on)
