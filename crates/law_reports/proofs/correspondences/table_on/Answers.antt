-- The table of two texts is that of the texts of two days.
use Rattle.std.proofs.Common.{◌≡◌, ◌∙◌, ap, subst}
use Rattle.std.specs.Result.{IfOk}
use Rattle.act_tree.specs.Seen.{tree_view}
use Rattle.law_reports.specs.Correspondences.{table_between, text_on}
use Rattle.law_reports.proofs.correspondences.table_on.Goals as goal

pub returns-clause-table : goal.returns-clause-table
returns-clause-table g c =
    let both : table_between (tree_view c.in_ok-before.before.tree) (tree_view c.in_ok-after.after.tree) ≡ table_between (text_on c.args.known.now c.args.first) (text_on c.args.known.now c.args.second) =
    ap (λ v. table_between v.tree (tree_view c.in_ok-after.after.tree)) c.in_ok-before.ensures.version
    ∙ ap (λ v. table_between (text_on c.args.known.now c.args.first) v.tree) c.in_ok-after.ensures.version in
    subst (λ text. IfOk c.table_between.result (λ bytes. bytes.items ≡ text)) both c.table_between.ensures
