use Rattle.std.proofs.Common.{◌∙◌, ◌≤◌, subst, sym, length, ℕ, List}
use Rattle.version_cache.specs.Rows.{kept_view}
use Rattle.version_cache.specs.declared.row.Row.{Row}
use Rattle.version_cache.proofs.Ahead.{last_after, no_more, stay_ascend}
use Rattle.version_cache.proofs.table.Table.kept_after.Goals as goal

pub split_at-parts-requires : goal.split_at-parts-requires
split_at-parts-requires c =
    subst (λ (rows : List Row). c.args.revision.now.kept ≤ length rows) (sym c.as_slice.ensures.value)
    (subst (λ (count : ℕ). count ≤ length c.args.self.now.rows.items) (sym c.requires) (no_more c.args.revision.now.touched c.args.self.now.rows.items))

pub last_by-before-requires : goal.last_by-before-requires
last_by-before-requires c =
    stay_ascend c.args.revision.now.touched c.args.revision.now.kept c.args.self.now.rows.items c.as_slice.result.now c.split_at-parts.result.0.now c.args.self.now.ascending
    c.as_slice.ensures.value c.requires c.split_at-parts.ensures.front

pub returns : goal.returns
returns c =
    c.last_by.ensures
    ∙ last_after c.args.revision.now.touched c.args.revision.now.kept c.args.day c.args.self.now.rows.items c.as_slice.result.now c.split_at-parts.result.0.now
    c.args.revision.now.rows.items c.as_slice-2.result.now (kept_view c.args.self.now.enacted) (kept_view c.last_by-before.result.now)
    c.args.self.now.ascending c.as_slice.ensures.value c.as_slice-2.ensures.value c.requires c.split_at-parts.ensures.front c.last_by-before.ensures
