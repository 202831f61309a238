-- The rows so far, and those of the days to come, whose orders are left; the last version is that of the last ids; and what the rest costs.
use Rattle.std.proofs.Common.{◌≡◌, ◌+◌, ◌≤◌, ◌++◌, true, drop, map}
use Rattle.act_tree.specs.Seen.{is_own}
use Rattle.law_register.specs.Answer.Versions.{version_view}
use Rattle.std.specs.Vec.Iter.{into_iter_items}
use Rattle.law_register.specs.Answer.Costs.{cost_after}
use Rattle.law_register.specs.Answer.Order.{order}
use Rattle.law_register.specs.Answer.Replay.{as_enacted, replayed}
use Rattle.version_cache.specs.Rows.{kept_view, rows_view}
use Rattle.version_cache.specs.Tables.{last_version, rows_on}
use Rattle.version_cache.proofs.making.add_rows.Given as goal

abbrev pub invariant-loop-ids : goal.invariant-loop-ids
invariant-loop-ids g l = record {
  orders : into_iter_items l.ids-iterator ≡ map (order l.course.known.now l.course.reading) (drop l.index l.days);
  rows : rows_view l.rows.items ++ rows_on l.course.known.now l.course.reading (drop l.index l.days)
      ≡ rows_on l.course.known.now l.course.reading l.days;
  own : is_own l.working.tree ≡ true;
  working : version_view l.working ≡ last_version (kept_view l.last) (rows_view l.rows.items);
  last : last_version (kept_view l.last) (rows_view l.rows.items)
      ≡ replayed l.course.known.now.mods (as_enacted l.course.known.now.act) l.before;
  steps : l.steps + cost_after l.course.known.now l.course.reading 0 l.before (drop l.index l.days)
      ≤ l.initial.steps + cost_after l.course.known.now l.course.reading 0 l.initial.before l.days;
}
