-- The periods so far, and those of the days to come.
use Rattle.std.proofs.Common.{◌≡◌, ◌++◌, drop, option_map}
use Rattle.held_provisions.specs.Kept as kept
use Rattle.held_provisions.specs.Walking.{spans_after}
use Rattle.law_register.specs.Provisions.Spans.{spans_of}
use Rattle.version_cache.specs.Seen.{revision_view, table_view}
use Rattle.held_provisions.proofs.spans.spans_in_table.Given as goal

abbrev pub invariant-loop-day : goal.invariant-loop-day
invariant-loop-day g l =
    l.spans ++ spans_after (kept.stands_by_table l.known (kept.committed_if (table_view l.table) (option_map (λ r. revision_view r.now) l.revision)) l.provision) l.since (drop l.day-index l.days)
    ≡ spans_of (kept.stands_by_table l.known (kept.committed_if (table_view l.table) (option_map (λ r. revision_view r.now) l.revision)) l.provision) l.days
