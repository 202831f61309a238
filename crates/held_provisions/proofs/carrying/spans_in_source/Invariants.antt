-- The periods so far, and those of the days to come.
use Rattle.std.proofs.Common.{◌≡◌, ◌++◌, drop}
use Rattle.held_provisions.specs.Kept.{source_view}
use Rattle.held_provisions.specs.Sources.{stands_kept}
use Rattle.held_provisions.specs.Walking.{spans_after}
use Rattle.law_register.specs.Provisions.Spans.{spans_of}
use Rattle.held_provisions.proofs.carrying.spans_in_source.Given as goal

abbrev pub invariant-loop-day : goal.invariant-loop-day
invariant-loop-day g l =
    l.spans ++ spans_after (stands_kept (source_view l.source) l.reading l.provision) l.since (drop l.day-index l.days)
    ≡ spans_of (stands_kept (source_view l.source) l.reading l.provision) l.days
