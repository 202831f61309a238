-- The modifications that are left take their places among the events so far, as all do among the enactment.
use Rattle.std.proofs.Common.{◌≡◌, [], ◌∷◌, drop}
use Rattle.law_reports.specs.Lifecycles.{generation, with_events}
use Rattle.law_reports.proofs.events.events_of.Given as goal

abbrev pub invariant-loop-one : goal.invariant-loop-one
invariant-loop-one l = with_events l.events.entries (drop l.one-index l.one-items) ≡ with_events (generation l.known ∷ []) l.known.mods
