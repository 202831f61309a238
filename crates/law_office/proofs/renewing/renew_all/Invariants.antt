-- What the revisions that are left make of what is kept now is what all make of what was kept.
use Rattle.std.proofs.Common.{◌≡◌, List, ℕ, map}
use Rattle.std.specs.Vec.Iter.{into_iter_items}
use Rattle.indexmap.specs.IndexMap.{spare}
use Rattle.law_office.specs.Tables.{Fit, kept_in, revised_view, with_revisions}
use Rattle.law_office.proofs.renewing.renew_all.Given as goal

abbrev pub invariant-loop-work : goal.invariant-loop-work
invariant-loop-work l = record {
  kept : (w : List ℕ) → with_revisions (map revised_view (into_iter_items l.work-iterator)) w (kept_in l.tables w)
      ≡ with_revisions (map revised_view l.fn.revised.items) w (kept_in l.initial.tables w);
  fit : Fit (map revised_view (into_iter_items l.work-iterator)) (kept_in l.tables);
  spare : spare l.tables ≡ spare l.initial.tables;
}
