-- The names and the rows so far, and those of what is left.
use Rattle.std.proofs.Common.{◌++◌, ◌∷◌, [], drop, map}
use Rattle.law_refs.specs.Handing.{rows_touched}
use Rattle.law_office.specs.Movements.{days_moved}
use Rattle.law_office.specs.Tables.{kept_in, revised_view}
use Rattle.law_office.proofs.Gathered.{AreLeft}
use Rattle.law_office.proofs.references.gather_revised.Given as goal

abbrev pub invariant-loop-work : goal.invariant-loop-work
invariant-loop-work l =
    let all = days_moved (map revised_view l.revised) in
    AreLeft l._register.entries l._entry (kept_in l.tables) l.works (l.initial.works ++ map (λ t. t.0) all) l.rows
    (l.initial.rows ++ rows_touched (l._register.entries ++ l._entry ∷ []) all) (map revised_view (drop l.work-index l.revised))
