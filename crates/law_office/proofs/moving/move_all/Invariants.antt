-- The works that are left are still to come, and cost what is left of all.
use Rattle.std.proofs.Common.{◌≡◌, ◌++◌, ◌∷◌, [], ◌+◌, ◌≤◌, ℕ, List, drop, map, option_map}
use Rattle.indexmap.specs.IndexMap.{spare}
use Rattle.law_register.specs.Provisions.Line.{line}
use Rattle.law_register.specs.Provisions.Touching.{touched_works}
use Rattle.law_register.specs.Register.LawList.{laws}
use Rattle.law_office.specs.Asked.{AreOnce}
use Rattle.law_office.specs.Movements.{AreMoving, IsConcernedThen, StandAhead, costs_told}
use Rattle.law_office.specs.Tables.{enacted_view, kept_in, revised_view}
use Rattle.law_office.proofs.moving.move_all.Given as goal

abbrev pub invariant-loop-index : goal.invariant-loop-index
invariant-loop-index g l =
    let es = l.movement.register.now.entries in
    let e = l.movement.entry.now in
    let left = map (λ d. d.work) (drop l.index l.names) in
    record {
      same : (w : List ℕ) → kept_in l.tables w ≡ kept_in l.initial.tables w;
      spare : spare l.tables ≡ spare l.initial.tables;
      concerned : IsConcernedThen es e l.concerned left;
      once : AreOnce left;
      moving : AreMoving es e (kept_in l.tables) (option_map (λ e. enacted_view e.now) l.enacted) (map revised_view l.revised.items) left;
      ahead : StandAhead (line (laws (es ++ e ∷ []))) left;
      steps : l.steps + costs_told (es ++ e ∷ []) (touched_works es e) left
          ≤ l.initial.steps + costs_told (es ++ e ∷ []) (touched_works es e) (map (λ d. d.work) l.names);
    }
