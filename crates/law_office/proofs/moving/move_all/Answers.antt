use Rattle.std.proofs.Common.{rules, ◌≡◌, ◌∙◌, ◌++◌, ◌∷◌, [], ◌+◌, ◌-◌, ◌<◌, ap, subst, arith, drop, get_or, take, length, ℕ, List, map, option_map}
use Rattle.std.proofs.lemmas.List.{drop_all, take_rest}
use Rattle.law_register.specs.Provisions.Line.{line}
use Rattle.law_register.specs.Provisions.Touching.{touched_works}
use Rattle.law_register.specs.Register.LawList.{laws}
use Rattle.law_office.specs.Asked.{AreOnce}
use Rattle.law_office.specs.Movements.{AreMoving, IsConcernedThen, StandAhead, costs_told}
use Rattle.law_office.specs.Tables.{enacted_view, kept_in, revised_view}
use Rattle.law_office.proofs.InLine.{works_of}
use Rattle.law_office.proofs.Moved.{cost_more, left_is}
use Rattle.law_office.proofs.Prepared.{tables_stay}
use Rattle.law_office.proofs.moving.move_all.Goals as goal

pub move_one-requires-clause-right : goal.move_one-requires-clause-right
move_one-requires-clause-right g c =
    tables_stay c.args.movement.now.register.now.entries (kept_in c.args.tables.now) (kept_in c.loop-index.tables) c.loop-index.invariant.same c.requires.right

pub move_one-requires-clause-concerned : goal.move_one-requires-clause-concerned
move_one-requires-clause-concerned g c =
    let es = c.args.movement.now.register.now.entries in
    let e = c.args.movement.now.entry.now in
    let names = c.args.names.now in
    let i : ℕ = c.loop-index.index in
    let work = (get_or names i c.index-names-index.result).work in
    let within : i < length names = search rules in
    let rest = works_of (take (length names - (i + 1)) (drop (i + 1) names)) in
    let left : works_of (drop i names) ≡ work ∷ rest = left_is names i c.index-names-index.result within in
    subst (IsConcernedThen es e c.loop-index.concerned) left c.loop-index.invariant.concerned

pub move_one-requires-clause-once : goal.move_one-requires-clause-once
move_one-requires-clause-once g c =
    let es = c.args.movement.now.register.now.entries in
    let e = c.args.movement.now.entry.now in
    let names = c.args.names.now in
    let i : ℕ = c.loop-index.index in
    let work = (get_or names i c.index-names-index.result).work in
    let within : i < length names = search rules in
    let rest = works_of (take (length names - (i + 1)) (drop (i + 1) names)) in
    let left : works_of (drop i names) ≡ work ∷ rest = left_is names i c.index-names-index.result within in
    (subst AreOnce left c.loop-index.invariant.once).0

pub move_one-requires-clause-moving : goal.move_one-requires-clause-moving
move_one-requires-clause-moving g c =
    let es = c.args.movement.now.register.now.entries in
    let e = c.args.movement.now.entry.now in
    let names = c.args.names.now in
    let i : ℕ = c.loop-index.index in
    let work = (get_or names i c.index-names-index.result).work in
    let within : i < length names = search rules in
    let rest = works_of (take (length names - (i + 1)) (drop (i + 1) names)) in
    let left : works_of (drop i names) ≡ work ∷ rest = left_is names i c.index-names-index.result within in
    let enacted = option_map (λ e. enacted_view e.now) c.args.enacted in
    subst (AreMoving es e (kept_in c.loop-index.tables) enacted (map revised_view c.loop-index.revised.items)) left c.loop-index.invariant.moving

pub move_one-requires-clause-ahead : goal.move_one-requires-clause-ahead
move_one-requires-clause-ahead g c =
    let es = c.args.movement.now.register.now.entries in
    let e = c.args.movement.now.entry.now in
    let names = c.args.names.now in
    let i : ℕ = c.loop-index.index in
    let work = (get_or names i c.index-names-index.result).work in
    let within : i < length names = search rules in
    let rest = works_of (take (length names - (i + 1)) (drop (i + 1) names)) in
    let left : works_of (drop i names) ≡ work ∷ rest = left_is names i c.index-names-index.result within in
    subst (StandAhead (line (laws (es ++ e ∷ [])))) left c.loop-index.invariant.ahead

pub loop-index-preserved : goal.loop-index-preserved
loop-index-preserved g c =
    let es = c.args.movement.now.register.now.entries in
    let e = c.args.movement.now.entry.now in
    let names = c.args.names.now in
    let i : ℕ = c.loop-index.index in
    let work = (get_or names i c.index-names-index.result).work in
    let within : i < length names = search rules in
    let rest = works_of (take (length names - (i + 1)) (drop (i + 1) names)) in
    let left : works_of (drop i names) ≡ work ∷ rest = left_is names i c.index-names-index.result within in
    let after = es ++ e ∷ [] in
    let told = touched_works es e in
    let behind : rest ≡ works_of (drop (i + 1) names) = ap works_of (take_rest names (i + 1)) in
    let cost : costs_told after told (works_of (drop i names)) ≡ costs_told after told (work ∷ []) + costs_told after told (works_of (drop (i + 1) names)) =
    ap (costs_told after told) left ∙ cost_more after told work rest ∙ ap (λ (ws : List (List ℕ)). costs_told after told (work ∷ []) + costs_told after told ws) behind in
    let enacted = option_map (λ e. enacted_view e.now) c.args.enacted in
    record {
      same = λ w. c.move_one.ensures.same w ∙ c.loop-index.invariant.same w;
      spare = c.move_one.ensures.spare ∙ c.loop-index.invariant.spare;
      concerned = subst (IsConcernedThen es e c.move_one.new.concerned) behind c.in_ok-move_one.ensures.concerned;
      once = subst AreOnce behind (subst AreOnce left c.loop-index.invariant.once).1;
      moving = subst (AreMoving es e (kept_in c.move_one.new.tables) enacted (map revised_view c.move_one.new.revised.items)) behind c.in_ok-move_one.ensures.moving;
      ahead = subst (StandAhead (line (laws after))) behind (subst (StandAhead (line (laws after))) left c.loop-index.invariant.ahead).1;
      steps = omega (arith, cost, c.loop-index.invariant.steps, c.move_one.ensures.steps);
    }

pub returns-in_err-move_one-clause-same : goal.returns-in_err-move_one-clause-same
returns-in_err-move_one-clause-same g c =
    λ w. c.move_one.ensures.same w ∙ c.loop-index.invariant.same w

pub returns-in_err-move_one-clause-steps : goal.returns-in_err-move_one-clause-steps
returns-in_err-move_one-clause-steps g c =
    let es = c.args.movement.now.register.now.entries in
    let e = c.args.movement.now.entry.now in
    let names = c.args.names.now in
    let i : ℕ = c.loop-index.index in
    let work = (get_or names i c.index-names-index.result).work in
    let within : i < length names = search rules in
    let rest = works_of (take (length names - (i + 1)) (drop (i + 1) names)) in
    let left : works_of (drop i names) ≡ work ∷ rest = left_is names i c.index-names-index.result within in
    let after = es ++ e ∷ [] in
    let told = touched_works es e in
    let behind : rest ≡ works_of (drop (i + 1) names) = ap works_of (take_rest names (i + 1)) in
    let cost : costs_told after told (works_of (drop i names)) ≡ costs_told after told (work ∷ []) + costs_told after told (works_of (drop (i + 1) names)) =
    ap (costs_told after told) left ∙ cost_more after told work rest ∙ ap (λ (ws : List (List ℕ)). costs_told after told (work ∷ []) + costs_told after told ws) behind in
    omega (arith, cost, c.loop-index.invariant.steps, c.move_one.ensures.steps)

pub returns-clause-moving : goal.returns-clause-moving
returns-clause-moving g c =
    let es = c.args.movement.now.register.now.entries in
    let e = c.args.movement.now.entry.now in
    let names = c.args.names.now in
    let over = c.loop-index-test.false in
    let none : drop c.loop-index.index names ≡ [] = drop_all c.loop-index.index names (omega (arith, over)) in
    let enacted = option_map (λ e. enacted_view e.now) c.args.enacted in
    subst (AreMoving es e (kept_in c.loop-index.tables) enacted (map revised_view c.loop-index.revised.items)) (ap works_of none) c.loop-index.invariant.moving
