use Rattle.std.proofs.Common.{◌∙◌, ◌<◌, ℕ, List, Option, Some, sym, ap, subst, arith}
use Rattle.eid_paths.specs.Levels.{level_text}
use Rattle.act_tree.specs.LevelsOfNodes.{some_past}
use Rattle.act_tree.specs.Slots.{at, size}
use Rattle.act_tree.proofs.LevelsVisited.{IsMet, upto, met, upto_le, visited, one_fails}
use Rattle.act_tree.proofs.arena.Arena.begins_without.Goals as goal

pub loop-next-init : goal.loop-next-init
loop-next-init c =
    let arena = c.args.self.now in
    let level : List ℕ = level_text c.args.element c.args.num.now in
    record {
      has = subst (IsMet arena level) (sym c.last_of_level-next.ensures) (met arena level (size arena) (omega arith));
      same = ap (λ (o : Option ℕ). some_past c.args.numbering (at arena) (size arena) c.args.gone level (upto o)) c.last_of_level-next.ensures
          ∙ sym (visited c.args.numbering arena c.args.gone level (size arena));
    }

pub loop-next-smaller : goal.loop-next-smaller
loop-next-smaller c =
    let arena = c.args.self.now in
    let level : List ℕ = level_text c.args.element c.args.num.now in
    omega (arith, ap upto c.level_before-next.ensures, upto_le arena level c.in-Some.id, ap upto c.in-Some.is)

pub loop-next-preserved : goal.loop-next-preserved
loop-next-preserved c =
    let arena = c.args.self.now in
    let level : List ℕ = level_text c.args.element c.args.num.now in
    let it : IsMet arena level (Some c.in-Some.id) = subst (IsMet arena level) c.in-Some.is c.loop-next.invariant.has in
    let low : c.in-Some.id < size arena = it.0 in
    record {
      has = subst (IsMet arena level) (sym c.level_before-next.ensures) (met arena level c.in-Some.id (omega arith));
      same = one_fails c.args.numbering arena c.args.gone level c.in-Some.id c.begins_one.result c.level_before-next.result it.1 c.begins_one.ensures c.if-begins_one.false c.level_before-next.ensures
          ∙ sym (ap (λ (o : Option ℕ). some_past c.args.numbering (at arena) (size arena) c.args.gone level (upto o)) c.in-Some.is) ∙ c.loop-next.invariant.same;
    }
