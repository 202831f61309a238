use Rattle.std.proofs.Common.{◌≡◌, ◌∙◌, sym, ap, subst, ◌<◌, ℕ, suc, true, List, take, drop, Option, arith}
use Rattle.std.specs.Str.{bytes_eq}
use Rattle.eid_paths.specs.Eids.{eid_text}
use Rattle.eid_paths.specs.Levels.{level_text}
use Rattle.eid_paths.specs.declared.level.Level.{Level}
use Rattle.act_tree.specs.Arena.{provision_in}
use Rattle.act_tree.specs.EidLevels.{own_level}
use Rattle.act_tree.specs.Seen.{provision_at}
use Rattle.act_tree.specs.Slots.{at, number, size}
use Rattle.act_tree.proofs.EidsOfTree.{found_among}
use Rattle.act_tree.proofs.LatestNumbers.{IsUpTo, up_to, IsOne, latest_one, latest_low}
use Rattle.act_tree.proofs.WaysFound.{leads, first_and_others, up_to_last, up_to_next, sought_out}
use Rattle.act_tree.proofs.tree.Tree.of_levels.Goals as goal

pub loop-next-init : goal.loop-next-init
loop-next-init c =
    let t = c.args.self.now in
    let first = c.level-first.result in (
      latest_one (at t.arena) (level_text first.element first.num) (size t.arena) (size t.arena) (omega arith) c.last_of_level-next.result c.last_of_level-next.ensures,
      up_to_last t first (drop 1 c.args.levels.now) c.last_of_level-next.result c.last_of_level-next.ensures,
    )

pub down_from-found-requires-clause-level : goal.down_from-found-requires-clause-level
unfolding provision_at
down_from-found-requires-clause-level c =
    let t = c.args.self.now in
    let first = c.level-first.result in
    let one : IsOne (at t.arena) (level_text first.element first.num) (size t.arena) c.in-Some.id = rw c.in-Some.is at c.loop-next.invariant.0 in
    ap (λ ls. bytes_eq (eid_text (take 1 ls)) (own_level (provision_in (at t.arena c.in-Some.id)).own)) (first_and_others c.args.levels.now first c.level-first.ensures) ∙ one.1

pub returns-then-is_some-clause-found : goal.returns-then-is_some-clause-found
returns-then-is_some-clause-found c =
    found_among c.args.self.now (eid_text c.args.levels.now) c.down_from-found.result c.down_from-found.ensures.node (sym c.is_some.ensures ∙ c.if-is_some.true)

pub loop-next-smaller : goal.loop-next-smaller
loop-next-smaller c =
    let t = c.args.self.now in
    let first = c.level-first.result in
    let low : up_to c.level_before-next.result < suc c.in-Some.id = latest_low (at t.arena) (level_text first.element first.num) c.in-Some.id c.level_before-next.result c.level_before-next.ensures in
    let here : up_to c.loop-next.next ≡ suc c.in-Some.id = ap up_to c.in-Some.is in
    let lower : up_to c.level_before-next.result < up_to c.loop-next.next = omega arith in
    lower

pub loop-next-preserved : goal.loop-next-preserved
loop-next-preserved c =
    let t = c.args.self.now in
    let first = c.level-first.result in
    let rest : List Level = drop 1 c.args.levels.now in
    let one : IsOne (at t.arena) (level_text first.element first.num) (size t.arena) c.in-Some.id = rw c.in-Some.is at c.loop-next.invariant.0 in
    let low : c.in-Some.id < size t.arena = one.0 in
    let P : Option ℕ → Type 0 = λ p. (i : ℕ) → leads t.numbering (at t.arena) (number t.arena) (size t.arena) t.whole first rest i ≡ true → IsUpTo p i in (
      latest_one (at t.arena) (level_text first.element first.num) c.in-Some.id (size t.arena) (omega arith) c.level_before-next.result c.level_before-next.ensures,
      up_to_next t first rest c.in-Some.id _ c.level_before-next.result c.down_from-found.ensures.found (sym c.is_some.ensures ∙ c.if-is_some.false) c.level_before-next.ensures (subst P c.in-Some.is c.loop-next.invariant.1),
    )

pub returns-clause-found : goal.returns-clause-found
returns-clause-found c =
    let first = c.level-first.result in
    sym (sought_out c.args.self.now first (drop 1 c.args.levels.now) c.args.levels.now c.loop-next.next (first_and_others c.args.levels.now first c.level-first.ensures) c.requires.nums c.in_default.is c.loop-next.invariant.1)
