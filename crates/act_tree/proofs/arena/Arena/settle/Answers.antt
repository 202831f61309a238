use Rattle.std.proofs.Common.{rules, refl, ◌≡◌, ◌∙◌, sym, ap, ◌<◌, ◌≤◌, get_or, length, arith}
use Rattle.std.proofs.lemmas.List.{take_all}
use Rattle.act_tree.specs.Arena.{below_in}
use Rattle.act_tree.specs.Slots.{at, size}
use Rattle.act_tree.proofs.Settling.{listed, none_raised, one_raised, all_raised}
use Rattle.act_tree.proofs.arena.Arena.settle.Goals as goal

pub loop-place-init : goal.loop-place-init
loop-place-init c = (none_raised (at c.args.self.now) c.args.id (below_in (at c.args.self.now c.args.id)) 0 (λ k. c.args.id), (refl, refl))

pub loop-place-preserved : goal.loop-place-preserved
loop-place-preserved c =
    let was : below_in (at c.args.self.now c.args.id) ≡ c.index.result.now.below.items = listed c.args.self.now.slots.items c.args.id c.place.result c.index.result.now c.requires.within c.place.ensures c.index.ensures in
    let end : c.len-place-end.result ≡ length c.index.result.now.below.items = search rules in
    let same : length (below_in (at c.args.self.now c.args.id)) ≡ length c.index.result.now.below.items = ap length was in
    let before : c.loop-place.place < c.len-place-end.result = c.loop-place-test.true in
    let inside : c.args.id < size c.loop-place.self = (let sizes : size c.loop-place.self ≡ size c.args.self.now = c.loop-place.invariant.1.1 in let low : c.args.id < size c.args.self.now = c.requires.within in omega arith) in
    let now : below_in (at c.loop-place.self c.args.id) ≡ c.index-in-loop-place.result.now.below.items = listed c.loop-place.self.slots.items c.args.id c.place-in-loop-place.result c.index-in-loop-place.result.now inside c.place-in-loop-place.ensures c.index-in-loop-place.ensures in
    let it : c.index-child.result.now ≡ get_or (below_in (at c.args.self.now c.args.id)) c.loop-place.place c.index-child.result.now =
    c.index-child.ensures ∙ ap (λ ks. get_or ks c.loop-place.place c.index-child.result.now) (sym now ∙ c.loop-place.invariant.0.list) in (
      one_raised (at c.args.self.now) (at c.loop-place.self) (at c.set_above.new.self) c.args.id (below_in (at c.args.self.now c.args.id)) 0 (λ k. c.args.id) c.loop-place.place c.index-child.result.now c.loop-place.invariant.0 (omega arith) it
          c.set_above.ensures.here c.set_above.ensures.others,
      (c.set_above.ensures.numbers ∙ c.loop-place.invariant.1.0, c.set_above.ensures.size ∙ c.loop-place.invariant.1.1),
    )

pub returns-clause-raised : goal.returns-clause-raised
returns-clause-raised c =
    let was : below_in (at c.args.self.now c.args.id) ≡ c.index.result.now.below.items = listed c.args.self.now.slots.items c.args.id c.place.result c.index.result.now c.requires.within c.place.ensures c.index.ensures in
    let end : c.len-place-end.result ≡ length c.index.result.now.below.items = search rules in
    let same : length (below_in (at c.args.self.now c.args.id)) ≡ length c.index.result.now.below.items = ap length was in
    let past : c.len-place-end.result ≤ c.loop-place.place = c.loop-place-test.false in
    all_raised (at c.args.self.now) (at c.loop-place.self) c.args.id (below_in (at c.args.self.now c.args.id)) 0 (λ k. c.args.id) c.loop-place.place c.loop-place.invariant.0 (take_all _ _ (omega arith))
