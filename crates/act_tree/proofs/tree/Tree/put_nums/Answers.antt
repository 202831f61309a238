use Rattle.std.proofs.Common.{◌∙◌, refl}
use Rattle.act_tree.proofs.RenumberedTrees.{given_none, given_more}
use Rattle.act_tree.proofs.tree.Tree.put_nums.Goals as goal

pub loop-place-init : goal.loop-place-init
loop-place-init c = (given_none c.args.self.now c.args.pairs.now, (λ k. refl, (λ k. refl, c.requires.own)))

pub loop-place-preserved : goal.loop-place-preserved
loop-place-preserved c = (
  given_more c.args.self.now c.loop-place.self c.put_num.new.self c.args.pairs.now c.loop-place.place c.index-pairs-place.result c.copy.result c.loop-place-test.true c.loop-place.auto.place c.index-pairs-place.is c.copy.ensures.value
      c.loop-place.invariant.0 c.loop-place.invariant.1.1.0 c.put_num.ensures.tree,
  (λ k. c.put_num.ensures.nodes k ∙ c.loop-place.invariant.1.0 k, (λ k. c.put_num.ensures.wids k ∙ c.loop-place.invariant.1.1.0 k, c.put_num.ensures.own)),
)
