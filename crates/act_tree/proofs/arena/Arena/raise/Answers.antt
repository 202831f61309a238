use Rattle.std.proofs.Common.{rules, refl, ◌∙◌}
use Rattle.std.proofs.lemmas.List.{take_all}
use Rattle.act_tree.specs.Slots.{at}
use Rattle.act_tree.proofs.Settling.{none_raised, one_raised, all_raised}
use Rattle.act_tree.proofs.arena.Arena.raise.Goals as goal

pub loop-id-init : goal.loop-id-init
loop-id-init c = (none_raised (at c.args.self.now) 0 c.args.ids.now 0 (λ k. c.args.above), (refl, refl))

pub loop-id-preserved : goal.loop-id-preserved
loop-id-preserved c = (
  one_raised (at c.args.self.now) (at c.loop-id.self) (at c.set_above.new.self) 0 c.args.ids.now 0 (λ k. c.args.above) c.loop-id.id-index c.id-item.result c.loop-id.invariant.0 (search rules) c.id-item.is
      c.set_above.ensures.here c.set_above.ensures.others,
  (c.set_above.ensures.numbers ∙ c.loop-id.invariant.1.0, c.set_above.ensures.size ∙ c.loop-id.invariant.1.1),
)

pub returns-clause-raised : goal.returns-clause-raised
returns-clause-raised c = all_raised (at c.args.self.now) (at c.loop-id.self) 0 c.args.ids.now 0 (λ k. c.args.above) c.loop-id.id-index c.loop-id.invariant.0 (take_all _ _ (search rules))
