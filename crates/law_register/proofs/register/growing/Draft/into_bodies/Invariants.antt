-- What was taken out, and what the items that are left say, is what all say.
use Rattle.std.proofs.Common.{◌≡◌, ◌++◌, map}
use Rattle.std.specs.Vec.Iter.{into_iter_items}
use Rattle.law_register.proofs.register.growing.Draft.into_bodies.Given as goal

abbrev pub invariant-loop-item : goal.invariant-loop-item
invariant-loop-item l = l.bodies ++ map (λ i. i.body) (into_iter_items l.item-iterator) ≡ map (λ i. i.body) l.fn.self
