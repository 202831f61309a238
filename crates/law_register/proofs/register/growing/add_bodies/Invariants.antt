-- The modifications so far, with those that are left, are those before and all that are brought.
use Rattle.std.proofs.Common.{◌≡◌, ◌+◌, ◌≤◌, ◌++◌, length}
use Rattle.std.specs.Vec.Iter.{into_iter_items}
use Rattle.law_register.specs.Register.KnownNext.{bodies_known}
use Rattle.law_register.proofs.register.growing.add_bodies.Given as goal

abbrev pub invariant-loop-body : goal.invariant-loop-body
invariant-loop-body l = record {
  mods : l.mods ++ bodies_known l.law (l.item + 1) (into_iter_items l.body-iterator) ≡ l.initial.mods ++ bodies_known l.law 1 l.fn.bodies;
  few : l.item + length (into_iter_items l.body-iterator) ≤ 64;
}
