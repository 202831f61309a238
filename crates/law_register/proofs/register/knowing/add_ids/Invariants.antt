-- The ids so far, and those of the modifications that are left, are those before and all of these.
use Rattle.std.proofs.Common.{◌≡◌, ◌+◌, ◌++◌, drop}
use Rattle.law_register.specs.Register.Listing.{ids_marked}
use Rattle.law_register.proofs.register.knowing.add_ids.Given as goal

abbrev pub invariant-loop-place : goal.invariant-loop-place
invariant-loop-place l = l.ids.items ++ ids_marked l.law (l.place + 1) (drop l.place l.bodies) ≡ l.initial.ids.items ++ ids_marked l.law 1 l.bodies
