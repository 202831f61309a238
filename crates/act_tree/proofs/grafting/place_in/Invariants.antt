-- The place is that among the numbers that are left, and those passed.
use Rattle.std.proofs.Common.{◌≡◌, ◌+◌, drop}
use Rattle.act_tree.specs.Grafted.{place_from}
use Rattle.act_tree.proofs.grafting.place_in.Given as goal

abbrev pub invariant-loop-place : goal.invariant-loop-place
invariant-loop-place l = l.place + place_from 0 l.id (drop l.place l.numbers) ≡ place_from 0 l.id l.numbers
