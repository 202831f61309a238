-- The number has not come yet.
use Rattle.std.proofs.Common.{◌≡◌, drop}
use Rattle.act_tree.specs.Siblings.{number_behind}
use Rattle.act_tree.proofs.moving.number_behind.Given as goal

abbrev pub invariant-loop-place : goal.invariant-loop-place
invariant-loop-place l = number_behind l.id (drop l.place l.numbers) ≡ number_behind l.id l.numbers
