-- The copies so far are of the first values.
use Rattle.std.proofs.Common.{◌≡◌, ◌++◌, take}
use Rattle.act_tree.proofs.copied.Copied.add_copies.Given as goal

abbrev pub invariant-loop-item : goal.invariant-loop-item
invariant-loop-item g l = l.all.items ≡ l.initial.all.items ++ take l.item-index l.items
