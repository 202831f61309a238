-- Those of the items passed are kept.
use Rattle.std.proofs.Common.{◌≡◌, ◌==◌, ◌≤◌, not, filter, length, take}
use Rattle.law_register.proofs.register.contents.without_item.Given as goal

abbrev pub invariant-loop-mark : goal.invariant-loop-mark
invariant-loop-mark l = record {
  kept : l.kept.items ≡ filter (λ m. not (m.item == l.item)) (take l.mark-index l.items);
  few : length l.kept.items ≤ l.mark-index;
}
