-- Those of the items passed are kept.
use Rattle.std.proofs.Common.{◌≡◌, ◌≤◌, not, filter, length, take}
use Rattle.law_register.specs.Register.Indexes.{marks_work}
use Rattle.law_register.proofs.register.contents.items_but.Given as goal

abbrev pub invariant-loop-mark : goal.invariant-loop-mark
invariant-loop-mark l = record {
  kept : l.kept.items ≡ filter (λ m. not (marks_work l.entries l.work m)) (take l.mark-index l.items);
  few : length l.kept.items ≤ l.mark-index;
}
