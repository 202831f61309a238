-- Those of the items passed are kept.
use Rattle.std.proofs.Common.{◌≡◌, ◌≤◌, filter, length, take}
use Rattle.law_register.specs.Register.Indexes.{marks_work}
use Rattle.law_register.proofs.register.contents.items_of.Given as goal

abbrev pub invariant-loop-mark : goal.invariant-loop-mark
invariant-loop-mark l = record {
  kept : l.kept.items ≡ filter (marks_work l.entries l.work) (take l.mark-index l.items);
  few : length l.kept.items ≤ l.mark-index;
}
