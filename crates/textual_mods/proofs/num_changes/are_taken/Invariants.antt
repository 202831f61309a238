-- A num of those left is taken exactly if one of all is, for none of those passed is.
use Rattle.std.proofs.Common.{◌≡◌, drop}
use Rattle.std.specs.List.{list_any}
use Rattle.textual_mods.specs.NumChanges as spec
use Rattle.textual_mods.proofs.num_changes.are_taken.Given as goal

abbrev pub invariant-loop-change : goal.invariant-loop-change
invariant-loop-change l = list_any (spec.is_taken l.tree l.changes) (drop l.change-index l.changes) ≡ list_any (spec.is_taken l.tree l.changes) l.changes
