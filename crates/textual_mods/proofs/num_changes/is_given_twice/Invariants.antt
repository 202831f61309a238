-- One of those left gets the level exactly if one of all does, for none of those passed does.
use Rattle.std.proofs.Common.{◌≡◌, drop}
use Rattle.std.specs.List.{list_any}
use Rattle.textual_mods.specs.NumChanges.{gets_too}
use Rattle.textual_mods.proofs.num_changes.is_given_twice.Given as goal

abbrev pub invariant-loop-other : goal.invariant-loop-other
invariant-loop-other l = list_any (gets_too l.change) (drop l.other-index l.changes) ≡ list_any (gets_too l.change) l.changes
