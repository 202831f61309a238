-- One of those left gives the level up exactly if one of all does, for none of those passed does.
use Rattle.std.proofs.Common.{◌≡◌, drop}
use Rattle.std.specs.List.{list_any}
use Rattle.textual_mods.specs.NumChanges.{gives_up}
use Rattle.textual_mods.proofs.num_changes.is_given_up.Given as goal

abbrev pub invariant-loop-other : goal.invariant-loop-other
invariant-loop-other l = list_any (gives_up l.change) (drop l.other-index l.changes) ≡ list_any (gives_up l.change) l.changes
