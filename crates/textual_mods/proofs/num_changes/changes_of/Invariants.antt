-- The changes so far are those of the nodes that the pairs so far name.
use Rattle.std.proofs.Common.{◌≡◌, map, take}
use Rattle.std.specs.List.{All}
use Rattle.textual_mods.specs.NumChanges.{IsChange}
use Rattle.textual_mods.proofs.num_changes.changes_of.Given as goal

abbrev pub invariant-loop-id : goal.invariant-loop-id
invariant-loop-id l =
    All (IsChange l.tree l.named) l.changes.items
    × (map (λ change. change.id) l.changes.items ≡ map (λ pair. pair.0) (take l.id-index l.named))
