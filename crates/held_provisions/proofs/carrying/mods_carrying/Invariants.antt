-- The copies so far, and the modifications to come.
use Rattle.std.proofs.Common.{◌≡◌, ◌++◌, drop, map}
use Rattle.held_provisions.specs.Sources.{mod_carrying_by}
use Rattle.held_provisions.proofs.carrying.mods_carrying.Given as goal

abbrev pub invariant-loop-known : goal.invariant-loop-known
invariant-loop-known g l =
    l.copies ++ map (mod_carrying_by (g.S.Sources.kept_of l.sources) l.day) (drop l.known-index l.mods)
    ≡ map (mod_carrying_by (g.S.Sources.kept_of l.sources) l.day) l.mods
