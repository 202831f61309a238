-- The part sought among those that are left is the part sought among all.
use Rattle.std.proofs.Common.{◌≡◌, ◌+◌, length}
use Rattle.std.specs.Prelude.{option_map, slice_get}
use Rattle.std.specs.Option.{option_map_or}
use Rattle.eid_paths.specs.Parts.{parts_of, parts_left}
use Rattle.eid_paths.proofs.parts.nth_part.Given as goal

abbrev pub invariant-parts : goal.invariant-parts
invariant-parts l = slice_get (parts_left (option_map (λ s. s.now) l.rest)) l.left ≡ slice_get (parts_of l.fn.text) l.index

abbrev pub decreases-parts : goal.decreases-parts
decreases-parts l = option_map_or (λ s. length s.now + 1) l.rest 0
