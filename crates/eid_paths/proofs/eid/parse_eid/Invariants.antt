-- The levels that were counted, with those of what is left, are as many as the text spells; what is left has its fault.
use Rattle.std.proofs.Common.{◌≡◌, ◌+◌, ◌≤◌, length}
use Rattle.std.specs.Prelude.{option_map}
use Rattle.eid_paths.specs.Parts.{parts_left, length_left}
use Rattle.eid_paths.specs.Eids.{levels_from, eid_of}
use Rattle.eid_paths.proofs.Counts.{counted}
use Rattle.eid_paths.proofs.eid.parse_eid.Given as goal

abbrev pub invariant-levels : goal.invariant-levels
invariant-levels l =
    (counted l.len (levels_from l.place (parts_left (option_map (λ s. s.now) l.rest))) ≡ counted 0 (eid_of l.fn.text))
    × (l.place + length_left (option_map (λ s. s.now) l.rest) ≤ length l.fn.text + 2)
    × (l.len ≤ l.place)

abbrev pub decreases-levels : goal.decreases-levels
decreases-levels l = length_left (option_map (λ s. s.now) l.rest)
