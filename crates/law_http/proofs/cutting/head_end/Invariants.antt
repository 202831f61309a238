use Rattle.std.proofs.Common.{◌≡◌, ◌≤◌, ◌-◌, ◌+◌, length}
use Rattle.std.specs.Prelude.{option_map}
use Rattle.law_http.specs.Cutting as spec
use Rattle.law_http.proofs.cutting.head_end.Given as goal

-- what is left holds the end that all bytes hold
abbrev pub invariant-loop-later : goal.invariant-loop-later
invariant-loop-later l =
    (option_map (λ n. length l.bytes - length l.later + n) (spec.head_end l.later) ≡ spec.head_end l.bytes)
    × (length l.later ≤ length l.bytes)

abbrev pub decreases-loop-later : goal.decreases-loop-later
decreases-loop-later l = length l.later
