use Rattle.std.proofs.Common.{◌≡◌, length}
use Rattle.law_http.specs.Cutting as spec
use Rattle.law_http.proofs.cutting.after_empty_lines.Given as goal

abbrev pub invariant-loop-later : goal.invariant-loop-later
invariant-loop-later l = spec.after_empty_lines l.later ≡ spec.after_empty_lines l.bytes

abbrev pub decreases-loop-later : goal.decreases-loop-later
decreases-loop-later l = length l.later
