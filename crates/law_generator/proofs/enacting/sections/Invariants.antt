-- The sections so far.
use Rattle.std.proofs.Common.{◌≡◌}
use Rattle.law_generator.specs.Acts as spec
use Rattle.law_generator.proofs.enacting.sections.Given as goal

abbrev pub invariant-loop-before : goal.invariant-loop-before
invariant-loop-before l = l.nodes ≡ spec.sections l.before
