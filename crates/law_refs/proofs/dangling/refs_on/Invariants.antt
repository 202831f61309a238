-- None of those passed has begun, so those before them decide.
use Rattle.std.proofs.Common.{◌≡◌, [], take}
use Rattle.law_refs.specs.Rows.{latest}
use Rattle.law_refs.proofs.dangling.refs_on.Given as goal

abbrev pub invariant-loop-index : goal.invariant-loop-index
invariant-loop-index l = latest l.day [] (take l.index l.all) ≡ latest l.day [] l.all
