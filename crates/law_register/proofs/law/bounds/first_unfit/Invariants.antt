-- Of what is left the first that names or brings what it may not is the first of all, for none of those passed does.
use Rattle.std.proofs.Common.{◌≡◌, ◌+◌, drop}
use Rattle.law_register.specs.Register.Verdicts.{first_item, bad_item}
use Rattle.law_register.proofs.law.bounds.first_unfit.Given as goal

abbrev pub invariant-loop-index : goal.invariant-loop-index
invariant-loop-index l = first_item bad_item (l.index + 1) (drop l.index l.mods) ≡ first_item bad_item 1 l.mods
