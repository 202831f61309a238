-- Of what is left the first that has a period that does not end after its start is the first of all, for none of those passed does.
use Rattle.std.proofs.Common.{◌≡◌, ◌+◌, drop}
use Rattle.law_register.specs.Register.Verdicts.{first_item, bad_times}
use Rattle.law_register.proofs.law.bounds.first_untimely.Given as goal

abbrev pub invariant-loop-index : goal.invariant-loop-index
invariant-loop-index l = first_item bad_times (l.index + 1) (drop l.index l.mods) ≡ first_item bad_times 1 l.mods
