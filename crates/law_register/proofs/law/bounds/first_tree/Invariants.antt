-- What is left has first the fault that all have first, for none of those passed has one.
use Rattle.std.proofs.Common.{◌≡◌, ◌+◌, drop}
use Rattle.law_register.specs.Law.Bounds.{brought_fault}
use Rattle.law_register.specs.Register.Verdicts.{first_item, tree_rule}
use Rattle.law_register.proofs.law.bounds.first_tree.Given as goal

abbrev pub invariant-loop-modification : goal.invariant-loop-modification
invariant-loop-modification l =
    first_item (λ number m. tree_rule (brought_fault m)) (l.modification-index + 1) (drop l.modification-index l.mods)
    ≡ first_item (λ number m. tree_rule (brought_fault m)) 1 l.mods
