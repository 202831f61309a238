-- The numbers so far, and those of the law entries down from here, are those up to the viewpoint.
use Rattle.law_register.specs.Register.LawList.{laws}
use Rattle.law_register.proofs.Chains.{IsLeft}
use Rattle.law_register.proofs.register.knowing.numbers_on.Given as goal

abbrev pub invariant-loop-number : goal.invariant-loop-number
invariant-loop-number l = IsLeft l.work (laws l._entries) l.viewpoint l.number l.numbers.items

abbrev pub decreases-loop-number : goal.decreases-loop-number
decreases-loop-number l = l.number
