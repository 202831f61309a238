-- The law entries of the work up to one are noted, and the numbers of later ones are left.
use Rattle.std.proofs.Common.{length}
use Rattle.indexmap.specs.IndexMap.{get_by}
use Rattle.law_register.specs.Answer.Counted.{is_same_id}
use Rattle.law_register.proofs.Gathering.{IsNotedTo}
use Rattle.law_register.proofs.register.knowing.ids_of.Given as goal

abbrev pub invariant-loop-number : goal.invariant-loop-number
invariant-loop-number l = IsNotedTo l.entries l.work l.viewpoint l.numbers.items (λ i. get_by (is_same_id i) l.known.marks) l.known.ids.items

abbrev pub decreases-loop-number : goal.decreases-loop-number
decreases-loop-number l = length l.numbers.items
