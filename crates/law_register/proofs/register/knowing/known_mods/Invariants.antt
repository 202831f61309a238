-- The modifications so far, and those of the ids that are left, are all of them.
use Rattle.std.proofs.Common.{◌≡◌, ◌++◌, drop}
use Rattle.indexmap.specs.IndexMap.{get_by}
use Rattle.law_register.specs.Answer.Counted.{is_same_id}
use Rattle.law_register.specs.Register.Listing.{known_marks}
use Rattle.law_register.proofs.register.knowing.known_mods.Given as goal

abbrev pub invariant-loop-id : goal.invariant-loop-id
invariant-loop-id l =
    l.mods ++ known_marks l.entries (λ i. get_by (is_same_id i) l.known.marks) (drop l.id-index l.known.ids.items)
    ≡ known_marks l.entries (λ i. get_by (is_same_id i) l.known.marks) l.known.ids.items
