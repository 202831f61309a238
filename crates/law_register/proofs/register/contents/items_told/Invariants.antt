-- The items so far, and those of the marks that are left, are those of all marks.
use Rattle.std.proofs.Common.{◌≡◌, ◌++◌, drop}
use Rattle.law_register.specs.Register.Listing.{items_marked}
use Rattle.law_register.proofs.register.contents.items_told.Given as goal

abbrev pub invariant-loop-mark : goal.invariant-loop-mark
invariant-loop-mark l = l.draft ++ items_marked l.entries (drop l.mark-index l.marks) ≡ items_marked l.entries l.marks
