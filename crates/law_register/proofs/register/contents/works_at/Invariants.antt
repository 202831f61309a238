-- The works so far, and those of the indexes that are left, are those of all.
use Rattle.std.proofs.Common.{◌≡◌, ◌++◌, drop}
use Rattle.law_register.specs.Register.Listing.{works_at}
use Rattle.law_register.proofs.register.contents.works_at.Given as goal

abbrev pub invariant-loop-at : goal.invariant-loop-at
invariant-loop-at l = l.works.items ++ works_at l.entries (drop l.at-index l.ats) ≡ works_at l.entries l.ats
