-- The works that the entries passed enact, from the last on, stand in their places.
use Rattle.std.proofs.Common.{◌≡◌, drop}
use Rattle.law_register.specs.Register.LawList.{laws}
use Rattle.held_provisions.specs.Placing.{works_of}
use Rattle.law_register.specs.Provisions.Line.{line_of}
use Rattle.held_provisions.proofs.lines.line_of_register.Given as goal

abbrev pub invariant-loop-index : goal.invariant-loop-index
invariant-loop-index l = l.works.items ≡ line_of (laws l.register.entries) (works_of (drop l.index l.register.entries))
