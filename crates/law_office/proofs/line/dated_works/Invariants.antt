-- The works so far are those that the entries so far enact.
use Rattle.std.proofs.Common.{◌≡◌, map, take}
use Rattle.law_register.specs.Register.LawList.{acts_of, laws}
use Rattle.law_office.specs.Line.{dated_work}
use Rattle.law_office.proofs.line.dated_works.Given as goal

abbrev pub invariant-loop-index : goal.invariant-loop-index
invariant-loop-index l = l.works.items ≡ map dated_work (acts_of (laws (take l.index l.register.entries)))
