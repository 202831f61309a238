-- The first rule that those left break is the first of all.
use Rattle.std.proofs.Common.{◌≡◌, ◌+◌, drop}
use Rattle.law_register.specs.Register.LawList.{laws}
use Rattle.law_register.specs.Register.Verdicts.{first_item, unknown_destination}
use Rattle.law_register.proofs.register.register.Register.unknown_item.Given as goal

abbrev pub invariant-loop-body : goal.invariant-loop-body
invariant-loop-body l = first_item (λ number m. unknown_destination (laws l.self.entries) l.work m) (l.body-index + 1) (drop l.body-index l.mods) ≡ first_item (λ number m. unknown_destination (laws l.self.entries) l.work m) 1 l.mods
