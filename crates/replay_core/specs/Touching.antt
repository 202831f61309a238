-- By which modifications it is known what day an entry touches.
use Rattle.std.specs.Prelude.{◌≡◌, List, Option, IfSome}
use Rattle.law_register.specs.declared.law.command.Command.{Command}
use Rattle.law_register.specs.declared.law.command.Command.TheVariants.{Correct, Withdraw, Restore}
use Rattle.law_register.specs.declared.register.entry.Entry.{Entry}
use Rattle.law_register.specs.declared.register.known.KnownMod.{KnownMod}
use Rattle.law_register.specs.Answer.Touched.{mods_of}
use Rattle.law_register.specs.Register.KnownIds.{IdFacts, facts_of}
use Rattle.law_register.specs.Register.LawList.{laws}

-- these are the modifications of the work of an id, if it is recorded
abbrev pub AreOfId : List Entry → List KnownMod → Option IdFacts → Type 0
AreOfId entries mods facts = IfSome facts (λ f. mods_of entries f.work ≡ mods)

-- these are the modifications of the work of the id that a command names, if it names one that is recorded
abbrev pub AreOfNamed : List Entry → List KnownMod → Command → Type 0
AreOfNamed entries mods (Correct id body) = AreOfId entries mods (facts_of id (laws entries))
AreOfNamed entries mods (Withdraw id) = AreOfId entries mods (facts_of id (laws entries))
AreOfNamed entries mods (Restore id) = AreOfId entries mods (facts_of id (laws entries))
AreOfNamed entries mods _ = Unit {0}
