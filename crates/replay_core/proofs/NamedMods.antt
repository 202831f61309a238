-- Where the work is known that an entry concerns, so are the modifications of the work of the id that it names.
use Rattle.std.proofs.Common.{◌≡◌, ◌∙◌, ap, List, Option, Some, None, option_map}
use Rattle.law_register.specs.declared.law.command.Command.{Command}
use Rattle.law_register.specs.declared.law.command.Command.TheVariants.{Enact, Record, Correct, Withdraw, Restore, DraftAdd, DraftDrop, File}
use Rattle.law_register.specs.declared.register.draft.DraftItem.{DraftItem}
use Rattle.law_register.specs.declared.register.entry.Entry.{Entry}
use Rattle.law_register.specs.declared.register.known.Known.{Known}
use Rattle.law_register.specs.declared.register.known.KnownMod.{KnownMod}
use Rattle.law_register.specs.Answer.Touched.{mods_in, mods_of, work_entered}
use Rattle.law_register.specs.Register.Drafts.{draft_of}
use Rattle.law_register.specs.Register.KnownIds.{IdFacts, facts_of}
use Rattle.law_register.specs.Register.KnownNext.{known_now, up_to}
use Rattle.law_register.specs.Register.LawList.{front, law_command, law_of, laws}
use Rattle.replay_core.specs.Touching.{AreOfId, AreOfNamed}

module _ (es : List Entry) (known : Known) (are : mods_of es known.act.work ≡ known.mods) where
  of_id : (facts : Option IdFacts) → option_map (λ (f : IdFacts). f.work) facts ≡ Some known.act.work → AreOfId es known.mods facts
  of_id None is = tt
  of_id (Some f) is = let same : f.work ≡ known.act.work = cc is in ap (mods_of es) same ∙ are

  of_named : (draft : List DraftItem) (c : Command) → work_entered es (law_command draft c) ≡ Some known.act.work → AreOfNamed es known.mods c
  of_named draft (Enact act) is = tt
  of_named draft (Record work bodies) is = tt
  of_named draft (File work seen) is = tt
  of_named draft (DraftAdd work body) is = tt
  of_named draft (DraftDrop item) is = tt
  of_named draft (Correct id body) is = of_id (facts_of id (laws es)) is
  of_named draft (Withdraw id) is = of_id (facts_of id (laws es)) is
  of_named draft (Restore id) is = of_id (facts_of id (laws es)) is

pub named_mods : (es : List Entry) (e : Entry) (known : Known) → work_entered es (law_of es e) ≡ Some known.act.work
    → known_now es known.act.work ≡ Some (up_to (front es) known) → AreOfNamed es known.mods e.command
named_mods es e known concerned is = of_named es known (ap mods_in is) (draft_of e.drafter es) e.command concerned
