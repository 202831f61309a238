-- What one more law entry makes known of a work, from what was known of it.
use Rattle.std.specs.Prelude.{ℕ, ◌+◌, Bool, true, false, List, [], ◌∷◌, ◌++◌, map, Option, Some, None, option_map, if◌then◌else◌}
use Rattle.std.specs.Str.{bytes_eq}
use Rattle.law_register.specs.declared.law.act.Act.{Act}
use Rattle.law_register.specs.declared.law.command.Command.{Command}
use Rattle.law_register.specs.declared.law.command.Command.TheVariants.{Record, Correct, Withdraw, Restore}
use Rattle.law_register.specs.declared.law.modification.Modification.{Modification}
use Rattle.law_register.specs.declared.register.entry.Entry.{Entry}
use Rattle.law_register.specs.declared.register.known.Known.{Known}
use Rattle.law_register.specs.declared.register.known.KnownMod.{KnownMod}
use Rattle.law_register.specs.Answer.Counted.{is_same_id}
use Rattle.law_register.specs.Register.KnownIds.{enacted_by, known_at}
use Rattle.law_register.specs.Register.LawList.{front, law_of}

-- what is known of a work at the front
abbrev pub known_now : List Entry → List ℕ → Option Known
known_now entries work = known_at entries work (front entries)

-- a work as it is known behind so many law entries, where those that were not known do not concern it
abbrev pub up_to : ℕ → Known → Known
up_to front known = record known { viewpoint = front; front = front }

-- a work as it is known at a viewpoint, where all law entries up to it are
abbrev pub at_viewpoint : ℕ → Known → Known
at_viewpoint viewpoint known = record known { viewpoint = viewpoint }

-- what is known of a work by its act alone, when a law entry had just enacted it
abbrev pub bare : Known → Known
bare known = record known { viewpoint = known.enacted; mods = []; source_days = [] }

-- modifications as they are known once a law entry of this number records them, the first of them as this item
abbrev pub bodies_known : ℕ → ℕ → List Modification → List KnownMod
bodies_known law item [] = []
bodies_known law item (body ∷ bodies) =
    record { id = record { law = law; item = item }; live = true; body = body; carried = None } ∷ bodies_known law (item + 1) bodies

-- what is known of a work once one more law entry records these modifications in it
abbrev pub with_bodies : List Modification → Known → Known
with_bodies bodies known = record known {
  viewpoint = known.front + 1;
  front = known.front + 1;
  mods = known.mods ++ bodies_known (known.front + 1) 1 bodies;
}

-- a modification that says something else from now on; one that stands no longer, or again
abbrev pub saying : Modification → KnownMod → KnownMod
saying body m = record m { body = body }

abbrev pub standing_as : Bool → KnownMod → KnownMod
standing_as live m = record m { live = live }

-- a modification after a law entry: the one that it names says something else, or stands no longer, or again
abbrev pub mod_after : Command → KnownMod → KnownMod
mod_after (Correct id body) m = if is_same_id id m.id then saying body m else m
mod_after (Withdraw id) m = if is_same_id id m.id then standing_as false m else m
mod_after (Restore id) m = if is_same_id id m.id then standing_as true m else m
mod_after _ m = m

-- the modifications that a law entry records in a work
abbrev pub bodies_in : List ℕ → Command → List Modification
bodies_in work (Record other bodies) = if bytes_eq other work then bodies else []
bodies_in work _ = []

-- what is known of a work after one more law entry
abbrev pub known_then : List ℕ → Command → Known → Known
known_then work law known = with_bodies (bodies_in work law) (record known { mods = map (mod_after law) known.mods })

-- an act as it is known once the law entry of this number has enacted it
abbrev pub newly_known : ℕ → Act → Known
newly_known number act =
    record { act = act; enacted = number; viewpoint = number; front = number; mods = []; source_days = [] }

-- what is known of a work behind so many law entries, after one more: of a work that was not known, only its Enact makes it known
abbrev pub known_from : ℕ → List ℕ → Command → Option Known → Option Known
known_from count work law (Some known) = Some (known_then work law known)
known_from count work law None = option_map (newly_known (count + 1)) (enacted_by work law)

-- the same after what an entry is to the law: an entry of a draft changes nothing
abbrev pub known_by_entry : ℕ → List ℕ → List Command → Option Known → Option Known
known_by_entry count work [] known = known
known_by_entry count work (law ∷ _) known = known_from count work law known

-- what is known of a work at the front once an entry stands behind others, from what was known of it
abbrev pub known_next : List Entry → Entry → List ℕ → Option Known → Option Known
known_next entries entry work known = known_by_entry (front entries) work (law_of entries entry) known
