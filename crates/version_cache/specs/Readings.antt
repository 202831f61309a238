-- When both readings give the same: no modification that stands changes the efficacy of a textual one, or hangs on a provision.
use Rattle.std.specs.Prelude.{Bool, true, false, ◌&&◌, ◌||◌, List, is_some}
use Rattle.std.specs.List.{list_any}
use Rattle.law_register.specs.declared.law.modification.Destination.{Destination}
use Rattle.law_register.specs.declared.law.modification.Destination.TheVariants as to
use Rattle.law_register.specs.declared.law.modification.Modification.{Modification}
use Rattle.law_register.specs.declared.law.modification.Modification.TheVariants.{Textual, Force, Efficacy}
use Rattle.law_register.specs.declared.register.known.KnownMod.{KnownMod}

-- this is a modification, and no provision
abbrev pub is_modification : Destination → Bool
is_modification (to.Modification id) = true
is_modification (to.Node wid) = false

-- a modification of efficacy that is directed at another modification
abbrev pub changes_efficacy : Modification → Bool
changes_efficacy (Textual source force edit) = false
changes_efficacy (Force source destination on effect) = false
changes_efficacy (Efficacy source destination on effect) = is_modification destination

-- the readings may differ by a modification: it hangs on a provision, which may stand in one of them alone, or changes the efficacy of
-- another
abbrev pub parts_readings : KnownMod → Bool
parts_readings m = is_some m.carried || changes_efficacy m.body

-- one of these stands, and the readings may differ by it
abbrev pub has_efficacy : List KnownMod → Bool
has_efficacy mods = list_any (λ m. m.live && parts_readings m) mods
