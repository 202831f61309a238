-- Groups of counted modifications, by what they are directed at.
use Rattle.std.specs.Prelude.{◌≡◌, ℕ, List, [], Option, Some, None}
use Rattle.indexmap.specs.IndexMap.{IndexMap, get_by}
use Rattle.bearing_mods.specs.declared.force.CountedForce.{CountedForce}
use Rattle.bearing_mods.specs.declared.efficacy.CountedEfficacy.{CountedEfficacy}
use Rattle.law_register.specs.declared.register.known.KnownMod.{KnownMod}
use Rattle.law_register.specs.declared.law.modification.Destination.{Destination}
use Rattle.law_register.specs.Answer.Counted.{is_same, forces_on, efficacies_on}
use Rattle.replay_core.specs.declared.counted.Group.{Group}

-- the force modifications of a group; none where there is no group
abbrev pub forces_of : Option Group → List CountedForce
forces_of None = []
forces_of (Some group) = group.forces.items

-- the efficacy modifications of a group; none where there is no group
abbrev pub efficacies_of : Option Group → List CountedEfficacy
efficacies_of None = []
efficacies_of (Some group) = group.efficacies.items

module _ {S : Type 0} where
  -- the force modifications that are grouped under a thing
  abbrev pub forces_at : IndexMap Destination Group S → Destination → List CountedForce
  forces_at groups thing = forces_of (get_by (is_same thing) groups)

  -- the efficacy modifications that are grouped under a thing
  abbrev pub efficacies_at : IndexMap Destination Group S → Destination → List CountedEfficacy
  efficacies_at groups thing = efficacies_of (get_by (is_same thing) groups)

  -- under each thing those force modifications are grouped that are counted for it on the day
  abbrev pub CountsForce : IndexMap Destination Group S → ℕ → List KnownMod → Type 0
  CountsForce groups day mods = (thing : Destination) → forces_at groups thing ≡ forces_on thing day mods

  -- and those efficacy modifications
  abbrev pub CountsEfficacy : IndexMap Destination Group S → ℕ → List KnownMod → Type 0
  CountsEfficacy groups day mods = (thing : Destination) → efficacies_at groups thing ≡ efficacies_on thing day mods
