-- Which modifications of force and efficacy are counted for a thing on a day, and in what order.
use Rattle.std.specs.Prelude.{ℕ, ◌==◌, Bool, false, ◌&&◌, nat_le, List, [], ◌∷◌, if◌then◌else◌}
use Rattle.std.specs.Str.{bytes_eq}
use Rattle.desk_base.specs.declared.id.Id.{Id}
use Rattle.bearing_mods.specs.Turns.{Turn, is_earlier, force_turn, efficacy_turn}
use Rattle.bearing_mods.specs.declared.force.CountedForce.{CountedForce}
use Rattle.bearing_mods.specs.declared.efficacy.CountedEfficacy.{CountedEfficacy}
use Rattle.law_register.specs.declared.register.known.KnownMod.{KnownMod}
use Rattle.law_register.specs.declared.law.modification.Destination.{Destination}
use Rattle.law_register.specs.declared.law.modification.Destination.TheVariants as to
use Rattle.law_register.specs.declared.law.modification.Modification.{Modification}
use Rattle.law_register.specs.declared.law.modification.Modification.TheVariants.{Textual, Force, Efficacy}

-- two ids are the same
abbrev pub is_same_id : Id → Id → Bool
is_same_id a b = (a.law == b.law) && (a.item == b.item)

-- two destinations are the same thing
abbrev pub is_same : Destination → Destination → Bool
is_same (to.Modification a) (to.Modification b) = is_same_id a b
is_same (to.Modification a) (to.Node wid) = false
is_same (to.Node wid) (to.Modification b) = false
is_same (to.Node wid) (to.Node other) = bytes_eq wid other

-- a modification of force on the thing that counts from a day not after this one, by itself; none else
abbrev pub force_from : Destination → ℕ → Id → Modification → List CountedForce
force_from thing day id (Textual source force edit) = []
force_from thing day id (Efficacy source destination on effect) = []
force_from thing day id (Force source destination on effect) =
    if is_same destination thing && nat_le on day then record { id = id; on = on; effect = effect } ∷ [] else []

-- a modification of efficacy on the thing that counts from a day not after this one, by itself; none else
abbrev pub efficacy_from : Destination → ℕ → Id → Modification → List CountedEfficacy
efficacy_from thing day id (Textual source force edit) = []
efficacy_from thing day id (Force source destination on effect) = []
efficacy_from thing day id (Efficacy source destination on effect) =
    if is_same destination thing && nat_le on day then record { id = id; on = on; effect = effect } ∷ [] else []

-- one of a list takes its turn before the first that comes after it
abbrev pub take_turn : {A : Type 0} → (A → Turn) → A → List A → List A
take_turn turn one [] = one ∷ []
take_turn turn one (next ∷ others) =
    if is_earlier (turn one) (turn next) then one ∷ next ∷ others else next ∷ take_turn turn one others

-- these take their turns among others
abbrev pub take_turns : {A : Type 0} → (A → Turn) → List A → List A → List A
take_turns turn [] others = others
take_turns turn (one ∷ ones) others = take_turn turn one (take_turns turn ones others)

-- the force modifications of a thing that are counted on a day, of those that stand, by their day and then their id
abbrev pub forces_on : Destination → ℕ → List KnownMod → List CountedForce
forces_on thing day [] = []
forces_on thing day (m ∷ ms) =
    take_turns force_turn (if m.live then force_from thing day m.id m.body else []) (forces_on thing day ms)

-- the efficacy modifications of a thing that are counted on a day, of those that stand, by their day and then their id
abbrev pub efficacies_on : Destination → ℕ → List KnownMod → List CountedEfficacy
efficacies_on thing day [] = []
efficacies_on thing day (m ∷ ms) =
    take_turns efficacy_turn (if m.live then efficacy_from thing day m.id m.body else []) (efficacies_on thing day ms)
