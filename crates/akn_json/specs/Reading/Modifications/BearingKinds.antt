-- The kinds of force and of efficacy modification, and the words for them.
use Rattle.std.specs.Prelude.{ℕ, List, [], ◌∷◌, Option, codes, find}
use Rattle.std.specs.Str.{bytes_eq}
use Rattle.akn_json.specs.declared.reading.modifications.bearing_kinds.ForceKind.{ForceKind}
use Rattle.akn_json.specs.declared.reading.modifications.bearing_kinds.ForceKind.TheVariants as force
use Rattle.akn_json.specs.declared.reading.modifications.bearing_kinds.EfficacyKind.{EfficacyKind}
use Rattle.akn_json.specs.declared.reading.modifications.bearing_kinds.EfficacyKind.TheVariants as efficacy

-- the word for a kind of force modification
abbrev pub force_word : ForceKind → List ℕ
force_word force.Entry = codes "entryIntoForce"
force_word force.Postponement = codes "postponementOfEntryIntoForce"
force_word force.End = codes "endOfEnactment"
force_word force.Prorogation = codes "prorogationOfForce"
force_word force.ReEnactment = codes "reEnactment"

-- the kinds of force modification
abbrev pub force_kinds : List ForceKind
force_kinds = force.Entry ∷ force.Postponement ∷ force.End ∷ force.Prorogation ∷ force.ReEnactment ∷ []

-- the kind of force modification that a word names, if it names one
abbrev pub force_named : List ℕ → Option ForceKind
force_named word = find (λ k. bytes_eq (force_word k) word) force_kinds

-- the word for a kind of efficacy modification
abbrev pub efficacy_word : EfficacyKind → List ℕ
efficacy_word efficacy.Entry = codes "entryIntoEfficacy"
efficacy_word efficacy.End = codes "endOfEfficacy"
efficacy_word efficacy.Retroactivity = codes "retroactivity"
efficacy_word efficacy.Postponement = codes "postponementOfEfficacy"
efficacy_word efficacy.Prorogation = codes "prorogationOfEfficacy"
efficacy_word efficacy.ExtraEfficacy = codes "extraefficacy"
efficacy_word efficacy.Inapplication = codes "inapplication"

-- the kinds of efficacy modification
abbrev pub efficacy_kinds : List EfficacyKind
efficacy_kinds =
    efficacy.Entry ∷ efficacy.End ∷ efficacy.Retroactivity ∷ efficacy.Postponement ∷ efficacy.Prorogation
    ∷ efficacy.ExtraEfficacy ∷ efficacy.Inapplication ∷ []

-- the kind of efficacy modification that a word names, if it names one
abbrev pub efficacy_named : List ℕ → Option EfficacyKind
efficacy_named word = find (λ k. bytes_eq (efficacy_word k) word) efficacy_kinds
