-- Folds over counted modifications: in two parts, and what an inapplication among them shows.
use Rattle.std.proofs.Common.{◌≡◌, ◌<◌, ℕ, zero, suc, Bool, true, false, not, ◌&&◌, ◌||◌, List, [], ◌∷◌, ◌++◌, length, slice_index_or, refl, ◌∙◌, ap, arith}
use Rattle.desk_base.specs.declared.period.Period.{Period}
use Rattle.bearing_mods.specs.declared.force.CountedForce.{CountedForce}
use Rattle.bearing_mods.specs.declared.efficacy.CountedEfficacy.{CountedEfficacy}
use Rattle.bearing_mods.specs.Force.{force_after, force_at}
use Rattle.bearing_mods.specs.Efficacy.{efficacy_after, efficacy_period, inapplies, is_inapplied}

pub force_in_parts : (p : Period) (first later : List CountedForce) → force_at p (first ++ later) ≡ force_at (force_at p first) later
force_in_parts p [] later = refl
force_in_parts p (one ∷ first) later = force_in_parts (force_after p one.effect) first later

pub efficacy_in_parts : (p : Period) (first later : List CountedEfficacy) → efficacy_period p (first ++ later) ≡ efficacy_period (efficacy_period p first) later
efficacy_in_parts p [] later = refl
efficacy_in_parts p (one ∷ first) later = efficacy_in_parts (efficacy_after p one.effect) first later

or_true : (a : Bool) {b : Bool} → b ≡ true → (a || b) ≡ true
or_true true is = refl
or_true false is = is

-- an inapplication at some index shows
pub inapplied_at : (counted : List CountedEfficacy) (one : CountedEfficacy) (day k : ℕ) → k < length counted → slice_index_or counted k one ≡ one
    → inapplies one.effect day ≡ true → is_inapplied counted day ≡ true
inapplied_at [] one day k within is shows = absurd (omega arith)
inapplied_at (first ∷ others) one day zero within is shows =
    let here : inapplies first.effect day ≡ true = ap (λ (c : CountedEfficacy). inapplies c.effect day) is ∙ shows in
    ap (λ b. b || is_inapplied others day) here
inapplied_at (first ∷ others) one day (suc k) within is shows =
    or_true (inapplies first.effect day) (inapplied_at others one day k (omega (arith, within)) is shows)

-- and then nothing holds
pub none_holds : (a b : Bool) → b ≡ true → (a && not b) ≡ false
none_holds true b is = ap not is
none_holds false b is = refl
