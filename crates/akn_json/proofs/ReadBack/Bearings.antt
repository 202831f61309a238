-- Modifications of force and of efficacy, as they are printed, are read as those modifications.
use Rattle.std.proofs.Common.{◌≡◌, ℕ, true, Ok, refl, sym, subst}
use Rattle.std.proofs.lemmas.Bool.{eqb-true}
use Rattle.desk_base.specs.Days.{IsDay}
use Rattle.bearing_mods.specs.declared.force.ForceEffect.{ForceEffect}
use Rattle.bearing_mods.specs.declared.force.ForceEffect.TheVariants as effect
use Rattle.bearing_mods.specs.declared.efficacy.EfficacyEffect.{EfficacyEffect}
use Rattle.bearing_mods.specs.declared.efficacy.EfficacyEffect.TheVariants as made
use Rattle.law_register.specs.Law.Spelling.{is_spelled_source, is_spelled_effect}
use Rattle.law_register.specs.declared.law.modification.Destination.{Destination}
use Rattle.law_register.specs.declared.law.modification.Destination.TheVariants as destination
use Rattle.law_register.specs.declared.law.modification.ModSource.{ModSource}
use Rattle.law_register.specs.declared.law.modification.Modification.TheVariants.{Force, Efficacy}
use Rattle.akn_json.specs.Printing.Bearings.{destination_data, date_of_force, force_data, efficacy_data}
use Rattle.akn_json.specs.Printing.Typed.{IsTypedSource, IsTypedDestination, IsTypedEffect}
use Rattle.akn_json.specs.Reading.Fields.{has_members, members_in, either_in, field_in, text_in}
use Rattle.akn_json.specs.Reading.Modifications.Bearings.{directed_at_in, destination_in, on_in, date_in, force_kind_in, force_in, efficacy_kind_in, inapplied_in, dated_in, efficacy_in}
use Rattle.akn_json.proofs.ReadBack.Leaves.{day_back, id_back, period_back, source_back}

directed_back : (to : Destination) → IsTypedDestination to → directed_at_in (destination_data to) ≡ Ok to
unfolding directed_at_in either_in has_members field_in text_in
directed_back (destination.Modification id) typed = rw (id_back id typed) refl
directed_back (destination.Node wid) typed = refl

pub force_back : (source : ModSource) (to : Destination) (on : ℕ) (e : ForceEffect) → IsTypedSource source → is_spelled_source source ≡ true → IsTypedDestination to → IsDay on
    → IsDay (date_of_force e) → force_in (force_data source to on e) ≡ Ok (Force source to on e)
unfolding force_in force_kind_in members_in has_members field_in text_in destination_in on_in date_in
force_back source to on (effect.Entry date) from names typed day last =
    rw (source_back source from names, directed_back to typed, day_back on day, day_back date last) refl
force_back source to on (effect.Postponed date) from names typed day last =
    rw (source_back source from names, directed_back to typed, day_back on day, day_back date last) refl
force_back source to on (effect.Ended date) from names typed day last =
    rw (source_back source from names, directed_back to typed, day_back on day, day_back date last) refl
force_back source to on (effect.Prorogued date) from names typed day last =
    rw (source_back source from names, directed_back to typed, day_back on day, day_back date last) refl
force_back source to on (effect.ReEnacted date) from names typed day last =
    rw (source_back source from names, directed_back to typed, day_back on day, day_back date last) refl

-- a retroactivity is counted from its date
retroactive_back : (source : ModSource) (to : Destination) (date : ℕ) → IsTypedSource source → is_spelled_source source ≡ true → IsTypedDestination to → IsDay date
    → efficacy_in (efficacy_data source to date (made.Retroactive date)) ≡ Ok (Efficacy source to date (made.Retroactive date))
unfolding efficacy_in efficacy_kind_in members_in has_members field_in text_in destination_in on_in date_in dated_in
retroactive_back source to date from names typed day = rw (source_back source from names, directed_back to typed, day_back date day) refl

pub efficacy_back : (source : ModSource) (to : Destination) (on : ℕ) (e : EfficacyEffect) → IsTypedSource source → is_spelled_source source ≡ true → IsTypedDestination to
    → IsDay on → IsTypedEffect e → is_spelled_effect on e ≡ true → efficacy_in (efficacy_data source to on e) ≡ Ok (Efficacy source to on e)
unfolding efficacy_in efficacy_kind_in members_in has_members field_in text_in destination_in on_in date_in dated_in inapplied_in
efficacy_back source to on (made.Entry date) from names typed day last well =
    rw (source_back source from names, directed_back to typed, day_back on day, day_back date last) refl
efficacy_back source to on (made.Ended date) from names typed day last well =
    rw (source_back source from names, directed_back to typed, day_back on day, day_back date last) refl
efficacy_back source to on (made.Retroactive date) from names typed day last well =
    subst (λ (d : ℕ). efficacy_in (efficacy_data source to d (made.Retroactive date)) ≡ Ok (Efficacy source to d (made.Retroactive date)))
    (sym (eqb-true on date well)) (retroactive_back source to date from names typed last)
efficacy_back source to on (made.Postponed date) from names typed day last well =
    rw (source_back source from names, directed_back to typed, day_back on day, day_back date last) refl
efficacy_back source to on (made.Prorogued date) from names typed day last well =
    rw (source_back source from names, directed_back to typed, day_back on day, day_back date last) refl
efficacy_back source to on made.Extra from names typed day last well =
    rw (source_back source from names, directed_back to typed, day_back on day) refl
efficacy_back source to on (made.Inapplied days) from names typed day last well =
    rw (source_back source from names, directed_back to typed, day_back on day, period_back days last) refl
