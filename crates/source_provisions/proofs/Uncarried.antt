-- What is carried changes nothing of what is counted of force and efficacy, of the days that a work names, and of the edits.
use Rattle.std.proofs.Common.{◌≡◌, ◌∙◌, sym, ap, refl, ℕ, Bool, true, false, cond, ◌&&◌, List, [], ◌∷◌, map, Option, Some, None, option_map, option_and_then}
use Rattle.std.specs.List.{find}
use Rattle.desk_base.specs.declared.id.Id.{Id}
use Rattle.desk_base.specs.declared.period.Period.{Period}
use Rattle.desk_base.specs.Periods.{includes}
use Rattle.bearing_mods.specs.Efficacy.{efficacy_at}
use Rattle.bearing_mods.specs.Force.{force_at}
use Rattle.bearing_mods.specs.Turns.{efficacy_turn, force_turn}
use Rattle.bearing_mods.specs.declared.efficacy.CountedEfficacy.{CountedEfficacy}
use Rattle.bearing_mods.specs.declared.force.CountedForce.{CountedForce}
use Rattle.law_register.specs.declared.answer.due.Due.{Due}
use Rattle.law_register.specs.declared.answer.question.Reading.{Reading}
use Rattle.law_register.specs.declared.answer.question.Reading.TheVariants as reading
use Rattle.law_register.specs.declared.law.modification.Destination.{Destination}
use Rattle.law_register.specs.declared.law.modification.Destination.TheVariants as to
use Rattle.law_register.specs.declared.law.modification.Modification.{Modification}
use Rattle.law_register.specs.declared.law.modification.Modification.TheVariants.{Textual, Force, Efficacy}
use Rattle.law_register.specs.declared.register.known.KnownMod.{KnownMod}
use Rattle.law_register.specs.Answer.Bearing.{start_on}
use Rattle.law_register.specs.Answer.Breakpoints.{days_of, insert_days, live_days}
use Rattle.law_register.specs.Answer.Counted.{efficacies_on, efficacy_from, force_from, forces_on, is_same_id, take_turns}
use Rattle.law_register.specs.Answer.Order.{due_as, due_from, due_of, with_due}
use Rattle.law_register.specs.Answer.Replay.{edit_in, edit_of}
use Rattle.law_register.specs.Answer.Standing.{counts, mod_alone}

pub always : (b : Bool) → (b && true) ≡ b
always true = refl
always false = refl

module _ (day : ℕ) where
  -- the day from which a thing bears, by what is counted for it
  abbrev start_by : Reading → Period → List CountedForce → List CountedEfficacy → Option ℕ
  start_by reading.Force own forces efficacies = cond (includes (force_at own forces) day) (Some (force_at own forces).start) None
  start_by reading.Efficacy own forces efficacies =
      cond (efficacy_at (force_at own forces) efficacies day).holds (Some (efficacy_at (force_at own forces) efficacies day).period.start) None

  start_is : (r : Reading) (mods : List KnownMod) (thing : Destination) (own : Period)
      → start_on r day mods thing own ≡ start_by r own (forces_on thing day mods) (efficacies_on thing day mods)
  start_is reading.Force mods thing own = refl
  start_is reading.Efficacy mods thing own = refl

-- by modifications of which the same is counted for each thing, the same is due
module _ (r : Reading) (day : ℕ) (mods others : List KnownMod)
    (forces : (thing : Destination) → forces_on thing day mods ≡ forces_on thing day others)
    (efficacies : (thing : Destination) → efficacies_on thing day mods ≡ efficacies_on thing day others) where
  start_same : (thing : Destination) (own : Period) → start_on r day mods thing own ≡ start_on r day others thing own
  start_same thing own =
      start_is day r mods thing own
      ∙ ap (λ (ones : List CountedForce). start_by day r own ones (efficacies_on thing day mods)) (forces thing)
      ∙ ap (start_by day r own (forces_on thing day others)) (efficacies thing)
      ∙ sym (start_is day r others thing own)

  due_as_same : (id : Id) (body : Modification) → due_as r day mods id body ≡ due_as r day others id body
  due_as_same id (Textual source own edit) = ap (option_map (due_from source id)) (start_same (to.Modification id) own)
  due_as_same id (Force source destination on effect) = refl
  due_as_same id (Efficacy source destination on effect) = refl

  pub due_same : (ms : List KnownMod) → due_of r day mods ms ≡ due_of r day others ms
  due_same [] = refl
  due_same (m ∷ ms) =
      ap (λ (dues : List Due). with_due dues (cond (counts r day m) (due_as r day mods m.id m.body) None)) (due_same ms)
      ∙ ap (λ (due : Option Due). with_due (due_of r day others ms) (cond (counts r day m) due None)) (due_as_same m.id m.body)

-- modifications that change in what they carry alone
module _ (change : KnownMod → KnownMod) (kept : (m : KnownMod) → mod_alone (change m) ≡ mod_alone m) where
  forces_kept : (thing : Destination) (day : ℕ) (ms : List KnownMod) → forces_on thing day (map change ms) ≡ forces_on thing day ms
  forces_kept thing day [] = refl
  forces_kept thing day (m ∷ ms) =
      ap (λ (k : KnownMod). take_turns force_turn (cond k.live (force_from thing day k.id k.body) []) (forces_on thing day (map change ms))) (kept m)
      ∙ ap (take_turns force_turn (cond m.live (force_from thing day m.id m.body) [])) (forces_kept thing day ms)

  efficacies_kept : (thing : Destination) (day : ℕ) (ms : List KnownMod) → efficacies_on thing day (map change ms) ≡ efficacies_on thing day ms
  efficacies_kept thing day [] = refl
  efficacies_kept thing day (m ∷ ms) =
      ap (λ (k : KnownMod). take_turns efficacy_turn (cond k.live (efficacy_from thing day k.id k.body) []) (efficacies_on thing day (map change ms))) (kept m)
      ∙ ap (take_turns efficacy_turn (cond m.live (efficacy_from thing day m.id m.body) [])) (efficacies_kept thing day ms)

  pub due_kept : (r : Reading) (day : ℕ) (mods ms : List KnownMod) → due_of r day (map change mods) ms ≡ due_of r day mods ms
  due_kept r day mods ms =
      due_same r day (map change mods) mods (λ thing. forces_kept thing day mods) (λ thing. efficacies_kept thing day mods) ms

  pub live_kept : (ms : List KnownMod) → live_days (map change ms) ≡ live_days ms
  live_kept [] = refl
  live_kept (m ∷ ms) =
      ap (λ (k : KnownMod). insert_days (cond k.live (days_of k.body) []) (live_days (map change ms))) (kept m)
      ∙ ap (insert_days (cond m.live (days_of m.body) [])) (live_kept ms)

-- modifications that say what they said
module _ (change : KnownMod → KnownMod) (same_id : (m : KnownMod) → (change m).id ≡ m.id) (same_body : (m : KnownMod) → (change m).body ≡ m.body) where
  pub edit_kept : (mods : List KnownMod) (id : Id) → edit_of (map change mods) id ≡ edit_of mods id
  edit_kept [] id = refl
  edit_kept (m ∷ ms) id =
      ap (λ (i : Id). option_and_then (λ (k : KnownMod). edit_in k.body) (cond (is_same_id i id) (Some (change m)) (find (λ k. is_same_id k.id id) (map change ms)))) (same_id m)
      ∙ by (is_same_id m.id id) (edit_kept ms id)
    where
      by : (b : Bool) → edit_of (map change ms) id ≡ edit_of ms id
          → option_and_then (λ (k : KnownMod). edit_in k.body) (cond b (Some (change m)) (find (λ k. is_same_id k.id id) (map change ms)))
          ≡ option_and_then (λ (k : KnownMod). edit_in k.body) (cond b (Some m) (find (λ k. is_same_id k.id id) ms))
      by true rest = ap edit_in (same_body m)
      by false rest = rest
