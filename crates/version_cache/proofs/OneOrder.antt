-- Where the readings differ by no modification that stands, both give the same order, and so the same rows.
use Rattle.std.proofs.Common.{◌≡◌, ◌∙◌, ap, refl, ℕ, Bool, true, false, ◌&&◌, ◌||◌, cond, List, [], ◌∷◌, map, Option, Some, None, is_some, option_map}
use Rattle.desk_base.specs.declared.id.Id.{Id}
use Rattle.desk_base.specs.declared.period.Period.{Period}
use Rattle.desk_base.specs.Periods.{includes}
use Rattle.bearing_mods.specs.Efficacy.{efficacy_at}
use Rattle.bearing_mods.specs.Turns.{efficacy_turn}
use Rattle.bearing_mods.specs.declared.efficacy.CountedEfficacy.{CountedEfficacy}
use Rattle.law_register.specs.declared.answer.due.Due.{Due}
use Rattle.law_register.specs.declared.answer.question.Reading.TheVariants as reading
use Rattle.law_register.specs.declared.law.modification.Destination.TheVariants as to
use Rattle.law_register.specs.declared.law.modification.Modification.{Modification}
use Rattle.law_register.specs.declared.law.modification.Modification.TheVariants.{Textual, Force, Efficacy}
use Rattle.law_register.specs.declared.register.carried.Carried.{Carried}
use Rattle.law_register.specs.declared.register.known.Known.{Known}
use Rattle.law_register.specs.declared.register.known.KnownMod.{KnownMod}
use Rattle.law_register.specs.Answer.Bearing.{force_on, start_on}
use Rattle.law_register.specs.Answer.Counted.{efficacies_on, efficacy_from, take_turns}
use Rattle.law_register.specs.Answer.Order.{due_as, due_from, due_of, order, with_due}
use Rattle.law_register.specs.Answer.Replay.{as_enacted, replay_on, replayed}
use Rattle.law_register.specs.Answer.Standing.{counts, stands_by}
use Rattle.law_register.proofs.ApartIds.{none_left, none_right}
use Rattle.version_cache.specs.Readings.{changes_efficacy, has_efficacy, parts_readings}
use Rattle.version_cache.specs.Tables.{RowValue, rows_on}

-- by one that the readings do not differ by, nothing is counted for the efficacy of a modification
none_from : (live : Bool) (carried : Option Carried) (body : Modification) (other id : Id) (day : ℕ) → (live && (is_some carried || changes_efficacy body)) ≡ false
    → cond live (efficacy_from (to.Modification id) day other body) [] ≡ []
none_from false carried body other id day h = refl
none_from true carried (Textual source own edit) other id day h = refl
none_from true carried (Force source destination on effect) other id day h = refl
none_from true carried (Efficacy source (to.Node wid) on effect) other id day h = refl
none_from true carried (Efficacy source (to.Modification at) on effect) other id day h = absurd (let wrong : true ≡ false = none_right (is_some carried) true h in cc)

none_changed : (ms : List KnownMod) → has_efficacy ms ≡ false → (id : Id) (day : ℕ) → efficacies_on (to.Modification id) day ms ≡ []
none_changed [] h id day = refl
none_changed (m ∷ ms) h id day =
    ap (λ ones. take_turns efficacy_turn ones (efficacies_on (to.Modification id) day ms))
    (none_from m.live m.carried m.body m.id id day (none_left (m.live && parts_readings m) (has_efficacy ms) h))
    ∙ none_changed ms (none_right (m.live && parts_readings m) (has_efficacy ms) h) id day

-- and it counts in both, or in neither
counts_same : (day : ℕ) (m : KnownMod) → (m.live && parts_readings m) ≡ false → counts reading.Efficacy day m ≡ counts reading.Force day m
counts_same day m h = by m.live m.carried h
  where
    by : (live : Bool) (carried : Option Carried) → (live && (is_some carried || changes_efficacy m.body)) ≡ false
        → (live && stands_by reading.Efficacy day carried) ≡ (live && stands_by reading.Force day carried)
    by false carried h = refl
    by true None h = refl
    by true (Some carried) h = absurd (let wrong : true ≡ false = h in cc)

-- the day from which something bears by the efficacy modifications that are counted for it
start_by : Period → ℕ → List CountedEfficacy → Option ℕ
start_by period day counted = cond (efficacy_at period counted day).holds (Some (efficacy_at period counted day).period.start) None

start_same : (mods : List KnownMod) (id : Id) (own : Period) (day : ℕ) → efficacies_on (to.Modification id) day mods ≡ []
    → start_on reading.Efficacy day mods (to.Modification id) own ≡ start_on reading.Force day mods (to.Modification id) own
unfolding start_by
start_same mods id own day none =
    ap (start_by (force_on mods (to.Modification id) own day) day) none
    ∙ ap (λ b. cond b (Some (force_on mods (to.Modification id) own day).start) None) (and_true (includes (force_on mods (to.Modification id) own day) day))
  where
    and_true : (b : Bool) → (b && true) ≡ b
    and_true true = refl
    and_true false = refl

module _ (mods : List KnownMod) (none : has_efficacy mods ≡ false) (day : ℕ) where
  due_same : (id : Id) (body : Modification) → due_as reading.Efficacy day mods id body ≡ due_as reading.Force day mods id body
  due_same id (Textual source own edit) = ap (option_map (due_from source id)) (start_same mods id own day (none_changed mods none id day))
  due_same id (Force source destination on effect) = refl
  due_same id (Efficacy source destination on effect) = refl

  all_due_same : (ms : List KnownMod) → has_efficacy ms ≡ false → due_of reading.Efficacy day mods ms ≡ due_of reading.Force day mods ms
  all_due_same [] h = refl
  all_due_same (m ∷ ms) h =
      ap (λ (dues : List Due). with_due dues (cond (counts reading.Efficacy day m) (due_as reading.Efficacy day mods m.id m.body) None))
      (all_due_same ms (none_right (m.live && parts_readings m) (has_efficacy ms) h))
      ∙ ap (λ (b : Bool). with_due (due_of reading.Force day mods ms) (cond b (due_as reading.Efficacy day mods m.id m.body) None))
      (counts_same day m (none_left (m.live && parts_readings m) (has_efficacy ms) h))
      ∙ ap (λ (due : Option Due). with_due (due_of reading.Force day mods ms) (cond (counts reading.Force day m) due None)) (due_same m.id m.body)

pub one_order : (known : Known) → has_efficacy known.mods ≡ false → (day : ℕ) → order known reading.Efficacy day ≡ order known reading.Force day
one_order known none day = ap (map (λ (due : Due). due.id)) (all_due_same known.mods none day known.mods none)

pub one_version : (known : Known) → has_efficacy known.mods ≡ false → (days : List ℕ) → rows_on known reading.Efficacy days ≡ rows_on known reading.Force days
one_version known none [] = refl
one_version known none (day ∷ days) =
    ap (λ ids. (let row : RowValue = record { day = day; version = replayed known.mods (as_enacted known.act) ids } in row) ∷ rows_on known reading.Efficacy days) (one_order known none day)
    ∙ ap (λ (rows : List RowValue). (let row : RowValue = record { day = day; version = replay_on known reading.Force day } in row) ∷ rows) (one_version known none days)
