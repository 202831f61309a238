-- Between two days that none of the days which a work names parts, the same bears of it: the modifications and the provisions.
use Rattle.std.proofs.Common.{◌≡◌, ◌∙◌, sym, ap, refl, ℕ, ◌≤◌, Bool, true, false, cond, not, ◌&&◌, ◌||◌, nat_le, nat_lt, min, max, List, [], ◌∷◌, Option, Some, None, option_map, arith}
use Rattle.std.proofs.lemmas.Bool.Decides.{nat_tests}
use Rattle.std.specs.List.{AllByRecursion}
use Rattle.desk_base.specs.declared.id.Id.{Id}
use Rattle.desk_base.specs.declared.period.Period.{Period}
use Rattle.desk_base.specs.Periods.{includes, is_before_end}
use Rattle.bearing_mods.specs.declared.force.ForceEffect.{ForceEffect}
use Rattle.bearing_mods.specs.declared.force.ForceEffect.TheVariants as force
use Rattle.bearing_mods.specs.declared.force.CountedForce.{CountedForce}
use Rattle.bearing_mods.specs.declared.efficacy.EfficacyEffect.{EfficacyEffect}
use Rattle.bearing_mods.specs.declared.efficacy.EfficacyEffect.TheVariants as efficacy
use Rattle.bearing_mods.specs.declared.efficacy.CountedEfficacy.{CountedEfficacy}
use Rattle.bearing_mods.specs.Dates.{put_off}
use Rattle.bearing_mods.specs.Force.{force_after, force_at}
use Rattle.bearing_mods.specs.Efficacy.{efficacy_after, efficacy_period, inapplies, is_inapplied}
use Rattle.bearing_mods.specs.Turns.{Turn, is_earlier, force_turn, efficacy_turn}
use Rattle.law_register.specs.declared.answer.question.Reading.{Reading}
use Rattle.law_register.specs.declared.answer.question.Reading.TheVariants as reading
use Rattle.law_register.specs.declared.law.modification.Destination.{Destination}
use Rattle.law_register.specs.declared.law.modification.Destination.TheVariants as to
use Rattle.law_register.specs.declared.law.modification.Modification.{Modification}
use Rattle.law_register.specs.declared.law.modification.Modification.TheVariants.{Textual, Force, Efficacy}
use Rattle.law_register.specs.declared.register.known.KnownMod.{KnownMod}
use Rattle.law_register.specs.Answer.Bearing.{bears_on, efficacy_on, force_on, period_on, start_on}
use Rattle.law_register.specs.Answer.Breakpoints.{days_of, efficacy_days, end_days, force_date, period_days}
use Rattle.law_register.specs.Answer.Counted.{is_same, force_from, efficacy_from, take_turn, take_turns, forces_on, efficacies_on}
use Rattle.law_register.specs.Answer.Order.{due_as, due_from, due_of, with_due}
use Rattle.law_register.specs.Answer.Standing.{counts, stands_by}

-- each day of a modification that stands is so
abbrev pub EachIf : (ℕ → Type 0) → Bool → Modification → Type 0
EachIf P true body = AllByRecursion P (days_of body)
EachIf P false body = Unit {0}

-- each day of those that stand
abbrev pub EachDay : (ℕ → Type 0) → List KnownMod → Type 0
EachDay P [] = Unit {0}
EachDay P (m ∷ ms) = EachIf P m.live m.body × EachDay P ms

turned : {A : Type 0} (P : A → Type 0) (turn : A → Turn) (one : A) (others : List A) → P one → AllByRecursion P others
    → AllByRecursion P (take_turn turn one others)
turned P turn one [] h k = (h, tt)
turned P turn one (next ∷ others) h k = by (turned P turn one others h k.1) (is_earlier (turn one) (turn next))
  where
    by : AllByRecursion P (take_turn turn one others) → (b : Bool) → AllByRecursion P (cond b (one ∷ next ∷ others) (next ∷ take_turn turn one others))
    by below true = (h, k)
    by below false = (k.0, below)

all_turned : {A : Type 0} (P : A → Type 0) (turn : A → Turn) (ones others : List A) → AllByRecursion P ones → AllByRecursion P others
    → AllByRecursion P (take_turns turn ones others)
all_turned P turn [] others h k = k
all_turned P turn (one ∷ ones) others h k = turned P turn one (take_turns turn ones others) h.0 (all_turned P turn ones others h.1 k)

max_by : (a b d : ℕ) → nat_le (max a b) d ≡ (nat_le a d && nat_le b d)
max_by a b d = grind (arith, nat_tests)

min_by : (a b d : ℕ) → nat_le (min a b) d ≡ (nat_le a d || nat_le b d)
min_by a b d = grind (arith, nat_tests)

not_after : (d e : ℕ) → nat_lt d e ≡ not (nat_le e d)
not_after d e = grind (arith, nat_tests)

module _ (from day : ℕ) where
  -- a day is not after the one exactly where it is not after the other
  abbrev pub IsStill : ℕ → Type 0
  IsStill d = nat_le d day ≡ nat_le d from

  abbrev StillEnd : Option ℕ → Type 0
  StillEnd None = Unit {0}
  StillEnd (Some d) = IsStill d

  abbrev pub StillPeriod : Period → Type 0
  StillPeriod p = IsStill p.start × StillEnd p.end

  still_max : (a b : ℕ) → IsStill a → IsStill b → IsStill (max a b)
  still_max a b h k = max_by a b day ∙ ap (λ t. t && nat_le b day) h ∙ ap (λ t. nat_le a from && t) k ∙ sym (max_by a b from)

  still_min : (a b : ℕ) → IsStill a → IsStill b → IsStill (min a b)
  still_min a b h k = min_by a b day ∙ ap (λ t. t || nat_le b day) h ∙ ap (λ t. nat_le a from || t) k ∙ sym (min_by a b from)

  still_put_off : (end : Option ℕ) (date : ℕ) → StillEnd end → IsStill date → StillEnd (put_off end date)
  still_put_off None date h k = tt
  still_put_off (Some end) date h k = still_max end date h k

  before_end_still : (end : Option ℕ) → StillEnd end → is_before_end day end ≡ is_before_end from end
  before_end_still None h = refl
  before_end_still (Some end) h = not_after day end ∙ ap not h ∙ sym (not_after from end)

  includes_still : (p : Period) → StillPeriod p → includes p day ≡ includes p from
  includes_still p h = ap (λ t. t && is_before_end day p.end) h.0 ∙ ap (λ t. nat_le p.start from && t) (before_end_still p.end h.1)

  end_still : (end : Option ℕ) → AllByRecursion IsStill (end_days end) → StillEnd end
  end_still None h = tt
  end_still (Some day) h = h.0

  pub period_by_days : (p : Period) → AllByRecursion IsStill (period_days p) → StillPeriod p
  period_by_days p h = (h.0, end_still p.end h.1)

  -- force
  abbrev StillForce : CountedForce → Type 0
  StillForce one = IsStill (force_date one.effect)

  force_from_still : (thing : Destination) (id : Id) (body : Modification) → AllByRecursion IsStill (days_of body)
      → force_from thing day id body ≡ force_from thing from id body
  force_from_still thing id (Textual source own edit) h = refl
  force_from_still thing id (Efficacy source destination on effect) h = refl
  force_from_still thing id (Force source destination on effect) h =
      ap (λ t. cond (is_same destination thing && t) (record { id = id; on = on; effect = effect } ∷ []) []) h.0

  force_from_all : (thing : Destination) (id : Id) (body : Modification) → AllByRecursion IsStill (days_of body)
      → AllByRecursion StillForce (force_from thing day id body)
  force_from_all thing id (Textual source own edit) h = tt
  force_from_all thing id (Efficacy source destination on effect) h = tt
  force_from_all thing id (Force source destination on effect) h = by (is_same destination thing && nat_le on day)
    where
      by : (b : Bool) → AllByRecursion StillForce (cond b (record { id = id; on = on; effect = effect } ∷ []) [])
      by true = (h.1.0, tt)
      by false = tt

  live_force_still : (thing : Destination) (b : Bool) (id : Id) (body : Modification) → EachIf IsStill b body
      → cond b (force_from thing day id body) [] ≡ cond b (force_from thing from id body) []
  live_force_still thing true id body h = force_from_still thing id body h
  live_force_still thing false id body h = refl

  live_force_all : (thing : Destination) (b : Bool) (id : Id) (body : Modification) → EachIf IsStill b body
      → AllByRecursion StillForce (cond b (force_from thing day id body) [])
  live_force_all thing true id body h = force_from_all thing id body h
  live_force_all thing false id body h = tt

  pub forces_still : (thing : Destination) (ms : List KnownMod) → EachDay IsStill ms → forces_on thing day ms ≡ forces_on thing from ms
  forces_still thing [] h = refl
  forces_still thing (m ∷ ms) h =
      ap (λ ones. take_turns force_turn ones (forces_on thing day ms)) (live_force_still thing m.live m.id m.body h.0)
      ∙ ap (take_turns force_turn (cond m.live (force_from thing from m.id m.body) [])) (forces_still thing ms h.1)

  pub forces_all : (thing : Destination) (ms : List KnownMod) → EachDay IsStill ms → AllByRecursion StillForce (forces_on thing day ms)
  forces_all thing [] h = tt
  forces_all thing (m ∷ ms) h =
      all_turned StillForce force_turn (cond m.live (force_from thing day m.id m.body) []) (forces_on thing day ms)
      (live_force_all thing m.live m.id m.body h.0) (forces_all thing ms h.1)

  force_after_still : (p : Period) (effect : ForceEffect) → StillPeriod p → IsStill (force_date effect) → StillPeriod (force_after p effect)
  force_after_still p (force.Entry date) h k = (k, h.1)
  force_after_still p (force.Postponed date) h k = (still_max p.start date h.0 k, h.1)
  force_after_still p (force.Ended date) h k = (h.0, k)
  force_after_still p (force.Prorogued date) h k = (h.0, still_put_off p.end date h.1 k)
  force_after_still p (force.ReEnacted date) h k = (k, tt)

  pub force_at_still : (p : Period) (ones : List CountedForce) → StillPeriod p → AllByRecursion StillForce ones → StillPeriod (force_at p ones)
  force_at_still p [] h k = h
  force_at_still p (one ∷ others) h k = force_at_still (force_after p one.effect) others (force_after_still p one.effect h k.0) k.1

  -- efficacy
  abbrev StillEfficacy : CountedEfficacy → Type 0
  StillEfficacy one = AllByRecursion IsStill (efficacy_days one.effect)

  efficacy_from_still : (thing : Destination) (id : Id) (body : Modification) → AllByRecursion IsStill (days_of body)
      → efficacy_from thing day id body ≡ efficacy_from thing from id body
  efficacy_from_still thing id (Textual source own edit) h = refl
  efficacy_from_still thing id (Force source destination on effect) h = refl
  efficacy_from_still thing id (Efficacy source destination on effect) h =
      ap (λ t. cond (is_same destination thing && t) (record { id = id; on = on; effect = effect } ∷ []) []) h.0

  efficacy_from_all : (thing : Destination) (id : Id) (body : Modification) → AllByRecursion IsStill (days_of body)
      → AllByRecursion StillEfficacy (efficacy_from thing day id body)
  efficacy_from_all thing id (Textual source own edit) h = tt
  efficacy_from_all thing id (Force source destination on effect) h = tt
  efficacy_from_all thing id (Efficacy source destination on effect) h = by (is_same destination thing && nat_le on day)
    where
      by : (b : Bool) → AllByRecursion StillEfficacy (cond b (record { id = id; on = on; effect = effect } ∷ []) [])
      by true = (h.1, tt)
      by false = tt

  live_efficacy_still : (thing : Destination) (b : Bool) (id : Id) (body : Modification) → EachIf IsStill b body
      → cond b (efficacy_from thing day id body) [] ≡ cond b (efficacy_from thing from id body) []
  live_efficacy_still thing true id body h = efficacy_from_still thing id body h
  live_efficacy_still thing false id body h = refl

  live_efficacy_all : (thing : Destination) (b : Bool) (id : Id) (body : Modification) → EachIf IsStill b body
      → AllByRecursion StillEfficacy (cond b (efficacy_from thing day id body) [])
  live_efficacy_all thing true id body h = efficacy_from_all thing id body h
  live_efficacy_all thing false id body h = tt

  pub efficacies_still : (thing : Destination) (ms : List KnownMod) → EachDay IsStill ms → efficacies_on thing day ms ≡ efficacies_on thing from ms
  efficacies_still thing [] h = refl
  efficacies_still thing (m ∷ ms) h =
      ap (λ ones. take_turns efficacy_turn ones (efficacies_on thing day ms)) (live_efficacy_still thing m.live m.id m.body h.0)
      ∙ ap (take_turns efficacy_turn (cond m.live (efficacy_from thing from m.id m.body) [])) (efficacies_still thing ms h.1)

  efficacies_all : (thing : Destination) (ms : List KnownMod) → EachDay IsStill ms → AllByRecursion StillEfficacy (efficacies_on thing day ms)
  efficacies_all thing [] h = tt
  efficacies_all thing (m ∷ ms) h =
      all_turned StillEfficacy efficacy_turn (cond m.live (efficacy_from thing day m.id m.body) []) (efficacies_on thing day ms)
      (live_efficacy_all thing m.live m.id m.body h.0) (efficacies_all thing ms h.1)

  efficacy_after_still : (p : Period) (effect : EfficacyEffect) → StillPeriod p → AllByRecursion IsStill (efficacy_days effect) → StillPeriod (efficacy_after p effect)
  efficacy_after_still p (efficacy.Entry date) h k = (k.0, h.1)
  efficacy_after_still p (efficacy.Ended date) h k = (h.0, k.0)
  efficacy_after_still p (efficacy.Retroactive date) h k = (still_min p.start date h.0 k.0, h.1)
  efficacy_after_still p (efficacy.Postponed date) h k = (still_max p.start date h.0 k.0, h.1)
  efficacy_after_still p (efficacy.Prorogued date) h k = (h.0, still_put_off p.end date h.1 k.0)
  efficacy_after_still p efficacy.Extra h k = (h.0, tt)
  efficacy_after_still p (efficacy.Inapplied days) h k = h

  efficacy_period_still : (p : Period) (ones : List CountedEfficacy) → StillPeriod p → AllByRecursion StillEfficacy ones → StillPeriod (efficacy_period p ones)
  efficacy_period_still p [] h k = h
  efficacy_period_still p (one ∷ others) h k = efficacy_period_still (efficacy_after p one.effect) others (efficacy_after_still p one.effect h k.0) k.1

  inapplies_still : (effect : EfficacyEffect) → AllByRecursion IsStill (efficacy_days effect) → inapplies effect day ≡ inapplies effect from
  inapplies_still (efficacy.Entry date) k = refl
  inapplies_still (efficacy.Ended date) k = refl
  inapplies_still (efficacy.Retroactive date) k = refl
  inapplies_still (efficacy.Postponed date) k = refl
  inapplies_still (efficacy.Prorogued date) k = refl
  inapplies_still efficacy.Extra k = refl
  inapplies_still (efficacy.Inapplied days) k = includes_still days (period_by_days days k)

  inapplied_still : (ones : List CountedEfficacy) → AllByRecursion StillEfficacy ones → is_inapplied ones day ≡ is_inapplied ones from
  inapplied_still [] k = refl
  inapplied_still (one ∷ others) k =
      ap (λ t. t || is_inapplied others day) (inapplies_still one.effect k.0) ∙ ap (λ t. inapplies one.effect from || t) (inapplied_still others k.1)

  -- bearing
  module _ (mods : List KnownMod) (each : EachDay IsStill mods) where
    holds_still : (thing : Destination) (p : Period) → StillPeriod p → (efficacy_on mods thing p day).holds ≡ (efficacy_on mods thing p from).holds
    holds_still thing p h =
        let now : List CountedEfficacy = efficacies_on thing day mods in
        let all : AllByRecursion StillEfficacy now = efficacies_all thing mods each in
        ap (λ t. t && not (is_inapplied now day)) (includes_still (efficacy_period p now) (efficacy_period_still p now h all))
        ∙ ap (λ t. includes (efficacy_period p now) from && not t) (inapplied_still now all)
        ∙ ap (λ (ones : List CountedEfficacy). includes (efficacy_period p ones) from && not (is_inapplied ones from)) (efficacies_still thing mods each)

    pub bears_still : (r : Reading) (thing : Destination) (p : Period) → StillPeriod p → bears_on r mods thing p day ≡ bears_on r mods thing p from
    bears_still reading.Force thing p h = includes_still p h
    bears_still reading.Efficacy thing p h = holds_still thing p h

    period_still : (r : Reading) (thing : Destination) (p : Period) → period_on r mods thing p day ≡ period_on r mods thing p from
    period_still reading.Force thing p = refl
    period_still reading.Efficacy thing p = ap (efficacy_period p) (efficacies_still thing mods each)

    start_still : (r : Reading) (thing : Destination) (own : Period) → StillPeriod own → start_on r day mods thing own ≡ start_on r from mods thing own
    start_still r thing own h =
        let p : Period = force_on mods thing own day in
        let still : StillPeriod p = force_at_still own (forces_on thing day mods) h (forces_all thing mods each) in
        ap (λ t. cond t (Some (period_on r mods thing p day).start) None) (bears_still r thing p still)
        ∙ ap (λ (q : Period). cond (bears_on r mods thing p from) (Some q.start) None) (period_still r thing p)
        ∙ ap (λ (ones : List CountedForce). cond (bears_on r mods thing (force_at own ones) from) (Some (period_on r mods thing (force_at own ones) from).start) None)
        (forces_still thing mods each)

    due_as_still : (r : Reading) (id : Id) (body : Modification) → AllByRecursion IsStill (days_of body) → due_as r day mods id body ≡ due_as r from mods id body
    due_as_still r id (Force source destination on effect) h = refl
    due_as_still r id (Efficacy source destination on effect) h = refl
    due_as_still r id (Textual source own edit) h = ap (option_map (due_from source id)) (start_still r (to.Modification id) own (period_by_days own h))

    live_due_still : (r : Reading) (b c : Bool) (id : Id) (body : Modification) → EachIf IsStill b body
        → cond (b && c) (due_as r day mods id body) None ≡ cond (b && c) (due_as r from mods id body) None
    live_due_still r true c id body h = ap (λ due. cond c due None) (due_as_still r id body h)
    live_due_still r false c id body h = refl

    -- where what is carried stands still, too
    pub due_still : (r : Reading) (ms : List KnownMod) → EachDay IsStill ms → AllByRecursion (λ (m : KnownMod). stands_by r day m.carried ≡ stands_by r from m.carried) ms
        → due_of r day mods ms ≡ due_of r from mods ms
    due_still r [] h k = refl
    due_still r (m ∷ ms) h k =
        ap (λ dues. with_due dues (cond (counts r day m) (due_as r day mods m.id m.body) None)) (due_still r ms h.1 k.1)
        ∙ ap (λ b. with_due (due_of r from mods ms) (cond (m.live && b) (due_as r day mods m.id m.body) None)) k.0
        ∙ ap (with_due (due_of r from mods ms)) (live_due_still r m.live (stands_by r from m.carried) m.id m.body h.0)

  pub between : (d : ℕ) → from ≤ day → (nat_lt from d && nat_le d day) ≡ false → IsStill d
  between d h k = grind (arith, nat_tests)

never : {A : Type 0} (b : Bool) (x y : A) → cond (b && false) x y ≡ y
never true x y = refl
never false x y = refl

module _ (day : ℕ) where
  -- a day comes later
  abbrev pub IsLater : ℕ → Type 0
  IsLater d = nat_le d day ≡ false

  force_later : (thing : Destination) (b : Bool) (id : Id) (body : Modification) → EachIf IsLater b body → cond b (force_from thing day id body) [] ≡ []
  force_later thing false id body h = refl
  force_later thing true id (Textual source own edit) h = refl
  force_later thing true id (Efficacy source destination on effect) h = refl
  force_later thing true id (Force source destination on effect) h =
      let one : List CountedForce = record { id = id; on = on; effect = effect } ∷ [] in
      ap (λ t. cond (is_same destination thing && t) one []) h.0 ∙ never (is_same destination thing) one []

  efficacy_later : (thing : Destination) (b : Bool) (id : Id) (body : Modification) → EachIf IsLater b body → cond b (efficacy_from thing day id body) [] ≡ []
  efficacy_later thing false id body h = refl
  efficacy_later thing true id (Textual source own edit) h = refl
  efficacy_later thing true id (Force source destination on effect) h = refl
  efficacy_later thing true id (Efficacy source destination on effect) h =
      let one : List CountedEfficacy = record { id = id; on = on; effect = effect } ∷ [] in
      ap (λ t. cond (is_same destination thing && t) one []) h.0 ∙ never (is_same destination thing) one []

  pub forces_later : (thing : Destination) (ms : List KnownMod) → EachDay IsLater ms → forces_on thing day ms ≡ []
  forces_later thing [] h = refl
  forces_later thing (m ∷ ms) h =
      ap (λ ones. take_turns force_turn ones (forces_on thing day ms)) (force_later thing m.live m.id m.body h.0) ∙ forces_later thing ms h.1

  pub efficacies_later : (thing : Destination) (ms : List KnownMod) → EachDay IsLater ms → efficacies_on thing day ms ≡ []
  efficacies_later thing [] h = refl
  efficacies_later thing (m ∷ ms) h =
      ap (λ ones. take_turns efficacy_turn ones (efficacies_on thing day ms)) (efficacy_later thing m.live m.id m.body h.0) ∙ efficacies_later thing ms h.1

  module _ (mods : List KnownMod) (each : EachDay IsLater mods) where
    pub own_later : (r : Reading) (thing : Destination) (own : Period) → IsLater own.start → bears_on r mods thing own day ≡ false
    own_later reading.Force thing own h = ap (λ t. t && is_before_end day own.end) h
    own_later reading.Efficacy thing own h =
        ap (λ (ones : List CountedEfficacy). includes (efficacy_period own ones) day && not (is_inapplied ones day)) (efficacies_later thing mods each)
        ∙ ap (λ t. (t && is_before_end day own.end) && true) h
