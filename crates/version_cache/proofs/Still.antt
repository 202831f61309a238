-- Between two days that no named day parts the same bears, and before all named days nothing does.
use Rattle.std.proofs.Common.{suc, ◌≡◌, ◌∙◌, sym, ap, refl, subst, ℕ, ◌≤◌, ◌==◌, Bool, true, false, cond, not, ◌&&◌, ◌||◌, nat_le, nat_lt, min, max, List, [], ◌∷◌, map, Option, Some, None, option_map, arith}
use Rattle.std.proofs.lemmas.Bool.Decides.{nat_tests}
use Rattle.std.specs.List.{All, AllByRecursion, list_any}
use Rattle.desk_base.specs.declared.id.Id.{Id}
use Rattle.desk_base.specs.declared.period.Period.{Period}
use Rattle.desk_base.specs.Periods.{includes, is_before_end}
use Rattle.bearing_mods.specs.declared.force.ForceEffect.{ForceEffect}
use Rattle.bearing_mods.specs.declared.force.ForceEffect.TheVariants as force
use Rattle.bearing_mods.specs.declared.force.CountedForce.{CountedForce}
use Rattle.bearing_mods.specs.declared.efficacy.EfficacyEffect.{EfficacyEffect}
use Rattle.bearing_mods.specs.declared.efficacy.EfficacyEffect.TheVariants as efficacy
use Rattle.bearing_mods.specs.declared.efficacy.CountedEfficacy.{CountedEfficacy}
use Rattle.bearing_mods.specs.Dates.{put_off}
use Rattle.bearing_mods.specs.Force.{force_after, force_at}
use Rattle.bearing_mods.specs.Efficacy.{efficacy_after, efficacy_period, inapplies, is_inapplied}
use Rattle.bearing_mods.specs.Turns.{Turn, is_earlier, force_turn, efficacy_turn}
use Rattle.law_register.specs.declared.answer.question.Reading.{Reading}
use Rattle.law_register.specs.declared.answer.question.Reading.TheVariants as reading
use Rattle.law_register.specs.declared.law.modification.Destination.{Destination}
use Rattle.law_register.specs.declared.law.modification.Destination.TheVariants as to
use Rattle.law_register.specs.declared.law.modification.Modification.{Modification}
use Rattle.law_register.specs.declared.law.modification.Modification.TheVariants.{Textual, Force, Efficacy}
use Rattle.law_register.specs.declared.register.carried.Carried.{Carried}
use Rattle.law_register.specs.declared.register.known.Known.{Known}
use Rattle.law_register.specs.declared.register.known.KnownMod.{KnownMod}
use Rattle.law_register.specs.Answer.Bearing.{bears_on, efficacy_on, force_on, period_on, start_on}
use Rattle.law_register.specs.Answer.Breakpoints.{breakpoints, days_of, efficacy_days, end_days, force_date, has_day, period_days}
use Rattle.law_register.specs.Answer.Counted.{is_same, force_from, efficacy_from, take_turn, take_turns, forces_on, efficacies_on}
use Rattle.law_register.specs.Answer.Order.{due_as, due_from, due_of, order, with_due}
use Rattle.law_register.specs.Answer.Soundness.{AreBoundedBy, IsSteady}
use Rattle.law_register.specs.Answer.Standing.{counts, is_within, stands_by}
use Rattle.version_cache.specs.Steady.{CarrySteadily}
use Rattle.version_cache.proofs.NamedBy.{EachDay, EachIf, none_named, none_of_sources, day_weaker, each_weaker}

turned : {A : Type 0} (P : A → Type 0) (turn : A → Turn) (one : A) (others : List A) → P one → AllByRecursion P others
    → AllByRecursion P (take_turn turn one others)
turned P turn one [] h k = (h, tt)
turned P turn one (next ∷ others) h k = by (turned P turn one others h k.1) (is_earlier (turn one) (turn next))
  where
    by : AllByRecursion P (take_turn turn one others) → (b : Bool) → AllByRecursion P (cond b (one ∷ next ∷ others) (next ∷ take_turn turn one others))
    by below true = (h, k)
    by below false = (k.0, below)

all_turned : {A : Type 0} (P : A → Type 0) (turn : A → Turn) (ones others : List A) → AllByRecursion P ones → AllByRecursion P others
    → AllByRecursion P (take_turns turn ones others)
all_turned P turn [] others h k = k
all_turned P turn (one ∷ ones) others h k = turned P turn one (take_turns turn ones others) h.0 (all_turned P turn ones others h.1 k)

max_by : (a b d : ℕ) → nat_le (max a b) d ≡ (nat_le a d && nat_le b d)
max_by a b d = grind (arith, nat_tests)

min_by : (a b d : ℕ) → nat_le (min a b) d ≡ (nat_le a d || nat_le b d)
min_by a b d = grind (arith, nat_tests)

not_after : (d e : ℕ) → nat_lt d e ≡ not (nat_le e d)
not_after d e = grind (arith, nat_tests)

module _ (from day : ℕ) where
  -- a day is not after the one exactly where it is not after the other
  abbrev pub IsStill : ℕ → Type 0
  IsStill d = nat_le d day ≡ nat_le d from

  abbrev StillEnd : Option ℕ → Type 0
  StillEnd None = Unit {0}
  StillEnd (Some d) = IsStill d

  abbrev pub StillPeriod : Period → Type 0
  StillPeriod p = IsStill p.start × StillEnd p.end

  still_max : (a b : ℕ) → IsStill a → IsStill b → IsStill (max a b)
  still_max a b h k = max_by a b day ∙ ap (λ t. t && nat_le b day) h ∙ ap (λ t. nat_le a from && t) k ∙ sym (max_by a b from)

  still_min : (a b : ℕ) → IsStill a → IsStill b → IsStill (min a b)
  still_min a b h k = min_by a b day ∙ ap (λ t. t || nat_le b day) h ∙ ap (λ t. nat_le a from || t) k ∙ sym (min_by a b from)

  still_put_off : (end : Option ℕ) (date : ℕ) → StillEnd end → IsStill date → StillEnd (put_off end date)
  still_put_off None date h k = tt
  still_put_off (Some end) date h k = still_max end date h k

  before_end_still : (end : Option ℕ) → StillEnd end → is_before_end day end ≡ is_before_end from end
  before_end_still None h = refl
  before_end_still (Some end) h = not_after day end ∙ ap not h ∙ sym (not_after from end)

  includes_still : (p : Period) → StillPeriod p → includes p day ≡ includes p from
  includes_still p h = ap (λ t. t && is_before_end day p.end) h.0 ∙ ap (λ t. nat_le p.start from && t) (before_end_still p.end h.1)

  end_still : (end : Option ℕ) → AllByRecursion IsStill (end_days end) → StillEnd end
  end_still None h = tt
  end_still (Some day) h = h.0

  period_by_days : (p : Period) → AllByRecursion IsStill (period_days p) → StillPeriod p
  period_by_days p h = (h.0, end_still p.end h.1)

  -- force
  abbrev StillForce : CountedForce → Type 0
  StillForce one = IsStill (force_date one.effect)

  force_from_still : (thing : Destination) (id : Id) (body : Modification) → AllByRecursion IsStill (days_of body)
      → force_from thing day id body ≡ force_from thing from id body
  force_from_still thing id (Textual source own edit) h = refl
  force_from_still thing id (Efficacy source destination on effect) h = refl
  force_from_still thing id (Force source destination on effect) h =
      ap (λ t. cond (is_same destination thing && t) (record { id = id; on = on; effect = effect } ∷ []) []) h.0

  force_from_all : (thing : Destination) (id : Id) (body : Modification) → AllByRecursion IsStill (days_of body)
      → AllByRecursion StillForce (force_from thing day id body)
  force_from_all thing id (Textual source own edit) h = tt
  force_from_all thing id (Efficacy source destination on effect) h = tt
  force_from_all thing id (Force source destination on effect) h = by (is_same destination thing && nat_le on day)
    where
      by : (b : Bool) → AllByRecursion StillForce (cond b (record { id = id; on = on; effect = effect } ∷ []) [])
      by true = (h.1.0, tt)
      by false = tt

  live_force_still : (thing : Destination) (b : Bool) (id : Id) (body : Modification) → EachIf IsStill b body
      → cond b (force_from thing day id body) [] ≡ cond b (force_from thing from id body) []
  live_force_still thing true id body h = force_from_still thing id body h
  live_force_still thing false id body h = refl

  live_force_all : (thing : Destination) (b : Bool) (id : Id) (body : Modification) → EachIf IsStill b body
      → AllByRecursion StillForce (cond b (force_from thing day id body) [])
  live_force_all thing true id body h = force_from_all thing id body h
  live_force_all thing false id body h = tt

  forces_still : (thing : Destination) (ms : List KnownMod) → EachDay IsStill ms → forces_on thing day ms ≡ forces_on thing from ms
  forces_still thing [] h = refl
  forces_still thing (m ∷ ms) h =
      ap (λ ones. take_turns force_turn ones (forces_on thing day ms)) (live_force_still thing m.live m.id m.body h.0)
      ∙ ap (take_turns force_turn (cond m.live (force_from thing from m.id m.body) [])) (forces_still thing ms h.1)

  forces_all : (thing : Destination) (ms : List KnownMod) → EachDay IsStill ms → AllByRecursion StillForce (forces_on thing day ms)
  forces_all thing [] h = tt
  forces_all thing (m ∷ ms) h =
      all_turned StillForce force_turn (cond m.live (force_from thing day m.id m.body) []) (forces_on thing day ms)
      (live_force_all thing m.live m.id m.body h.0) (forces_all thing ms h.1)

  force_after_still : (p : Period) (effect : ForceEffect) → StillPeriod p → IsStill (force_date effect) → StillPeriod (force_after p effect)
  force_after_still p (force.Entry date) h k = (k, h.1)
  force_after_still p (force.Postponed date) h k = (still_max p.start date h.0 k, h.1)
  force_after_still p (force.Ended date) h k = (h.0, k)
  force_after_still p (force.Prorogued date) h k = (h.0, still_put_off p.end date h.1 k)
  force_after_still p (force.ReEnacted date) h k = (k, tt)

  force_at_still : (p : Period) (ones : List CountedForce) → StillPeriod p → AllByRecursion StillForce ones → StillPeriod (force_at p ones)
  force_at_still p [] h k = h
  force_at_still p (one ∷ others) h k = force_at_still (force_after p one.effect) others (force_after_still p one.effect h k.0) k.1

  -- efficacy
  abbrev StillEfficacy : CountedEfficacy → Type 0
  StillEfficacy one = AllByRecursion IsStill (efficacy_days one.effect)

  efficacy_from_still : (thing : Destination) (id : Id) (body : Modification) → AllByRecursion IsStill (days_of body)
      → efficacy_from thing day id body ≡ efficacy_from thing from id body
  efficacy_from_still thing id (Textual source own edit) h = refl
  efficacy_from_still thing id (Force source destination on effect) h = refl
  efficacy_from_still thing id (Efficacy source destination on effect) h =
      ap (λ t. cond (is_same destination thing && t) (record { id = id; on = on; effect = effect } ∷ []) []) h.0

  efficacy_from_all : (thing : Destination) (id : Id) (body : Modification) → AllByRecursion IsStill (days_of body)
      → AllByRecursion StillEfficacy (efficacy_from thing day id body)
  efficacy_from_all thing id (Textual source own edit) h = tt
  efficacy_from_all thing id (Force source destination on effect) h = tt
  efficacy_from_all thing id (Efficacy source destination on effect) h = by (is_same destination thing && nat_le on day)
    where
      by : (b : Bool) → AllByRecursion StillEfficacy (cond b (record { id = id; on = on; effect = effect } ∷ []) [])
      by true = (h.1, tt)
      by false = tt

  live_efficacy_still : (thing : Destination) (b : Bool) (id : Id) (body : Modification) → EachIf IsStill b body
      → cond b (efficacy_from thing day id body) [] ≡ cond b (efficacy_from thing from id body) []
  live_efficacy_still thing true id body h = efficacy_from_still thing id body h
  live_efficacy_still thing false id body h = refl

  live_efficacy_all : (thing : Destination) (b : Bool) (id : Id) (body : Modification) → EachIf IsStill b body
      → AllByRecursion StillEfficacy (cond b (efficacy_from thing day id body) [])
  live_efficacy_all thing true id body h = efficacy_from_all thing id body h
  live_efficacy_all thing false id body h = tt

  efficacies_still : (thing : Destination) (ms : List KnownMod) → EachDay IsStill ms → efficacies_on thing day ms ≡ efficacies_on thing from ms
  efficacies_still thing [] h = refl
  efficacies_still thing (m ∷ ms) h =
      ap (λ ones. take_turns efficacy_turn ones (efficacies_on thing day ms)) (live_efficacy_still thing m.live m.id m.body h.0)
      ∙ ap (take_turns efficacy_turn (cond m.live (efficacy_from thing from m.id m.body) [])) (efficacies_still thing ms h.1)

  efficacies_all : (thing : Destination) (ms : List KnownMod) → EachDay IsStill ms → AllByRecursion StillEfficacy (efficacies_on thing day ms)
  efficacies_all thing [] h = tt
  efficacies_all thing (m ∷ ms) h =
      all_turned StillEfficacy efficacy_turn (cond m.live (efficacy_from thing day m.id m.body) []) (efficacies_on thing day ms)
      (live_efficacy_all thing m.live m.id m.body h.0) (efficacies_all thing ms h.1)

  efficacy_after_still : (p : Period) (effect : EfficacyEffect) → StillPeriod p → AllByRecursion IsStill (efficacy_days effect) → StillPeriod (efficacy_after p effect)
  efficacy_after_still p (efficacy.Entry date) h k = (k.0, h.1)
  efficacy_after_still p (efficacy.Ended date) h k = (h.0, k.0)
  efficacy_after_still p (efficacy.Retroactive date) h k = (still_min p.start date h.0 k.0, h.1)
  efficacy_after_still p (efficacy.Postponed date) h k = (still_max p.start date h.0 k.0, h.1)
  efficacy_after_still p (efficacy.Prorogued date) h k = (h.0, still_put_off p.end date h.1 k.0)
  efficacy_after_still p efficacy.Extra h k = (h.0, tt)
  efficacy_after_still p (efficacy.Inapplied days) h k = h

  efficacy_period_still : (p : Period) (ones : List CountedEfficacy) → StillPeriod p → AllByRecursion StillEfficacy ones → StillPeriod (efficacy_period p ones)
  efficacy_period_still p [] h k = h
  efficacy_period_still p (one ∷ others) h k = efficacy_period_still (efficacy_after p one.effect) others (efficacy_after_still p one.effect h k.0) k.1

  inapplies_still : (effect : EfficacyEffect) → AllByRecursion IsStill (efficacy_days effect) → inapplies effect day ≡ inapplies effect from
  inapplies_still (efficacy.Entry date) k = refl
  inapplies_still (efficacy.Ended date) k = refl
  inapplies_still (efficacy.Retroactive date) k = refl
  inapplies_still (efficacy.Postponed date) k = refl
  inapplies_still (efficacy.Prorogued date) k = refl
  inapplies_still efficacy.Extra k = refl
  inapplies_still (efficacy.Inapplied days) k = includes_still days (period_by_days days k)

  inapplied_still : (ones : List CountedEfficacy) → AllByRecursion StillEfficacy ones → is_inapplied ones day ≡ is_inapplied ones from
  inapplied_still [] k = refl
  inapplied_still (one ∷ others) k =
      ap (λ t. t || is_inapplied others day) (inapplies_still one.effect k.0) ∙ ap (λ t. inapplies one.effect from || t) (inapplied_still others k.1)

  -- what is carried
  same_day : (d e : ℕ) → (d == e) ≡ true → e ≡ d
  same_day d e h = grind (arith, nat_tests)

  found_still : (days : List ℕ) → AllByRecursion IsStill days → (d : ℕ) → has_day d days ≡ true → IsStill d
  found_still [] all d h = absurd (let wrong : false ≡ true = h in cc)
  found_still (e ∷ es) all d h = by (d == e) refl (found_still es all.1 d) h
    where
      by : (b : Bool) → (d == e) ≡ b → (has_day d es ≡ true → IsStill d) → (b || has_day d es) ≡ true → IsStill d
      by true same rest h = subst IsStill (same_day d e same) all.0
      by false other rest h = rest h

  within_still : (days : List ℕ) → AllByRecursion IsStill days → (spans : List Period) → AreBoundedBy days spans → is_within spans day ≡ is_within spans from
  within_still days all [] h = refl
  within_still days all (p ∷ ps) h =
      let bounds : AllByRecursion IsStill (period_days p) = each_weaker (λ d. has_day d days ≡ true) IsStill (found_still days all) (period_days p) h.0 in
      ap (λ t. t || is_within ps day) (includes_still p (period_by_days p bounds)) ∙ ap (λ t. includes p from || t) (within_still days all ps h.1)

  stands_still : (r : Reading) (days : List ℕ) → AllByRecursion IsStill days → (carried : Option Carried) → IsSteady days carried
      → stands_by r day carried ≡ stands_by r from carried
  stands_still r days all None h = refl
  stands_still reading.Force days all (Some carried) h = within_still days all carried.force h.0
  stands_still reading.Efficacy days all (Some carried) h = within_still days all carried.efficacy h.1

  -- a modification counts on both days, or on neither
  abbrev CountsStill : Reading → KnownMod → Type 0
  CountsStill r m = counts r day m ≡ counts r from m

  counts_still : (r : Reading) (days : List ℕ) → AllByRecursion IsStill days → (ms : List KnownMod) → All (λ m. IsSteady days m.carried) ms → AllByRecursion (CountsStill r) ms
  counts_still r days all [] h = tt
  counts_still r days all (m ∷ ms) h = (
    ap (λ b. m.live && b) (stands_still r days all m.carried (h 0 m (omega arith))),
    counts_still r days all ms (λ k d less. h (suc k) d (omega (arith, less))),
  )

  -- bearing
  module _ (mods : List KnownMod) (each : EachDay IsStill mods) where
    holds_still : (thing : Destination) (p : Period) → StillPeriod p → (efficacy_on mods thing p day).holds ≡ (efficacy_on mods thing p from).holds
    holds_still thing p h =
        let now : List CountedEfficacy = efficacies_on thing day mods in
        let all : AllByRecursion StillEfficacy now = efficacies_all thing mods each in
        ap (λ t. t && not (is_inapplied now day)) (includes_still (efficacy_period p now) (efficacy_period_still p now h all))
        ∙ ap (λ t. includes (efficacy_period p now) from && not t) (inapplied_still now all)
        ∙ ap (λ (ones : List CountedEfficacy). includes (efficacy_period p ones) from && not (is_inapplied ones from)) (efficacies_still thing mods each)

    bears_still : (r : Reading) (thing : Destination) (p : Period) → StillPeriod p → bears_on r mods thing p day ≡ bears_on r mods thing p from
    bears_still reading.Force thing p h = includes_still p h
    bears_still reading.Efficacy thing p h = holds_still thing p h

    period_still : (r : Reading) (thing : Destination) (p : Period) → period_on r mods thing p day ≡ period_on r mods thing p from
    period_still reading.Force thing p = refl
    period_still reading.Efficacy thing p = ap (efficacy_period p) (efficacies_still thing mods each)

    start_still : (r : Reading) (thing : Destination) (own : Period) → StillPeriod own → start_on r day mods thing own ≡ start_on r from mods thing own
    start_still r thing own h =
        let p : Period = force_on mods thing own day in
        let still : StillPeriod p = force_at_still own (forces_on thing day mods) h (forces_all thing mods each) in
        ap (λ t. cond t (Some (period_on r mods thing p day).start) None) (bears_still r thing p still)
        ∙ ap (λ (q : Period). cond (bears_on r mods thing p from) (Some q.start) None) (period_still r thing p)
        ∙ ap (λ (ones : List CountedForce). cond (bears_on r mods thing (force_at own ones) from) (Some (period_on r mods thing (force_at own ones) from).start) None)
        (forces_still thing mods each)

    due_as_still : (r : Reading) (id : Id) (body : Modification) → AllByRecursion IsStill (days_of body) → due_as r day mods id body ≡ due_as r from mods id body
    due_as_still r id (Force source destination on effect) h = refl
    due_as_still r id (Efficacy source destination on effect) h = refl
    due_as_still r id (Textual source own edit) h = ap (option_map (due_from source id)) (start_still r (to.Modification id) own (period_by_days own h))

    counted_due_still : (r : Reading) (live stands : Bool) (id : Id) (body : Modification) → EachIf IsStill live body
        → cond (live && stands) (due_as r day mods id body) None ≡ cond (live && stands) (due_as r from mods id body) None
    counted_due_still r true true id body h = due_as_still r id body h
    counted_due_still r true false id body h = refl
    counted_due_still r false stands id body h = refl

    due_still : (r : Reading) (ms : List KnownMod) → EachDay IsStill ms → AllByRecursion (CountsStill r) ms → due_of r day mods ms ≡ due_of r from mods ms
    due_still r [] h k = refl
    due_still r (m ∷ ms) h k =
        ap (λ dues. with_due dues (cond (counts r day m) (due_as r day mods m.id m.body) None)) (due_still r ms h.1 k.1)
        ∙ ap (λ b. with_due (due_of r from mods ms) (cond b (due_as r day mods m.id m.body) None)) k.0
        ∙ ap (with_due (due_of r from mods ms)) (counted_due_still r m.live (stands_by r from m.carried) m.id m.body h.0)

  between : (d : ℕ) → from ≤ day → (nat_lt from d && nat_le d day) ≡ false → IsStill d
  between d h k = grind (arith, nat_tests)

  -- where no breakpoint comes after a day up to a later one, the same bears on both, in the same order
  pub order_still : (known : Known) → CarrySteadily known → (r : Reading) → from ≤ day → list_any (λ d. nat_lt from d && nat_le d day) (breakpoints known) ≡ false
      → order known r day ≡ order known r from
  order_still known steady r later none =
      let comes : ℕ → Bool = λ d. nat_lt from d && nat_le d day in
      let each : EachDay IsStill known.mods = day_weaker (λ d. comes d ≡ false) IsStill (λ d h. between d later h) known.mods (none_named comes known none) in
      let days : AllByRecursion IsStill known.source_days =
      each_weaker (λ d. comes d ≡ false) IsStill (λ d h. between d later h) known.source_days (none_of_sources comes known none) in
      ap (map (λ due. due.id)) (due_still known.mods each r known.mods each (counts_still r known.source_days days known.mods steady))

never : {A : Type 0} (b : Bool) (x y : A) → cond (b && false) x y ≡ y
never true x y = refl
never false x y = refl

module _ (day : ℕ) where
  -- a day comes later
  abbrev IsLater : ℕ → Type 0
  IsLater d = nat_le d day ≡ false

  force_later : (thing : Destination) (b : Bool) (id : Id) (body : Modification) → EachIf IsLater b body → cond b (force_from thing day id body) [] ≡ []
  force_later thing false id body h = refl
  force_later thing true id (Textual source own edit) h = refl
  force_later thing true id (Efficacy source destination on effect) h = refl
  force_later thing true id (Force source destination on effect) h =
      let one : List CountedForce = record { id = id; on = on; effect = effect } ∷ [] in
      ap (λ t. cond (is_same destination thing && t) one []) h.0 ∙ never (is_same destination thing) one []

  efficacy_later : (thing : Destination) (b : Bool) (id : Id) (body : Modification) → EachIf IsLater b body → cond b (efficacy_from thing day id body) [] ≡ []
  efficacy_later thing false id body h = refl
  efficacy_later thing true id (Textual source own edit) h = refl
  efficacy_later thing true id (Force source destination on effect) h = refl
  efficacy_later thing true id (Efficacy source destination on effect) h =
      let one : List CountedEfficacy = record { id = id; on = on; effect = effect } ∷ [] in
      ap (λ t. cond (is_same destination thing && t) one []) h.0 ∙ never (is_same destination thing) one []

  forces_later : (thing : Destination) (ms : List KnownMod) → EachDay IsLater ms → forces_on thing day ms ≡ []
  forces_later thing [] h = refl
  forces_later thing (m ∷ ms) h =
      ap (λ ones. take_turns force_turn ones (forces_on thing day ms)) (force_later thing m.live m.id m.body h.0) ∙ forces_later thing ms h.1

  efficacies_later : (thing : Destination) (ms : List KnownMod) → EachDay IsLater ms → efficacies_on thing day ms ≡ []
  efficacies_later thing [] h = refl
  efficacies_later thing (m ∷ ms) h =
      ap (λ ones. take_turns efficacy_turn ones (efficacies_on thing day ms)) (efficacy_later thing m.live m.id m.body h.0) ∙ efficacies_later thing ms h.1

  module _ (mods : List KnownMod) (each : EachDay IsLater mods) where
    own_later : (r : Reading) (thing : Destination) (own : Period) → IsLater own.start → bears_on r mods thing own day ≡ false
    own_later reading.Force thing own h = ap (λ t. t && is_before_end day own.end) h
    own_later reading.Efficacy thing own h =
        ap (λ (ones : List CountedEfficacy). includes (efficacy_period own ones) day && not (is_inapplied ones day)) (efficacies_later thing mods each)
        ∙ ap (λ t. (t && is_before_end day own.end) && true) h

    start_later : (r : Reading) (thing : Destination) (own : Period) → IsLater own.start → start_on r day mods thing own ≡ None
    start_later r thing own h =
        ap (λ (ones : List CountedForce). cond (bears_on r mods thing (force_at own ones) day) (Some (period_on r mods thing (force_at own ones) day).start) None)
        (forces_later thing mods each)
        ∙ ap (λ t. cond t (Some (period_on r mods thing own day).start) None) (own_later r thing own h)

    due_later : (r : Reading) (live stands : Bool) (id : Id) (body : Modification) → EachIf IsLater live body → cond (live && stands) (due_as r day mods id body) None ≡ None
    due_later r false stands id body h = refl
    due_later r true false id body h = refl
    due_later r true true id (Force source destination on effect) h = refl
    due_later r true true id (Efficacy source destination on effect) h = refl
    due_later r true true id (Textual source own edit) h = ap (option_map (due_from source id)) (start_later r (to.Modification id) own h.0)

    none_due : (r : Reading) (ms : List KnownMod) → EachDay IsLater ms → due_of r day mods ms ≡ []
    none_due r [] h = refl
    none_due r (m ∷ ms) h =
        ap (λ dues. with_due dues (cond (counts r day m) (due_as r day mods m.id m.body) None)) (none_due r ms h.1)
        ∙ ap (with_due []) (due_later r m.live (stands_by r day m.carried) m.id m.body h.0)

  -- before all breakpoints nothing bears
  pub order_none : (known : Known) (r : Reading) → list_any (λ d. nat_le d day) (breakpoints known) ≡ false → order known r day ≡ []
  order_none known r none =
      let each : EachDay IsLater known.mods = none_named (λ d. nat_le d day) known none in
      ap (map (λ due. due.id)) (none_due known.mods each r known.mods each)
