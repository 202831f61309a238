-- What modifications that touch nothing by a day leave of what bears on it.
use Rattle.std.proofs.Common.{◌≡◌, ◌∙◌, sym, ap, refl, subst, ℕ, ◌<◌, min, Bool, true, false, cond, not, ◌&&◌, ◌||◌, nat_le, List, [], ◌∷◌, ◌++◌, map, Option, Some, None, is_some, option_map, arith}
use Rattle.std.proofs.lemmas.Bool.Decides.{nat_tests}
use Rattle.std.specs.List.{AllByRecursion, find, list_any}
use Rattle.desk_base.specs.declared.id.Id.{Id}
use Rattle.desk_base.specs.declared.period.Period.{Period}
use Rattle.desk_base.specs.Periods.{includes, is_before_end}
use Rattle.bearing_mods.specs.declared.force.CountedForce.{CountedForce}
use Rattle.bearing_mods.specs.declared.efficacy.CountedEfficacy.{CountedEfficacy}
use Rattle.bearing_mods.specs.Force.{force_at}
use Rattle.bearing_mods.specs.Efficacy.{efficacy_at, efficacy_period, is_inapplied}
use Rattle.bearing_mods.specs.Turns.{force_turn, efficacy_turn}
use Rattle.law_register.specs.declared.answer.due.Due.{Due}
use Rattle.law_register.specs.declared.answer.question.Reading.{Reading}
use Rattle.law_register.specs.declared.answer.question.Reading.TheVariants as reading
use Rattle.law_register.specs.declared.law.modification.Destination.TheVariants as to
use Rattle.law_register.specs.declared.law.modification.Modification.{Modification}
use Rattle.law_register.specs.declared.law.modification.Modification.TheVariants.{Textual, Force, Efficacy}
use Rattle.law_register.specs.declared.register.known.Known.{Known}
use Rattle.law_register.specs.declared.register.known.KnownMod.{KnownMod}
use Rattle.law_register.specs.Answer.Bearing.{bears_on, force_on, period_on, start_on}
use Rattle.law_register.specs.Answer.Counted.{is_same, is_same_id, force_from, efficacy_from, take_turns, forces_on, efficacies_on}
use Rattle.law_register.specs.Answer.Order.{due_as, due_from, due_of, is_due, order, with_due}
use Rattle.law_register.specs.Answer.Standing.{counts}
use Rattle.law_register.specs.Answer.Touched.{day_on, first_on, own_day, sooner}
use Rattle.law_register.proofs.ApartIds.{same_self, same_sym}
use Rattle.law_register.proofs.DueOnce.{order_members}
use Rattle.version_cache.specs.Agreement.{AgreeOn, IsBefore, body_of}
use Rattle.version_cache.proofs.Fronts.{same_id}

never : {A : Type 0} (b : Bool) (x y : A) → cond (b && false) x y ≡ y
never true x y = refl
never false x y = refl

not_by : (on day : ℕ) → day < on → nat_le on day ≡ false
not_by on day h = grind (arith, nat_tests)

pub before_both : (day : ℕ) (a b : Option ℕ) → IsBefore day (sooner a b) → IsBefore day a × IsBefore day b
before_both day None None h = (tt, tt)
before_both day None (Some y) h = (tt, h)
before_both day (Some x) None h = (h, tt)
before_both day (Some x) (Some y) h = (first day x y h, second day x y h)
  where
    first : (d x y : ℕ) → d < min x y → d < x
    first d x y h = omega arith

    second : (d x y : ℕ) → d < min x y → d < y
    second d x y h = omega arith

-- nothing is counted for a modification on a day
pub record NoneCounted (mods : List KnownMod) (day : ℕ) (id : Id) : Type 0 where
  pub forces : forces_on (to.Modification id) day mods ≡ []
  pub efficacies : efficacies_on (to.Modification id) day mods ≡ []

-- one of which the start comes later does not bear where nothing is counted for it
start_none : (r : Reading) (day : ℕ) (mods : List KnownMod) (id : Id) (own : Period) → day < own.start → NoneCounted mods day id
    → start_on r day mods (to.Modification id) own ≡ None
start_none r day mods id own h none =
    ap (λ (ones : List CountedForce). cond (bears_on r mods (to.Modification id) (force_at own ones) day) (Some (period_on r mods (to.Modification id) (force_at own ones) day).start) None) none.forces
    ∙ ap (λ b. cond b (Some (period_on r mods (to.Modification id) own day).start) None) (by r)
  where
    by : (r : Reading) → bears_on r mods (to.Modification id) own day ≡ false
    by reading.Force = ap (λ b. b && is_before_end day own.end) (not_by own.start day h)
    by reading.Efficacy =
        ap (λ (ones : List CountedEfficacy). includes (efficacy_period own ones) day && not (is_inapplied ones day)) none.efficacies
        ∙ ap (λ b. (b && is_before_end day own.end) && true) (not_by own.start day h)

module _ (day : ℕ) where
  -- by the day it touches nothing by itself
  abbrev pub IsMute : Modification → Type 0
  IsMute body = IsBefore day (own_day body)

  module _ (id : Id) where
    mute_force : (b : Bool) (other : Id) (body : Modification) → IsMute body → cond b (force_from (to.Modification id) day other body) [] ≡ []
    mute_force false other body h = refl
    mute_force true other (Textual source own edit) h = refl
    mute_force true other (Efficacy source destination on effect) h = refl
    mute_force true other (Force source (to.Node wid) on effect) h = refl
    mute_force true other (Force source (to.Modification k) on effect) h =
        let one : List CountedForce = record { id = other; on = on; effect = effect } ∷ [] in
        ap (λ t. cond (is_same_id k id && t) one []) (not_by on day h) ∙ never (is_same_id k id) one []

    mute_efficacy : (b : Bool) (other : Id) (body : Modification) → IsMute body → cond b (efficacy_from (to.Modification id) day other body) [] ≡ []
    mute_efficacy false other body h = refl
    mute_efficacy true other (Textual source own edit) h = refl
    mute_efficacy true other (Force source destination on effect) h = refl
    mute_efficacy true other (Efficacy source (to.Node wid) on effect) h = refl
    mute_efficacy true other (Efficacy source (to.Modification k) on effect) h =
        let one : List CountedEfficacy = record { id = other; on = on; effect = effect } ∷ [] in
        ap (λ t. cond (is_same_id k id && t) one []) (not_by on day h) ∙ never (is_same_id k id) one []

    -- one that is directed at it and counts from a later day only
    late_force : (b : Bool) (other : Id) (body : Modification) → IsBefore day (day_on id body) → cond b (force_from (to.Modification id) day other body) [] ≡ []
    late_force false other body h = refl
    late_force true other (Textual source own edit) h = refl
    late_force true other (Efficacy source destination on effect) h = refl
    late_force true other (Force source destination on effect) h = by (is_same destination (to.Modification id)) h
      where
        by : (b : Bool) → IsBefore day (cond b (Some on) None) → (let one : List CountedForce = record { id = other; on = on; effect = effect } ∷ [] in cond (b && nat_le on day) one [] ≡ [])
        by true h = let one : List CountedForce = record { id = other; on = on; effect = effect } ∷ [] in ap (λ t. cond t one []) (not_by on day h)
        by false h = refl

    late_efficacy : (b : Bool) (other : Id) (body : Modification) → IsBefore day (day_on id body) → cond b (efficacy_from (to.Modification id) day other body) [] ≡ []
    late_efficacy false other body h = refl
    late_efficacy true other (Textual source own edit) h = refl
    late_efficacy true other (Force source destination on effect) h = refl
    late_efficacy true other (Efficacy source destination on effect) h = by (is_same destination (to.Modification id)) h
      where
        by : (b : Bool) → IsBefore day (cond b (Some on) None) → (let one : List CountedEfficacy = record { id = other; on = on; effect = effect } ∷ [] in cond (b && nat_le on day) one [] ≡ [])
        by true h = let one : List CountedEfficacy = record { id = other; on = on; effect = effect } ∷ [] in ap (λ t. cond t one []) (not_by on day h)
        by false h = refl

    none_forces : (ms : List KnownMod) → IsBefore day (first_on id ms) → forces_on (to.Modification id) day ms ≡ []
    none_forces [] h = refl
    none_forces (m ∷ ms) h =
        let both = before_both day (day_on id m.body) (first_on id ms) h in
        ap (λ ones. take_turns force_turn ones (forces_on (to.Modification id) day ms)) (late_force m.live m.id m.body both.0) ∙ none_forces ms both.1

    none_efficacies : (ms : List KnownMod) → IsBefore day (first_on id ms) → efficacies_on (to.Modification id) day ms ≡ []
    none_efficacies [] h = refl
    none_efficacies (m ∷ ms) h =
        let both = before_both day (day_on id m.body) (first_on id ms) h in
        ap (λ ones. take_turns efficacy_turn ones (efficacies_on (to.Modification id) day ms)) (late_efficacy m.live m.id m.body both.0) ∙ none_efficacies ms both.1

    -- where those directed at it count from a later day only, nothing is counted for it
    pub none_counted : (ms : List KnownMod) → IsBefore day (first_on id ms) → NoneCounted ms day id
    none_counted ms h = record { forces = none_forces ms h; efficacies = none_efficacies ms h }

    -- mute ones behind others count for nothing
    added_forces : (ns added : List KnownMod) → AllByRecursion (λ m. IsMute m.body) added
        → forces_on (to.Modification id) day (ns ++ added) ≡ forces_on (to.Modification id) day ns
    added_forces [] [] h = refl
    added_forces [] (m ∷ ms) h =
        ap (λ ones. take_turns force_turn ones (forces_on (to.Modification id) day ms)) (mute_force m.live m.id m.body h.0) ∙ added_forces [] ms h.1
    added_forces (n ∷ ns) added h = ap (take_turns force_turn (cond n.live (force_from (to.Modification id) day n.id n.body) [])) (added_forces ns added h)

    added_efficacies : (ns added : List KnownMod) → AllByRecursion (λ m. IsMute m.body) added
        → efficacies_on (to.Modification id) day (ns ++ added) ≡ efficacies_on (to.Modification id) day ns
    added_efficacies [] [] h = refl
    added_efficacies [] (m ∷ ms) h =
        ap (λ ones. take_turns efficacy_turn ones (efficacies_on (to.Modification id) day ms)) (mute_efficacy m.live m.id m.body h.0) ∙ added_efficacies [] ms h.1
    added_efficacies (n ∷ ns) added h = ap (take_turns efficacy_turn (cond n.live (efficacy_from (to.Modification id) day n.id n.body) [])) (added_efficacies ns added h)

  -- two lists have the same ids, and are the same but at some ids, where both are mute
  module _ (changes : Id → Bool) where
    abbrev pub AlikeIf : Bool → KnownMod → KnownMod → Type 0
    AlikeIf true m n = (m.id ≡ n.id) × IsMute m.body × IsMute n.body
    AlikeIf false m n = m ≡ n

    abbrev pub Alike : List KnownMod → List KnownMod → Type 0
    Alike [] [] = Unit {0}
    Alike [] (n ∷ ns) = ⊥
    Alike (m ∷ ms) [] = ⊥
    Alike (m ∷ ms) (n ∷ ns) = AlikeIf (changes m.id) m n × Alike ms ns

    same_force : (id : Id) (b : Bool) (m n : KnownMod) → AlikeIf b m n
        → cond m.live (force_from (to.Modification id) day m.id m.body) [] ≡ cond n.live (force_from (to.Modification id) day n.id n.body) []
    same_force id true m n h = mute_force id m.live m.id m.body h.1 ∙ sym (mute_force id n.live n.id n.body h.2)
    same_force id false m n h = ap (λ (k : KnownMod). cond k.live (force_from (to.Modification id) day k.id k.body) []) h

    same_efficacy : (id : Id) (b : Bool) (m n : KnownMod) → AlikeIf b m n
        → cond m.live (efficacy_from (to.Modification id) day m.id m.body) [] ≡ cond n.live (efficacy_from (to.Modification id) day n.id n.body) []
    same_efficacy id true m n h = mute_efficacy id m.live m.id m.body h.1 ∙ sym (mute_efficacy id n.live n.id n.body h.2)
    same_efficacy id false m n h = ap (λ (k : KnownMod). cond k.live (efficacy_from (to.Modification id) day k.id k.body) []) h

    same_forces : (id : Id) (ms ns : List KnownMod) → Alike ms ns → forces_on (to.Modification id) day ms ≡ forces_on (to.Modification id) day ns
    same_forces id [] [] h = refl
    same_forces id [] (n ∷ ns) h = absurd h
    same_forces id (m ∷ ms) [] h = absurd h
    same_forces id (m ∷ ms) (n ∷ ns) h =
        ap (λ ones. take_turns force_turn ones (forces_on (to.Modification id) day ms)) (same_force id (changes m.id) m n h.0)
        ∙ ap (take_turns force_turn (cond n.live (force_from (to.Modification id) day n.id n.body) [])) (same_forces id ms ns h.1)

    same_efficacies : (id : Id) (ms ns : List KnownMod) → Alike ms ns → efficacies_on (to.Modification id) day ms ≡ efficacies_on (to.Modification id) day ns
    same_efficacies id [] [] h = refl
    same_efficacies id [] (n ∷ ns) h = absurd h
    same_efficacies id (m ∷ ms) [] h = absurd h
    same_efficacies id (m ∷ ms) (n ∷ ns) h =
        ap (λ ones. take_turns efficacy_turn ones (efficacies_on (to.Modification id) day ms)) (same_efficacy id (changes m.id) m n h.0)
        ∙ ap (take_turns efficacy_turn (cond n.live (efficacy_from (to.Modification id) day n.id n.body) [])) (same_efficacies id ms ns h.1)

    -- a view, and another that has mute ones more
    module _ (ms ns added : List KnownMod) (alike : Alike ms ns) (mute : AllByRecursion (λ m. IsMute m.body) added)
        (undirected : (id : Id) → changes id ≡ true → NoneCounted ms day id) (fresh : AllByRecursion (λ m. NoneCounted ms day m.id) added) (r : Reading) where
      abbrev news : List KnownMod
      news = ns ++ added

      counted_forces : (id : Id) → forces_on (to.Modification id) day ms ≡ forces_on (to.Modification id) day news
      counted_forces id = same_forces id ms ns alike ∙ sym (added_forces id ns added mute)

      counted_efficacies : (id : Id) → efficacies_on (to.Modification id) day ms ≡ efficacies_on (to.Modification id) day news
      counted_efficacies id = same_efficacies id ms ns alike ∙ sym (added_efficacies id ns added mute)

      none_in_news : (id : Id) → NoneCounted ms day id → NoneCounted news day id
      none_in_news id none = record {
        forces = sym (counted_forces id) ∙ none.forces;
        efficacies = sym (counted_efficacies id) ∙ none.efficacies;
      }

      start_same : (id : Id) (own : Period) → start_on r day ms (to.Modification id) own ≡ start_on r day news (to.Modification id) own
      start_same id own = by r
        where
          by : (r : Reading) → start_on r day ms (to.Modification id) own ≡ start_on r day news (to.Modification id) own
          by reading.Force = ap (λ (ones : List CountedForce). cond (includes (force_at own ones) day) (Some (force_at own ones).start) None) (counted_forces id)
          by reading.Efficacy =
              ap (λ (ones : List CountedForce). cond (efficacy_at (force_at own ones) (efficacies_on (to.Modification id) day ms) day).holds
              (Some (efficacy_at (force_at own ones) (efficacies_on (to.Modification id) day ms) day).period.start) None) (counted_forces id)
              ∙ ap (λ (ones : List CountedEfficacy). cond (efficacy_at (force_on news (to.Modification id) own day) ones day).holds
              (Some (efficacy_at (force_on news (to.Modification id) own day) ones day).period.start) None) (counted_efficacies id)

      due_same : (id : Id) (body : Modification) → due_as r day ms id body ≡ due_as r day news id body
      due_same id (Force source destination on effect) = refl
      due_same id (Efficacy source destination on effect) = refl
      due_same id (Textual source own edit) = ap (option_map (due_from source id)) (start_same id own)

      due_none : (mods : List KnownMod) (b : Bool) (id : Id) (body : Modification) → IsMute body → NoneCounted mods day id → cond b (due_as r day mods id body) None ≡ None
      due_none mods false id body h none = refl
      due_none mods true id (Force source destination on effect) h none = refl
      due_none mods true id (Efficacy source destination on effect) h none = refl
      due_none mods true id (Textual source own edit) h none = ap (option_map (due_from source id)) (start_none r day mods id own h none)

      due_either : (b : Bool) (m n : KnownMod) → changes m.id ≡ b → AlikeIf b m n
          → cond (counts r day m) (due_as r day ms m.id m.body) None ≡ cond (counts r day n) (due_as r day news n.id n.body) None
      due_either true m n is h =
          due_none ms (counts r day m) m.id m.body h.1 (undirected m.id is)
          ∙ sym (due_none news (counts r day n) n.id n.body h.2 (subst (λ i. NoneCounted news day i) h.0 (none_in_news m.id (undirected m.id is))))
      due_either false m n is h =
          ap (λ o. cond (counts r day m) o None) (due_same m.id m.body) ∙ ap (λ (k : KnownMod). cond (counts r day k) (due_as r day news k.id k.body) None) h

      added_due : (xs : List KnownMod) → AllByRecursion (λ m. IsMute m.body) xs → AllByRecursion (λ m. NoneCounted ms day m.id) xs → due_of r day news xs ≡ []
      added_due [] h k = refl
      added_due (x ∷ xs) h k =
          ap (λ dues. with_due dues (cond (counts r day x) (due_as r day news x.id x.body) None)) (added_due xs h.1 k.1)
          ∙ ap (with_due []) (due_none news (counts r day x) x.id x.body h.0 (none_in_news x.id k.0))

      all_due : (xs ys : List KnownMod) → Alike xs ys → due_of r day ms xs ≡ due_of r day news (ys ++ added)
      all_due [] [] h = sym (added_due added mute fresh)
      all_due [] (y ∷ ys) h = absurd h
      all_due (x ∷ xs) [] h = absurd h
      all_due (x ∷ xs) (y ∷ ys) h =
          ap (λ dues. with_due dues (cond (counts r day x) (due_as r day ms x.id x.body) None)) (all_due xs ys h.1)
          ∙ ap (with_due (due_of r day news (ys ++ added))) (due_either (changes x.id) x y refl h.0)

      -- one that is due is not among those that change
      not_due : (m : KnownMod) → IsMute m.body → NoneCounted ms day m.id → is_due r day ms m ≡ false
      not_due m h none = by (counts r day m) (due_none ms true m.id m.body h none)
        where
          by : (b : Bool) → due_as r day ms m.id m.body ≡ None → (b && is_some (due_as r day ms m.id m.body)) ≡ false
          by true e = ap is_some e
          by false e = refl

      module _ (id : Id) where
        abbrev is_it : KnownMod → Bool
        is_it m = is_same_id id m.id && is_due r day ms m

        due_stays : (xs ys : List KnownMod) → Alike xs ys → list_any is_it xs ≡ true → changes id ≡ false
        due_stays [] [] h has = absurd (let wrong : false ≡ true = has in cc)
        due_stays [] (y ∷ ys) h has = absurd h
        due_stays (x ∷ xs) [] h has = absurd h
        due_stays (x ∷ xs) (y ∷ ys) h has = by (due_stays xs ys h.1) (is_same_id id x.id) refl (is_due r day ms x) refl (changes x.id) refl h.0 has
          where
            by : (list_any is_it xs ≡ true → changes id ≡ false) → (a : Bool) → is_same_id id x.id ≡ a → (d : Bool) → is_due r day ms x ≡ d → (c : Bool) → changes x.id ≡ c → AlikeIf c x y → ((a && d) || list_any is_it xs) ≡ true → changes id ≡ false
            by below true ia true id_ false ic k e = ap changes (same_id id x.id ia) ∙ ic
            by below true ia true id_ true ic k e = absurd (let wrong : true ≡ false = sym id_ ∙ not_due x k.1 (undirected x.id ic) in cc)
            by below true ia false id_ c ic k e = below e
            by below false ia d id_ c ic k e = below e

        body_stays : (xs ys : List KnownMod) → Alike xs ys → list_any is_it xs ≡ true → changes id ≡ false → body_of xs id ≡ body_of (ys ++ added) id
        body_stays [] [] h has stays = absurd (let wrong : false ≡ true = has in cc)
        body_stays [] (y ∷ ys) h has stays = absurd h
        body_stays (x ∷ xs) [] h has stays = absurd h
        body_stays (x ∷ xs) (y ∷ ys) h has stays = by (λ more. body_stays xs ys h.1 more stays) (is_same_id x.id id) refl
          where
            same_ids : (c : Bool) → AlikeIf c x y → x.id ≡ y.id
            same_ids true k = k.0
            same_ids false k = ap (λ (m : KnownMod). m.id) k

            found : (c : Bool) → changes x.id ≡ c → AlikeIf c x y → x.id ≡ id → x.body ≡ y.body
            found true ic k is = absurd (let wrong : true ≡ false = sym ic ∙ ap changes is ∙ stays in cc)
            found false ic k is = ap (λ (m : KnownMod). m.body) k

            rest : (a : Bool) → is_same_id id x.id ≡ a → a ≡ false → (is_it x || list_any is_it xs) ≡ true → list_any is_it xs ≡ true
            rest true ia differs e = absurd (let wrong : true ≡ false = differs in cc)
            rest false ia differs e = sym (ap (λ a. (a && is_due r day ms x) || list_any is_it xs) ia) ∙ e

            by : (list_any is_it xs ≡ true → body_of xs id ≡ body_of (ys ++ added) id) → (a : Bool) → is_same_id x.id id ≡ a
                → option_map (λ m. m.body) (cond a (Some x) (find (λ m. is_same_id m.id id) xs)) ≡ option_map (λ m. m.body) (cond (is_same_id y.id id) (Some y) (find (λ m. is_same_id m.id id) (ys ++ added)))
            by below true ia =
                ap Some (found (changes x.id) refl h.0 (same_id x.id id ia))
                ∙ sym (ap (λ a. option_map (λ m. m.body) (cond a (Some y) (find (λ m. is_same_id m.id id) (ys ++ added)))) (ap (λ i. is_same_id i id) (sym (same_ids (changes x.id) h.0)) ∙ ia))
            by below false ia =
                below (rest (is_same_id id x.id) refl (same_sym x.id id false ia) has)
                ∙ sym (ap (λ a. option_map (λ m. m.body) (cond a (Some y) (find (λ m. is_same_id m.id id) (ys ++ added)))) (ap (λ i. is_same_id i id) (sym (same_ids (changes x.id) h.0)) ∙ ia))

      each_of : (P : Id → Type 0) (ids : List Id) → ((id : Id) → list_any (is_same_id id) ids ≡ true → P id) → AllByRecursion P ids
      each_of P [] each = tt
      each_of P (id ∷ ids) each =
          (each id (ap (λ b. b || list_any (is_same_id id) ids) (same_self id)), each_of P ids (λ other h. each other (or_true (is_same_id other id) (list_any (is_same_id other) ids) h)))
        where
          or_true : (a b : Bool) → b ≡ true → (a || b) ≡ true
          or_true true b h = refl
          or_true false b h = h

      pub agree_on : (old new : Known) → old.mods ≡ ms → new.mods ≡ ns ++ added → AgreeOn old new r day
      agree_on old new is_old is_new =
          let orders : order old r day ≡ order new r day =
          ap (λ (mods : List KnownMod). map (λ (due : Due). due.id) (due_of r day mods mods)) is_old
          ∙ ap (map (λ (due : Due). due.id)) (all_due ms ns alike)
          ∙ sym (ap (λ (mods : List KnownMod). map (λ (due : Due). due.id) (due_of r day mods mods)) is_new) in
          record {
            orders = orders;
            bodies = each_of (λ id. body_of old.mods id ≡ body_of new.mods id) (order new r day) (λ id h.
                let has : list_any (is_it id) ms ≡ true =
                sym (ap (λ (mods : List KnownMod). list_any (λ m. is_same_id id m.id && is_due r day mods m) mods) is_old)
                ∙ sym (order_members old r day id) ∙ ap (list_any (is_same_id id)) orders ∙ h in
                ap (λ mods. body_of mods id) is_old
                ∙ body_stays id ms ns alike has (due_stays id ms ns alike has)
                ∙ sym (ap (λ mods. body_of mods id) is_new));
          }
