-- What is reckoned from the texts of all works is right to be held.
use Rattle.std.proofs.Common.{◌≡◌, ◌∙◌, sym, ap, refl, subst, ℕ, suc, Bool, true, false, cond, ◌&&◌, ◌||◌, nat_le, List, [], ◌∷◌, ◌++◌, filter, length, Option, Some, None, option_map}
use Rattle.std.specs.List.{AllByRecursion, list_any}
use Rattle.std.specs.List.Sorted.{IsStrictlySortedBy}
use Rattle.std.specs.Option.{option_map_or}
use Rattle.std.specs.Ordering.{nat_cmp}
use Rattle.std.specs.Str.{bytes_eq}
use Rattle.std.proofs.lemmas.Cmp.{nat_cmp_total}
use Rattle.act_tree.specs.Branches.{Branch, Branches, branch, no_branches, more_branches}
use Rattle.act_tree.specs.Provisions.{Provision}
use Rattle.bearing_mods.specs.Force.{force_at}
use Rattle.bearing_mods.specs.declared.force.CountedForce.{CountedForce}
use Rattle.law_register.specs.declared.answer.question.Reading.{Reading}
use Rattle.law_register.specs.declared.answer.question.Reading.TheVariants as reading
use Rattle.law_register.specs.declared.law.modification.Destination.TheVariants as to
use Rattle.law_register.specs.declared.register.known.Known.{Known}
use Rattle.law_register.specs.declared.register.known.KnownMod.{KnownMod}
use Rattle.law_register.specs.Answer.Bearing.{act_itself, bears_on, node_bears}
use Rattle.law_register.specs.Answer.Breakpoints.{days_with, insert_days, live_days, period_days}
use Rattle.law_register.specs.Answer.Counted.{efficacies_on}
use Rattle.law_register.specs.Answer.Flags.{flag_among, flag_below, flag_in, has_some, is_marked, or_else, root_flag}
use Rattle.law_register.specs.Answer.PastKeys.{is_same_reading}
use Rattle.law_register.specs.Answer.Standing.{is_within}
use Rattle.law_register.specs.Law.Sources.{source_of}
use Rattle.law_register.proofs.ApartIds.{none_left, none_right}
use Rattle.law_register.proofs.InsertedKeys.{inserted_ascends}
use Rattle.law_register.proofs.Puts.{and_true, bytes_are, bytes_same, left_true, right_true}
use Rattle.law_register.specs.Provisions.Depending.{WorkDays, comes_from, days_after, days_along, depends, source_days, work_days}
use Rattle.source_provisions.specs.Held.{HeldValue, IsRight, all_held, held_at, holding_of, is_of, is_place, names, place_of, places, with_place}
use Rattle.law_register.specs.Provisions.Looking.{looked_at}
use Rattle.law_register.specs.Provisions.Trees.{WorkText, is_raised, stands, stands_in, text_in, trees}
use Rattle.source_provisions.proofs.HeldRight.{later_passed, some_passed}
use Rattle.source_provisions.proofs.Spans.{spans_tell}
use Rattle.source_provisions.proofs.StandingStill.{Alike, inserted_both, each_live, none_between, source_each, still_found, texts_alike}
use Rattle.source_provisions.proofs.Still.{EachDay, IsLater, IsStill, efficacies_later, forces_later, own_later}

-- before all days of a work none of its provisions stands
module _ (day : ℕ) where
  abbrev AreLater : List ℕ → Type 0
  AreLater days = AllByRecursion (IsLater day) days

  module _ (r : Reading) (known : Known) (start : IsLater day known.act.force.start) (each : EachDay (IsLater day) known.mods) where
    root_later : root_flag known r day ≡ false
    root_later =
        ap (λ (ones : List CountedForce). bears_on r known.mods act_itself (force_at known.act.force ones) day) (forces_later day act_itself known.mods each)
        ∙ own_later day known.mods each r act_itself known.act.force start

    unmarked : (wid : List ℕ) → is_marked r known.mods day wid ≡ false
    unmarked wid = by r
      where
        by : (r : Reading) → is_marked r known.mods day wid ≡ false
        by reading.Force = ap has_some (forces_later day (to.Node wid) known.mods each)
        by reading.Efficacy =
            ap (λ (ones : List CountedForce). has_some ones || has_some (efficacies_on (to.Node wid) day known.mods)) (forces_later day (to.Node wid) known.mods each)
            ∙ ap has_some (efficacies_later day (to.Node wid) known.mods each)

    down_later : (wid : List ℕ) → flag_below known r day false wid ≡ false
    down_later wid = ap (λ b. cond b (node_bears known r day wid) false) (unmarked wid)

    either_down : (a b : Option Bool) → is_raised a ≡ false → is_raised b ≡ false → is_raised (or_else a b) ≡ false
    either_down None b h k = k
    either_down (Some flag) b h k = h

    mutual
      in_down : (wid : List ℕ) (b : Branch Provision) → is_raised (flag_in known r day false wid b) ≡ false
      in_down wid (branch p below) = by (bytes_eq p.wid wid) (all_down wid below)
        where
          by : (b : Bool) → is_raised (flag_among known r day false wid below) ≡ false → is_raised (cond b (Some (flag_below known r day false wid)) (flag_among known r day (flag_below known r day false p.wid) wid below)) ≡ false
          by true rest = down_later wid
          by false rest = ap (λ f. is_raised (flag_among known r day f wid below)) (down_later p.wid) ∙ rest

      all_down : (wid : List ℕ) (bs : Branches Provision) → is_raised (flag_among known r day false wid bs) ≡ false
      all_down wid no_branches = refl
      all_down wid (more_branches b bs) = either_down (flag_in known r day false wid b) (flag_among known r day false wid bs) (in_down wid b) (all_down wid bs)

    none_stands : (wid : List ℕ) (body : Branches Provision) → is_raised (flag_among known r day (root_flag known r day) wid body) ≡ false
    none_stands wid body = ap (λ f. is_raised (flag_among known r day f wid body)) root_later ∙ all_down wid body

  -- what a work names itself comes later
  abbrev NamesLater : Known → Type 0
  NamesLater known = IsLater day known.act.force.start × EachDay (IsLater day) known.mods

  names_later : (known : Known) (others : List ℕ) → AreLater (days_with known others) → NamesLater known
  names_later known others later =
      let both : AreLater (period_days known.act.force) × AreLater (insert_days others (live_days known.mods)) =
      inserted_both (IsLater day) (period_days known.act.force) (insert_days others (live_days known.mods)) later in
      (both.0.0, each_live (IsLater day) known.mods (inserted_both (IsLater day) others (live_days known.mods) both.1).1)

  -- it does where its days do
  abbrev pub LaterKnown : WorkDays → Type 0
  LaterKnown w = AreLater w.days → NamesLater w.known

  pushed : (ws : List WorkDays) (w : WorkDays) → AllByRecursion LaterKnown ws → LaterKnown w → AllByRecursion LaterKnown (ws ++ w ∷ [])
  pushed [] w all one = (one, tt)
  pushed (x ∷ xs) w all one = (all.0, pushed xs w all.1 one)

  all_later_known : (line : List Known) (ws : List WorkDays) (works : List Known) → AllByRecursion LaterKnown ws → AllByRecursion LaterKnown (days_after line ws works)
  all_later_known line ws [] all = all
  all_later_known line ws (known ∷ works) all =
      all_later_known line (ws ++ work_days line ws known ∷ []) works
      (pushed ws (work_days line ws known) all (names_later known (source_days line known ws)))

  pub each_later_known : (line : List Known) → AllByRecursion LaterKnown (days_along line)
  unfolding days_along
  each_later_known line = all_later_known line [] line tt

  one_down : (r : Reading) (wid : List ℕ) (t : WorkText) (known : Known) → t.known ≡ known → NamesLater known → stands_in r day wid (Some t) ≡ false
  one_down r wid t known same later =
      let both : NamesLater t.known = subst NamesLater (sym same) later in
      none_stands r t.known both.0 both.1 wid t.version.tree.body

  pub none_yet : (r : Reading) (work wid : List ℕ) (ss ts : List WorkText) (ws : List WorkDays) → Alike day day r ss ts ws → AllByRecursion LaterKnown ws
      → AllByRecursion (λ (w : WorkDays). bytes_eq w.known.act.work work ≡ true → AreLater w.days) ws → stands ss r day work wid ≡ false
  none_yet r work wid [] ts ws alike known later = refl
  none_yet r work wid (s ∷ ss) [] ws alike known later = absurd alike
  none_yet r work wid (s ∷ ss) (t ∷ ts) [] alike known later = absurd alike
  none_yet r work wid (s ∷ ss) (t ∷ ts) (w ∷ ws) alike known later =
      by (bytes_eq s.known.act.work work) refl (none_yet r work wid ss ts ws alike.3 known.1 later.1)
    where
      by : (b : Bool) → bytes_eq s.known.act.work work ≡ b → stands ss r day work wid ≡ false → stands_in r day wid (cond b (Some s) (text_in work ss)) ≡ false
      by true is rest =
          one_down r wid s w.known alike.0 (known.0 (later.0 (ap (λ (k : Known). bytes_eq k.act.work work) (sym alike.0) ∙ is)))
      by false is rest = rest

-- the days of sources ascend
days_ascend : (news days : List ℕ) → IsStrictlySortedBy nat_cmp days → IsStrictlySortedBy nat_cmp (insert_days news days)
days_ascend [] days up = up
days_ascend (new ∷ news) days up = inserted_ascends nat_cmp nat_cmp_total (insert_days news days) new (days_ascend news days up)

sources_ascend : (line : List Known) (known : Known) (ws : List WorkDays) → IsStrictlySortedBy nat_cmp (source_days line known ws)
unfolding IsStrictlySortedBy
sources_ascend line known [] = tt
sources_ascend line known (w ∷ ws) = days_ascend (cond (depends line known w.known.act.work) w.days []) (source_days line known ws) (sources_ascend line known ws)

-- on the days of its periods a provision stands
pub none_each : (day : ℕ) (days : List ℕ) → list_any (λ d. nat_le d day) days ≡ false → AllByRecursion (IsLater day) days
none_each day [] none = tt
none_each day (d ∷ ds) none = (none_left (nat_le d day) (list_any (λ e. nat_le e day) ds) none, none_each day ds (none_right (nat_le d day) (list_any (λ e. nat_le e day) ds) none))

spans_right : (line : List Known) (known : Known) (r : Reading) (place : List ℕ × List ℕ) → depends line known place.0 ≡ true → (day : ℕ)
    → is_within (held_at line known r place).spans day ≡ stands (trees line r day) r day place.0 place.1
spans_right line known r place on day =
    spans_tell (λ d. stands (trees line r d) r d place.0 place.1) (source_days line known (days_along line)) day
    (sources_ascend line known (days_along line))
    (λ from early none.
    still_found from day r place.0 place.1 (trees line r day) (trees line r from) (days_along line) (texts_alike from day r line)
    (source_each (IsStill from day) line known place.0 on (days_along line) (none_between from day early (source_days line known (days_along line)) none)))
    (λ none.
    none_yet day r place.0 place.1 (trees line r day) (trees line r day) (days_along line) (texts_alike day day r line) (each_later_known day line)
    (source_each (IsLater day) line known place.0 on (days_along line) (none_each day (source_days line known (days_along line)) none)))

module _ (line : List Known) (known : Known) where
  abbrev Says : HeldValue → Type 0
  Says held = (day : ℕ) → is_within held.spans day ≡ stands (trees line held.reading day) held.reading day held.work held.provision

  all_say : (ps : List (List ℕ × List ℕ)) → AllByRecursion (λ (p : List ℕ × List ℕ). depends line known p.0 ≡ true) ps → AllByRecursion Says (all_held line known ps)
  all_say [] on = tt
  all_say (p ∷ ps) on = (spans_right line known reading.Force p on.0, (spans_right line known reading.Efficacy p on.0, all_say ps on.1))

  -- each place is one from which a modification comes
  module _ (day : ℕ) where
    abbrev IsOn : (List ℕ × List ℕ) → List KnownMod → Type 0
    IsOn place ms = list_any (comes_from line day place.0) ms ≡ true

    place_on : (m : KnownMod) (place : List ℕ × List ℕ) → place_of line day m ≡ Some place → comes_from line day place.0 m ≡ true
    place_on m place is = by m.live (looked_at line day m.body) (source_of m.body).provision refl refl is
      where
        same : (x y : List ℕ × List ℕ) → Some x ≡ Some y → x ≡ y
        same x y e = cc

        by : (b c : Bool) (p : Option (List ℕ)) → m.live ≡ b → looked_at line day m.body ≡ c
            → cond (b && c) (option_map (λ wid. ((source_of m.body).href, wid)) p) None ≡ Some place → comes_from line day place.0 m ≡ true
        by true true (Some wid) live looked e =
            and_true m.live (looked_at line day m.body && bytes_eq (source_of m.body).href place.0) live
            (and_true (looked_at line day m.body) (bytes_eq (source_of m.body).href place.0) looked
            (bytes_are (source_of m.body).href place.0 (ap (λ (p : List ℕ × List ℕ). p.0) (same ((source_of m.body).href, wid) place e))))
        by true true None live looked e = absurd (let wrong : None ≡ Some place = e in cc)
        by true false p live looked e = absurd (let wrong : None ≡ Some place = e in cc)
        by false c p live looked e = absurd (let wrong : None ≡ Some place = e in cc)

    on_more : (m : KnownMod) (ms : List KnownMod) (ps : List (List ℕ × List ℕ)) → AllByRecursion (λ p. IsOn p ms) ps → AllByRecursion (λ p. IsOn p (m ∷ ms)) ps
    on_more m ms [] on = tt
    on_more m ms (p ∷ ps) on = (later_passed (comes_from line day p.0) m ms on.0, on_more m ms ps on.1)

    all_on : (ms : List KnownMod) → AllByRecursion (λ p. IsOn p ms) (places line day ms)
    all_on [] = tt
    all_on (m ∷ ms) = by (place_of line day m) refl (on_more m ms (places line day ms) (all_on ms))
      where
        by : (o : Option (List ℕ × List ℕ)) → place_of line day m ≡ o → AllByRecursion (λ p. IsOn p (m ∷ ms)) (places line day ms)
            → AllByRecursion (λ p. IsOn p (m ∷ ms)) (with_place o (places line day ms))
        by None is rest = rest
        by (Some place) is rest = here (list_any (is_place place.0 place.1) (places line day ms))
          where
            here : (b : Bool) → AllByRecursion (λ p. IsOn p (m ∷ ms)) (cond b (places line day ms) (place ∷ places line day ms))
            here true = rest
            here false = (some_passed (comes_from line day place.0) m ms (place_on m place is), rest)

    -- a place is there exactly where a modification comes from it, and once
    module _ (work wid : List ℕ) where
      abbrev Here : (List ℕ × List ℕ) → Bool
      Here = is_place work wid

      abbrev Comes : KnownMod → Bool
      Comes m = comes_from line day work m && names wid (source_of m.body)

      abbrev has_place : Option (List ℕ × List ℕ) → Bool
      has_place None = false
      has_place (Some place) = is_place work wid place

      place_comes : (m : KnownMod) → has_place (place_of line day m) ≡ Comes m
      place_comes m = by m.live (looked_at line day m.body) (source_of m.body).provision
        where
          never : (b : Bool) → false ≡ (b && false)
          never true = refl
          never false = refl

          by : (b c : Bool) (p : Option (List ℕ)) → has_place (cond (b && c) (option_map (λ w. ((source_of m.body).href, w)) p) None)
              ≡ ((b && (c && bytes_eq (source_of m.body).href work)) && option_map_or (λ w. bytes_eq w wid) p false)
          by true true (Some w) = refl
          by true true None = never (bytes_eq (source_of m.body).href work)
          by true false (Some w) = refl
          by true false None = refl
          by false c p = refl

      is_that : (place : List ℕ × List ℕ) → is_place work wid place ≡ true → (place.0 ≡ work) × (place.1 ≡ wid)
      is_that place is = (
        bytes_same place.0 work (left_true (bytes_eq place.0 work) (bytes_eq place.1 wid) is),
        bytes_same place.1 wid (right_true (bytes_eq place.0 work) (bytes_eq place.1 wid) is),
      )

      same_test : (place : List ℕ × List ℕ) (ps : List (List ℕ × List ℕ)) → is_place work wid place ≡ true
          → list_any (is_place place.0 place.1) ps ≡ list_any (is_place work wid) ps
      same_test place ps is =
          let that : (place.0 ≡ work) × (place.1 ≡ wid) = is_that place is in
          ap (λ w. list_any (is_place w place.1) ps) that.0 ∙ ap (λ w. list_any (is_place work w) ps) that.1

      with_any : (o : Option (List ℕ × List ℕ)) (ps : List (List ℕ × List ℕ)) → list_any Here (with_place o ps) ≡ (has_place o || list_any Here ps)
      with_any None ps = refl
      with_any (Some place) ps = by (list_any (is_place place.0 place.1) ps) refl (is_place work wid place) refl
        where
          by : (b : Bool) → list_any (is_place place.0 place.1) ps ≡ b → (c : Bool) → is_place work wid place ≡ c
              → list_any Here (cond b ps (place ∷ ps)) ≡ (is_place work wid place || list_any Here ps)
          by true among true is = sym (same_test place ps is) ∙ among ∙ sym (ap (λ x. x || list_any Here ps) is)
          by true among false is = sym (ap (λ x. x || list_any Here ps) is)
          by false among c is = refl

      places_any : (ms : List KnownMod) → list_any Here (places line day ms) ≡ list_any Comes ms
      places_any [] = refl
      places_any (m ∷ ms) =
          with_any (place_of line day m) (places line day ms)
          ∙ ap (λ b. b || list_any Here (places line day ms)) (place_comes m)
          ∙ ap (λ b. Comes m || b) (places_any ms)

      with_once : (o : Option (List ℕ × List ℕ)) (ps : List (List ℕ × List ℕ)) → length (filter Here ps) ≡ cond (list_any Here ps) 1 0
          → length (filter Here (with_place o ps)) ≡ cond (list_any Here (with_place o ps)) 1 0
      with_once None ps h = h
      with_once (Some place) ps h = by (list_any (is_place place.0 place.1) ps) refl (is_place work wid place) refl
        where
          by : (b : Bool) → list_any (is_place place.0 place.1) ps ≡ b → (c : Bool) → is_place work wid place ≡ c
              → length (filter Here (cond b ps (place ∷ ps))) ≡ cond (list_any Here (cond b ps (place ∷ ps))) 1 0
          by true among c is = h
          by false among true is =
              ap (λ x. length (cond x (place ∷ filter Here ps) (filter Here ps))) is
              ∙ ap suc (h ∙ ap (λ x. cond x 1 0) (sym (same_test place ps is) ∙ among))
              ∙ sym (ap (λ x. cond (x || list_any Here ps) 1 0) is)
          by false among false is =
              ap (λ x. length (cond x (place ∷ filter Here ps) (filter Here ps))) is ∙ h ∙ sym (ap (λ x. cond (x || list_any Here ps) 1 0) is)

      places_once : (ms : List KnownMod) → length (filter Here (places line day ms)) ≡ cond (list_any Here (places line day ms)) 1 0
      places_once [] = refl
      places_once (m ∷ ms) = with_once (place_of line day m) (places line day ms) (places_once ms)

      -- of what is held of a place one is in the reading
      both_held : (r : Reading) (p : List ℕ × List ℕ) (ps : List (List ℕ × List ℕ)) → length (filter (is_of work wid r) (all_held line known ps)) ≡ length (filter Here ps)
          → length (filter (is_of work wid r) (all_held line known (p ∷ ps))) ≡ length (filter Here (p ∷ ps))
      both_held r p ps h = by (bytes_eq p.0 work) (bytes_eq p.1 wid) r h
        where
          by : (b c : Bool) (r : Reading) → length (filter (is_of work wid r) (all_held line known ps)) ≡ length (filter Here ps)
              → length (cond (b && (c && is_same_reading reading.Force r))
              (held_at line known reading.Force p ∷ cond (b && (c && is_same_reading reading.Efficacy r))
              (held_at line known reading.Efficacy p ∷ filter (is_of work wid r) (all_held line known ps)) (filter (is_of work wid r) (all_held line known ps)))
              (cond (b && (c && is_same_reading reading.Efficacy r))
              (held_at line known reading.Efficacy p ∷ filter (is_of work wid r) (all_held line known ps)) (filter (is_of work wid r) (all_held line known ps))))
              ≡ length (cond (b && c) (p ∷ filter Here ps) (filter Here ps))
          by true true reading.Force h = ap suc h
          by true true reading.Efficacy h = ap suc h
          by true false r h = h
          by false c r h = h

      all_held_once : (r : Reading) (ps : List (List ℕ × List ℕ)) → length (filter (is_of work wid r) (all_held line known ps)) ≡ length (filter Here ps)
      all_held_once r [] = refl
      all_held_once r (p ∷ ps) = both_held r p ps (all_held_once r ps)

pub reckoned_right : (line : List Known) (known : Known) → IsRight line known (holding_of line known)
reckoned_right line known = record {
  each_once = λ work wid r.
      all_held_once line known known.act.day work wid r (places line known.act.day known.mods)
      ∙ places_once line known known.act.day work wid known.mods
      ∙ ap (λ b. cond b 1 0) (places_any line known known.act.day work wid known.mods);
  spans = all_say line known (places line known.act.day known.mods) (all_on line known known.act.day known.mods);
  days = refl;
}
