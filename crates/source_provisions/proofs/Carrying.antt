-- What a work carries of its provisions says what bears by the texts of all works, and can be replayed.
use Rattle.std.proofs.Common.{◌≡◌, ◌∙◌, sym, ap, refl, subst, ℕ, ◌==◌, Bool, true, false, cond, ◌&&◌, is_some, List, [], ◌∷◌, ◌++◌, map, Option, Some, None, option_map}
use Rattle.std.proofs.lemmas.List.{append-nil}
use Rattle.std.proofs.lemmas.List.Elements.{All-from_recursion, recursion_from_All}
use Rattle.std.specs.List.{AllByRecursion, list_any}
use Rattle.std.specs.Option.{option_map_or}
use Rattle.std.specs.Str.{bytes_eq}
use Rattle.desk_base.specs.declared.id.Id.{Id}
use Rattle.desk_base.specs.declared.period.Period.{Period}
use Rattle.law_register.specs.declared.answer.due.Due.{Due}
use Rattle.law_register.specs.declared.answer.question.Reading.{Reading}
use Rattle.law_register.specs.declared.answer.question.Reading.TheVariants as reading
use Rattle.law_register.specs.declared.law.modification.ModSource.{ModSource}
use Rattle.law_register.specs.declared.law.modification.Modification.{Modification}
use Rattle.law_register.specs.declared.law.modification.Modification.TheVariants.{Textual, Force, Efficacy}
use Rattle.law_register.specs.declared.register.known.Known.{Known}
use Rattle.law_register.specs.declared.register.known.KnownMod.{KnownMod}
use Rattle.law_register.specs.Answer.Breakpoints.{breakpoints, has_day, insert_days, period_days}
use Rattle.law_register.specs.Answer.Costs.{cost_after, revision_cost}
use Rattle.law_register.specs.Answer.Order.{due_as, due_of, order, with_due}
use Rattle.law_register.specs.Answer.Replay.{as_enacted, edit_of, replay_on, replayed}
use Rattle.law_register.specs.Answer.Soundness.{AreBoundedBy, IsSound, IsSoundBody, IsSteady, id_twice}
use Rattle.law_register.specs.Answer.Standing.{alone, counts, is_within, mod_alone, spans_in, stands_by}
use Rattle.law_register.specs.Law.Sources.{source_of}
use Rattle.law_register.specs.Provisions.Carrying.{carried_by, carried_of, carrying, mod_carrying, stands_in_spans}
use Rattle.law_register.specs.Provisions.Costs.{revision_cost_in}
use Rattle.law_register.specs.Provisions.Depending.{WorkDays, breakpoints_of, comes_from, days_after, days_along, depends, source_days, work_days}
use Rattle.law_register.specs.Provisions.Line.{IsLine, work_in}
use Rattle.law_register.specs.Provisions.Looking.{is_after, looked_at, names_any, source_looked_at}
use Rattle.law_register.specs.Provisions.Spans.{span_from, spans_of}
use Rattle.law_register.specs.Provisions.Trees.{borne, is_borne, named_stands, order_in, source_stands, stands, trees, version_in, work_borne}
use Rattle.law_register.proofs.ApartIds.{none_left, none_right}
use Rattle.law_register.proofs.Continuing.{replayed_alike}
use Rattle.law_register.proofs.NamedDays.{with_ascend}
use Rattle.law_register.proofs.Puts.{and_true, bytes_are, bytes_same, number_is, right_true}
use Rattle.source_provisions.proofs.Costs.{over_alike}
use Rattle.source_provisions.proofs.Days.{all_more, days_behind, days_of_all, no_more, none_of}
use Rattle.source_provisions.proofs.HeldRight.{later_passed, some_passed}
use Rattle.source_provisions.proofs.LeftOut.{due_borne}
use Rattle.source_provisions.proofs.Looking.{all_unnamed}
use Rattle.source_provisions.proofs.Reckoned.{each_later_known, none_each, none_yet}
use Rattle.source_provisions.proofs.Spans.{spans_tell}
use Rattle.source_provisions.proofs.StandingStill.{none_between, source_each, still_found, texts_alike}
use Rattle.source_provisions.proofs.Still.{IsLater, IsStill}
use Rattle.source_provisions.proofs.Uncarried.{always, due_kept, edit_kept, live_kept}

-- the works of a line are those that have days in it
days_known : (line : List Known) (ws : List WorkDays) (works : List Known)
    → map (λ (w : WorkDays). w.known) (days_after line ws works) ≡ map (λ (w : WorkDays). w.known) ws ++ works
days_known line ws [] = sym (append-nil (map (λ (w : WorkDays). w.known) ws))
days_known line ws (known ∷ works) = days_known line (ws ++ work_days line ws known ∷ []) works ∙ joined ws (work_days line ws known) works
  where
    joined : (ws : List WorkDays) (w : WorkDays) (works : List Known)
        → map (λ (x : WorkDays). x.known) (ws ++ w ∷ []) ++ works ≡ map (λ (x : WorkDays). x.known) ws ++ w.known ∷ works
    joined [] w works = refl
    joined (x ∷ xs) w works = ap (λ ks. x.known ∷ ks) (joined xs w works)

all_known_days : (line : List Known) → map (λ (w : WorkDays). w.known) (days_along line) ≡ line
unfolding days_along
all_known_days line = days_known line [] line

-- each of some days is one of them
each_has : (all days : List ℕ) → ((test : ℕ → Bool) → list_any test days ≡ true → list_any test all ≡ true)
    → AllByRecursion (λ d. has_day d all ≡ true) days
each_has all [] among = tt
each_has all (d ∷ ds) among = (
  among (λ e. d == e) (some_passed (λ e. d == e) d ds (number_is d d refl)),
  each_has all ds (λ test h. among test (later_passed test d ds h)),
)

module _ (works : List Known) (right : IsLine works) where
  each_there : AllByRecursion (λ (w : WorkDays). work_in w.known.act.work works ≡ Some w.known) (days_along works)
  unfolding days_along
  each_there =
      subst (AllByRecursion (λ (w : WorkDays). work_in w.known.act.work works ≡ Some w.known)) (sym (days_behind works [] works))
      (all_more works (λ (k : Known). work_in k.act.work works ≡ Some k) [] works right.own)

  -- a work of the line
  module _ (work : List ℕ) (source : Known) (there : work_in work works ≡ Some source) where
    is_it : (k : Known) → bytes_eq k.act.work work ≡ true → work_in k.act.work works ≡ Some k → k ≡ source
    is_it k is own = same k source (sym own ∙ ap (λ w. work_in w works) (bytes_same k.act.work work is) ∙ there)
      where
        same : (a b : Known) → Some a ≡ Some b → a ≡ b
        same a b e = cc

    -- what holds of each of its breakpoints holds of each of its days in the line, and the other way round
    its_days : (P : ℕ → Type 0) → AllByRecursion P (breakpoints_of works source) → (ws : List WorkDays)
        → AllByRecursion (λ (w : WorkDays). work_in w.known.act.work works ≡ Some w.known) ws
        → AllByRecursion (λ (w : WorkDays). w.days ≡ breakpoints_of works w.known) ws
        → AllByRecursion (λ (w : WorkDays). bytes_eq w.known.act.work work ≡ true → AllByRecursion P w.days) ws
    its_days P all [] own days = tt
    its_days P all (w ∷ ws) own days = (
      (λ is. subst (AllByRecursion P) (sym (days.0 ∙ ap (breakpoints_of works) (is_it w.known is own.0))) all),
      its_days P all ws own.1 days.1,
    )

    its_breakpoints : (P : ℕ → Type 0) (ws : List WorkDays) → work_in work (map (λ (w : WorkDays). w.known) ws) ≡ Some source
        → AllByRecursion (λ (w : WorkDays). w.days ≡ breakpoints_of works w.known) ws
        → AllByRecursion (λ (w : WorkDays). bytes_eq w.known.act.work work ≡ true → AllByRecursion P w.days) ws
        → AllByRecursion P (breakpoints_of works source)
    its_breakpoints P [] found days all = absurd (let wrong : None ≡ Some source = found in cc)
    its_breakpoints P (w ∷ ws) found days all =
        by (bytes_eq w.known.act.work work) refl found (λ h. its_breakpoints P ws h days.1 all.1)
      where
        same : (a b : Known) → Some a ≡ Some b → a ≡ b
        same a b e = cc

        by : (b : Bool) → bytes_eq w.known.act.work work ≡ b → cond b (Some w.known) (work_in work (map (λ (x : WorkDays). x.known) ws)) ≡ Some source
            → (work_in work (map (λ (x : WorkDays). x.known) ws) ≡ Some source → AllByRecursion P (breakpoints_of works source))
            → AllByRecursion P (breakpoints_of works source)
        by true is found rest = subst (AllByRecursion P) (days.0 ∙ ap (breakpoints_of works) (same w.known source found)) (all.0 is)
        by false is found rest = rest found

    -- a provision of the work stands exactly on the days that are carried of it
    spans_say : (r : Reading) (wid : List ℕ) (day : ℕ) → is_within (stands_in_spans works r work wid) day ≡ stands (trees works r day) r day work wid
    spans_say r wid day =
        ap (λ (k : Option Known). is_within (spans_of (λ d. stands (trees works r d) r d work wid) (option_map_or (breakpoints_of works) k [])) day) there
        ∙ spans_tell (λ d. stands (trees works r d) r d work wid) (breakpoints_of works source) day
        (with_ascend source (source_days works source (days_along works)))
        (λ from early none.
        still_found from day r work wid (trees works r day) (trees works r from) (days_along works) (texts_alike from day r works)
        (its_days (IsStill from day) (none_between from day early (breakpoints_of works source) none) (days_along works) each_there (days_of_all works right)))
        (λ none.
        none_yet day r work wid (trees works r day) (trees works r day) (days_along works) (texts_alike day day r works) (each_later_known day works)
        (its_days (IsLater day) (none_each day (breakpoints_of works source) none) (days_along works) each_there (days_of_all works right)))

    carried_says : (r : Reading) (wid : List ℕ) (day : ℕ) → is_within (spans_in r (carried_of works work wid)) day ≡ stands (trees works r day) r day work wid
    carried_says reading.Force wid day = spans_say reading.Force wid day
    carried_says reading.Efficacy wid day = spans_say reading.Efficacy wid day

    -- the breakpoints of a work are among the days of the sources of each that depends on it
    among_sources : (known : Known) → depends works known work ≡ true
        → AllByRecursion (λ d. has_day d (source_days works known (days_along works)) ≡ true) (breakpoints_of works source)
    among_sources known on =
        its_breakpoints (λ d. has_day d (source_days works known (days_along works)) ≡ true) (days_along works)
        (ap (work_in work) (all_known_days works) ∙ there) (days_of_all works right)
        (source_each (λ d. has_day d (source_days works known (days_along works)) ≡ true) works known work on (days_along works)
        (each_has (source_days works known (days_along works)) (source_days works known (days_along works)) (λ test h. h)))

  -- a modification counts by what is carried of its provision exactly where it is borne
  module _ (r : Reading) (day act_day : ℕ) where
    source_says : (source : ModSource) → source_looked_at works act_day source ≡ true
        → stands_by r day (carried_by works source) ≡ source_stands (trees works r day) r day source
    source_says source looked = by source.provision refl
      where
        found : (wid : List ℕ) (k : Option Known) → work_in source.href works ≡ k → is_after act_day k ≡ true
            → stands_by r day (Some (carried_of works source.href wid)) ≡ stands (trees works r day) r day source.href wid
        found wid None none after = absurd (let wrong : false ≡ true = after in cc)
        found wid (Some k) there after = carried_says source.href k there r wid day

        by : (p : Option (List ℕ)) → source.provision ≡ p
            → stands_by r day (option_map (carried_of works source.href) p) ≡ named_stands (trees works r day) r day source.href p
        by None none =
            absurd (let wrong : false ≡ true = sym (ap (λ p. is_some p && is_after act_day (work_in source.href works)) none) ∙ looked in cc)
        by (Some wid) named =
            found wid (work_in source.href works) refl (right_true (is_some source.provision) (is_after act_day (work_in source.href works)) looked)

    body_says : (body : Modification) → looked_at works act_day body ≡ true
        → stands_by r day (carried_by works (source_of body)) ≡ source_stands (trees works r day) r day (source_of body)
    body_says (Textual source force edit) looked = source_says source looked
    body_says (Force source destination on effect) looked = absurd (let wrong : false ≡ true = looked in cc)
    body_says (Efficacy source destination on effect) looked = absurd (let wrong : false ≡ true = looked in cc)

    counts_so : (m : KnownMod) → counts r day (mod_carrying works act_day m) ≡ ((m.live && is_borne works (trees works r day) r day act_day m.body) && true)
    counts_so m = by m.live
      where
        where_looked : (b : Bool) → looked_at works act_day m.body ≡ b
            → stands_by r day (cond b (carried_by works (source_of m.body)) None) ≡ cond b (source_stands (trees works r day) r day (source_of m.body)) true
        where_looked true looked = body_says m.body looked
        where_looked false none = refl

        by : (live : Bool) → (live && stands_by r day (cond (live && looked_at works act_day m.body) (carried_by works (source_of m.body)) None))
            ≡ ((live && is_borne works (trees works r day) r day act_day m.body) && true)
        by true = where_looked (looked_at works act_day m.body) refl ∙ sym (always (is_borne works (trees works r day) r day act_day m.body))
        by false = refl

    due_so : (mods ms : List KnownMod) → due_of r day mods (map (mod_carrying works act_day) ms) ≡ due_of r day mods (map (borne works (trees works r day) r day act_day) ms)
    due_so mods [] = refl
    due_so mods (m ∷ ms) =
        ap (λ (dues : List Due). with_due dues (cond (counts r day (mod_carrying works act_day m)) (due_as r day mods m.id m.body) None)) (due_so mods ms)
        ∙ ap (λ b. with_due (due_of r day mods (map (borne works (trees works r day) r day act_day) ms)) (cond b (due_as r day mods m.id m.body) None)) (counts_so m)

    -- so the same is due
    pub all_due_so : (mods : List KnownMod)
        → due_of r day (map (mod_carrying works act_day) mods) (map (mod_carrying works act_day) mods)
        ≡ due_of r day (map (borne works (trees works r day) r day act_day) mods) (map (borne works (trees works r day) r day act_day) mods)
    all_due_so mods =
        due_kept (mod_carrying works act_day) (λ m. refl) r day mods (map (mod_carrying works act_day) mods)
        ∙ due_so mods mods
        ∙ sym (due_borne works (trees works r day) r day act_day mods (map (borne works (trees works r day) r day act_day) mods))

pub carried_orders : (works : List Known) (known : Known) (r : Reading) (day : ℕ) → IsLine works → order (carrying works known) r day ≡ order_in works known r day
carried_orders works known r day right = ap (map (λ (due : Due). due.id)) (all_due_so works right r day known.act.day known.mods)

-- each says what it said
edits_so : (works : List Known) (known : Known) (r : Reading) (day : ℕ) (ids : List Id)
    → AllByRecursion (λ id. edit_of (carrying works known).mods id ≡ edit_of (work_borne works (trees works r day) r day known).mods id) ids
edits_so works known r day [] = tt
edits_so works known r day (id ∷ ids) = (
  edit_kept (mod_carrying works known.act.day) (λ m. refl) (λ m. refl) known.mods id
      ∙ sym (edit_kept (borne works (trees works r day) r day known.act.day) (λ m. refl) (λ m. refl) known.mods id),
  edits_so works known r day ids,
)

pub carried_versions : (works : List Known) (known : Known) (r : Reading) (day : ℕ) → IsLine works → replay_on (carrying works known) r day ≡ version_in works known r day
carried_versions works known r day right =
    ap (replayed (carrying works known).mods (as_enacted known.act)) (carried_orders works known r day right)
    ∙ replayed_alike (carrying works known).mods (work_borne works (trees works r day) r day known).mods (as_enacted known.act) (order_in works known r day)
    (edits_so works known r day (order_in works known r day))

pub carried_days : (works : List Known) (known : Known) → breakpoints (carrying works known) ≡ breakpoints_of works known
carried_days works known =
    ap (λ (days : List ℕ). insert_days (period_days known.act.force) (insert_days (source_days works known (days_along works)) days))
    (live_kept (mod_carrying works known.act.day) (λ m. refl) known.mods)

pub carried_costs : (works : List Known) (known : Known) (r : Reading) (touched : ℕ) → IsLine works
    → revision_cost (carrying works known) r touched ≡ revision_cost_in works known r touched
unfolding revision_cost revision_cost_in
carried_costs works known r touched right =
    ap (cost_after (carrying works known) r touched []) (carried_days works known)
    ∙ sym (over_alike (carrying works known) r (order_in works known r) (λ day. sym (carried_orders works known r day right)) touched [] (breakpoints_of works known))

-- the periods of a test begin and end on some of the days that it is given
module _ (test : ℕ → Bool) (P : ℕ → Type 0) where
  abbrev Bounds : Period → Type 0
  Bounds span = AllByRecursion P (period_days span)

  mutual
    spans_each : (days : List ℕ) → AllByRecursion P days → AllByRecursion Bounds (spans_of test days)
    spans_each [] all = tt
    spans_each (d ∷ ds) all = by (test d) (span_each d ds all.0 all.1) (spans_each ds all.1)
      where
        by : (b : Bool) → AllByRecursion Bounds (span_from test d ds) → AllByRecursion Bounds (spans_of test ds)
            → AllByRecursion Bounds (cond b (span_from test d ds) (spans_of test ds))
        by true one rest = one
        by false one rest = rest

    span_each : (start : ℕ) (days : List ℕ) → P start → AllByRecursion P days → AllByRecursion Bounds (span_from test start days)
    span_each start [] first all = ((first, tt), tt)
    span_each start (d ∷ ds) first all = by (test d) (span_each start ds first all.1) (spans_each ds all.1)
      where
        by : (b : Bool) → AllByRecursion Bounds (span_from test start ds) → AllByRecursion Bounds (spans_of test ds)
            → AllByRecursion Bounds (cond b (span_from test start ds) (record { start = start; end = Some d } ∷ spans_of test ds))
        by true one rest = one
        by false one rest = ((first, (all.0, tt)), rest)

module _ (works : List Known) (right : IsLine works) (known : Known) where
  abbrev Sources : List ℕ
  Sources = source_days works known (days_along works)

  spans_bounded : (r : Reading) (work wid : List ℕ) → depends works known work ≡ true → AreBoundedBy Sources (stands_in_spans works r work wid)
  spans_bounded r work wid on = by (work_in work works) refl
    where
      by : (k : Option Known) → work_in work works ≡ k
          → AreBoundedBy Sources (spans_of (λ d. stands (trees works r d) r d work wid) (option_map_or (breakpoints_of works) k []))
      by None none = tt
      by (Some source) there =
          spans_each (λ d. stands (trees works r d) r d work wid) (λ d. has_day d Sources ≡ true) (breakpoints_of works source)
          (among_sources works right work source there known on)

  source_steady : (source : ModSource) → depends works known source.href ≡ true → IsSteady Sources (carried_by works source)
  source_steady source on = by source.provision
    where
      by : (p : Option (List ℕ)) → IsSteady Sources (option_map (carried_of works source.href) p)
      by None = tt
      by (Some wid) = (spans_bounded reading.Force source.href wid on, spans_bounded reading.Efficacy source.href wid on)

  mod_steady : (m : KnownMod) → ((test : KnownMod → Bool) → test m ≡ true → list_any test known.mods ≡ true)
      → IsSteady Sources (mod_carrying works known.act.day m).carried
  mod_steady m among = by m.live (looked_at works known.act.day m.body) refl refl
    where
      by : (b c : Bool) → m.live ≡ b → looked_at works known.act.day m.body ≡ c
          → IsSteady Sources (cond (b && c) (carried_by works (source_of m.body)) None)
      by true true live looked =
          source_steady (source_of m.body)
          (among (comes_from works known.act.day (source_of m.body).href)
          (and_true m.live (looked_at works known.act.day m.body && bytes_eq (source_of m.body).href (source_of m.body).href) live
          (and_true (looked_at works known.act.day m.body) (bytes_eq (source_of m.body).href (source_of m.body).href) looked
          (bytes_are (source_of m.body).href (source_of m.body).href refl))))
      by true false live looked = tt
      by false c live looked = tt

  all_steady : (ms : List KnownMod) → ((test : KnownMod → Bool) → list_any test ms ≡ true → list_any test known.mods ≡ true)
      → AllByRecursion (λ (m : KnownMod). IsSteady Sources m.carried) (map (mod_carrying works known.act.day) ms)
  all_steady [] among = tt
  all_steady (m ∷ ms) among = (
    mod_steady m (λ test h. among test (some_passed test m ms h)),
    all_steady ms (λ test h. among test (later_passed test m ms h)),
  )

  same_ids : (ms : List KnownMod) → map (λ (m : KnownMod). m.id) (map (mod_carrying works known.act.day) ms) ≡ map (λ (m : KnownMod). m.id) (map mod_alone ms)
  same_ids [] = refl
  same_ids (m ∷ ms) = ap (λ ids. m.id ∷ ids) (same_ids ms)

  sound_bodies : (ms : List KnownMod) → AllByRecursion (λ (m : KnownMod). IsSoundBody m.body) (map mod_alone ms)
      → AllByRecursion (λ (m : KnownMod). IsSoundBody m.body) (map (mod_carrying works known.act.day) ms)
  sound_bodies [] all = tt
  sound_bodies (m ∷ ms) all = (all.0, sound_bodies ms all.1)

  pub carried_sound : IsSound (alone known) → IsSound (carrying works known)
  carried_sound sound = record {
    fits = sound.fits;
    ids = ap id_twice (same_ids known.mods) ∙ sound.ids;
    bodies =
        All-from_recursion (λ (m : KnownMod). IsSoundBody m.body) (map (mod_carrying works known.act.day) known.mods)
        (sound_bodies known.mods (recursion_from_All (λ (m : KnownMod). IsSoundBody m.body) (map mod_alone known.mods) sound.bodies));
    steady =
        All-from_recursion (λ (m : KnownMod). IsSteady Sources m.carried) (map (mod_carrying works known.act.day) known.mods)
        (all_steady known.mods (λ test h. h));
  }

-- where no modification names a provision nothing is carried
module _ (works : List Known) (act_day : ℕ) where
  not_carried : (m : KnownMod) → looked_at works act_day m.body ≡ false → mod_carrying works act_day m ≡ mod_alone m
  not_carried m none =
      ap (λ b. (let k : KnownMod = record m { carried = cond (m.live && b) (carried_by works (source_of m.body)) None } in k)) none
      ∙ ap (λ b. (let k : KnownMod = record m { carried = cond b (carried_by works (source_of m.body)) None } in k)) (never m.live)
    where
      never : (b : Bool) → (b && false) ≡ false
      never true = refl
      never false = refl

  none_carried : (ms : List KnownMod) → list_any (λ m. looked_at works act_day m.body) ms ≡ false → map (mod_carrying works act_day) ms ≡ map mod_alone ms
  none_carried [] none = refl
  none_carried (m ∷ ms) none =
      ap (λ k. k ∷ map (mod_carrying works act_day) ms)
      (not_carried m (none_left (looked_at works act_day m.body) (list_any (λ k. looked_at works act_day k.body) ms) none))
      ∙ ap (λ ks. mod_alone m ∷ ks) (none_carried ms (none_right (looked_at works act_day m.body) (list_any (λ k. looked_at works act_day k.body) ms) none))

pub unnamed_carry_nothing : (works : List Known) (known : Known) → names_any known ≡ false → carrying works known ≡ alone known
unnamed_carry_nothing works known none =
    ap (λ (ms : List KnownMod). (let k : Known = record known { mods = ms; source_days = source_days works known (days_along works) } in k))
    (none_carried works known.act.day known.mods (all_unnamed works known.act.day known.mods none))
    ∙ ap (λ (days : List ℕ). (let k : Known = record known { mods = map mod_alone known.mods; source_days = days } in k))
    (no_more works known (days_along works) (none_of works known (days_along works) none))
