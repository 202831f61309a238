-- Between two days that none of a work's days parts its text stands still, and so do its flags.
use Rattle.std.proofs.Common.{◌≡◌, ◌∙◌, sym, ap, refl, subst, ℕ, ◌≤◌, Bool, true, false, cond, ◌&&◌, ◌||◌, nat_le, nat_lt, List, [], ◌∷◌, ◌++◌, map, Option, Some, None}
use Rattle.std.proofs.lemmas.Cmp.{ranked}
use Rattle.std.specs.BTreeSet.{insert_key}
use Rattle.std.specs.List.{AllByRecursion, list_any}
use Rattle.std.specs.Ordering.{match_ordering, nat_cmp}
use Rattle.std.specs.Str.{bytes_eq}
use Rattle.std.specs.declared.cmp.Ordering.{Ordering}
use Rattle.std.specs.declared.cmp.Ordering.TheVariants.{Less, Equal, Greater}
use Rattle.desk_base.specs.declared.period.Period.{Period}
use Rattle.act_tree.specs.Branches.{Branch, Branches, branch, no_branches, more_branches}
use Rattle.act_tree.specs.Changes.{root_wid}
use Rattle.act_tree.specs.Provisions.{Provision}
use Rattle.bearing_mods.specs.Force.{force_at}
use Rattle.bearing_mods.specs.declared.efficacy.CountedEfficacy.{CountedEfficacy}
use Rattle.bearing_mods.specs.declared.force.CountedForce.{CountedForce}
use Rattle.law_register.specs.declared.answer.due.Due.{Due}
use Rattle.law_register.specs.declared.answer.question.Reading.{Reading}
use Rattle.law_register.specs.declared.answer.question.Reading.TheVariants as reading
use Rattle.law_register.specs.declared.law.modification.Destination.TheVariants as to
use Rattle.law_register.specs.declared.law.modification.Modification.{Modification}
use Rattle.law_register.specs.declared.law.modification.Modification.TheVariants.{Textual, Force, Efficacy}
use Rattle.law_register.specs.declared.register.known.Known.{Known}
use Rattle.law_register.specs.declared.register.known.KnownMod.{KnownMod}
use Rattle.law_register.specs.Answer.Bearing.{act_itself, bears_on, force_of_act, force_of_node, force_on, node_bears}
use Rattle.law_register.specs.Answer.Breakpoints.{days_of, days_with, insert_days, live_days, period_days}
use Rattle.law_register.specs.Answer.Counted.{efficacies_on, forces_on}
use Rattle.law_register.specs.Answer.Flags.{flag_among, flag_below, flag_in, has_some, is_marked, or_else, root_flag}
use Rattle.law_register.specs.Answer.Order.{order}
use Rattle.law_register.specs.Answer.Replay.{as_enacted, replayed}
use Rattle.law_register.specs.Answer.Standing.{stands_by}
use Rattle.law_register.specs.Law.Sources.{source_of}
use Rattle.law_register.proofs.ApartIds.{none_left, none_right}
use Rattle.law_register.proofs.Puts.{and_true, bytes_are, bytes_same}
use Rattle.law_register.specs.Provisions.Depending.{WorkDays, breakpoints_of, comes_from, days_after, days_along, depends, source_days, work_days}
use Rattle.law_register.specs.Provisions.Looking.{looked_at}
use Rattle.law_register.specs.Provisions.Trees.{WorkText, borne, is_borne, is_raised, named_stands, order_in, source_stands, stands, stands_in, text_in, text_on, texts_after, trees, work_borne}
use Rattle.source_provisions.proofs.HeldRight.{later_passed, some_passed}
use Rattle.source_provisions.proofs.Still.{EachDay, EachIf, IsStill, StillPeriod, bears_still, between, due_still, efficacies_still, force_at_still, forces_all, forces_still, period_by_days}

-- what holds of all days of a list that others were put into holds of both
module _ (P : ℕ → Type 0) where
  inserted_one : (day : ℕ) (days : List ℕ) → AllByRecursion P (insert_key nat_cmp days day) → P day × AllByRecursion P days
  inserted_one day [] all = (all.0, tt)
  inserted_one day (d ∷ ds) all = by (nat_cmp day d) refl (inserted_one day ds) all
    where
      by : (r : Ordering) → nat_cmp day d ≡ r → (AllByRecursion P (insert_key nat_cmp ds day) → P day × AllByRecursion P ds)
          → AllByRecursion P (match_ordering r (day ∷ d ∷ ds) (d ∷ ds) (d ∷ insert_key nat_cmp ds day)) → P day × AllByRecursion P (d ∷ ds)
      by Less is rest all = (all.0, all.1)
      by Equal is rest all = (subst P (sym (ranked day d Equal (sym is))) all.0, all)
      by Greater is rest all = let both : P day × AllByRecursion P ds = rest all.1 in (both.0, (all.0, both.1))

  pub inserted_both : (news days : List ℕ) → AllByRecursion P (insert_days news days) → AllByRecursion P news × AllByRecursion P days
  inserted_both [] days all = (tt, all)
  inserted_both (new ∷ news) days all =
      let first : P new × AllByRecursion P (insert_days news days) = inserted_one new (insert_days news days) all in
      let both : AllByRecursion P news × AllByRecursion P days = inserted_both news days first.1 in
      ((first.0, both.0), both.1)

  if_live : (b : Bool) (body : Modification) → AllByRecursion P (cond b (days_of body) []) → EachIf P b body
  if_live true body all = all
  if_live false body all = tt

  pub each_live : (ms : List KnownMod) → AllByRecursion P (live_days ms) → EachDay P ms
  each_live [] all = tt
  each_live (m ∷ ms) all =
      let both : AllByRecursion P (cond m.live (days_of m.body) []) × AllByRecursion P (live_days ms) = inserted_both (cond m.live (days_of m.body) []) (live_days ms) all in
      (if_live m.live m.body both.0, each_live ms both.1)

  if_less : (b c : Bool) (body : Modification) → EachIf P b body → EachIf P (b && c) body
  if_less true true body each = each
  if_less true false body each = tt
  if_less false c body each = tt

-- the days of a work on which it depends are among those of its sources
pub source_each : (P : ℕ → Type 0) (line : List Known) (known : Known) (work : List ℕ) → depends line known work ≡ true → (ws : List WorkDays)
    → AllByRecursion P (source_days line known ws) → AllByRecursion (λ (w : WorkDays). bytes_eq w.known.act.work work ≡ true → AllByRecursion P w.days) ws
source_each P line known work on [] all = tt
source_each P line known work on (w ∷ ws) all =
    let both : AllByRecursion P (cond (depends line known w.known.act.work) w.days []) × AllByRecursion P (source_days line known ws) =
    inserted_both P (cond (depends line known w.known.act.work) w.days []) (source_days line known ws) all in (
      (λ same. subst (λ b. AllByRecursion P (cond b w.days [])) (ap (depends line known) (bytes_same w.known.act.work work same) ∙ on) both.0),
      source_each P line known work on ws both.1,
    )

module _ (from day : ℕ) where
  abbrev pub AreStill : List ℕ → Type 0
  AreStill days = AllByRecursion (IsStill from day) days

  -- what a work names itself does not part the days
  abbrev pub IsCalm : Known → Type 0
  IsCalm known = AreStill (period_days known.act.force) × EachDay (IsStill from day) known.mods

  calm_by_days : (known : Known) (others : List ℕ) → AreStill (days_with known others) → IsCalm known × AreStill others
  calm_by_days known others still =
      let both : AreStill (period_days known.act.force) × AreStill (insert_days others (live_days known.mods)) =
      inserted_both (IsStill from day) (period_days known.act.force) (insert_days others (live_days known.mods)) still in
      let rest : AreStill others × AreStill (live_days known.mods) = inserted_both (IsStill from day) others (live_days known.mods) both.1 in
      ((both.0, each_live (IsStill from day) known.mods rest.1), rest.0)

  module _ (r : Reading) (known : Known) (calm : IsCalm known) where
    act_still : force_of_act known day ≡ force_of_act known from
    act_still = ap (force_at known.act.force) (forces_still from day act_itself known.mods calm.1)

    act_period_still : StillPeriod from day (force_of_act known day)
    act_period_still =
        force_at_still from day known.act.force (forces_on act_itself day known.mods) (period_by_days from day known.act.force calm.0)
        (forces_all from day act_itself known.mods calm.1)

    node_still : (wid : List ℕ) → force_of_node known wid day ≡ force_of_node known wid from
    node_still wid = by (bytes_eq wid root_wid)
      where
        by : (b : Bool) → cond b (force_of_act known day) (force_on known.mods (to.Node wid) (force_of_act known day) day)
            ≡ cond b (force_of_act known from) (force_on known.mods (to.Node wid) (force_of_act known from) from)
        by true = act_still
        by false =
            ap (λ (p : Period). force_on known.mods (to.Node wid) p day) act_still
            ∙ ap (force_at (force_of_act known from)) (forces_still from day (to.Node wid) known.mods calm.1)

    node_period_still : (wid : List ℕ) → StillPeriod from day (force_of_node known wid day)
    node_period_still wid = by (bytes_eq wid root_wid)
      where
        by : (b : Bool) → StillPeriod from day (cond b (force_of_act known day) (force_on known.mods (to.Node wid) (force_of_act known day) day))
        by true = act_period_still
        by false =
            force_at_still from day (force_of_act known day) (forces_on (to.Node wid) day known.mods) act_period_still
            (forces_all from day (to.Node wid) known.mods calm.1)

    bears_node : (wid : List ℕ) → node_bears known r day wid ≡ node_bears known r from wid
    bears_node wid =
        bears_still from day known.mods calm.1 r (to.Node wid) (force_of_node known wid day) (node_period_still wid)
        ∙ ap (λ (p : Period). bears_on r known.mods (to.Node wid) p from) (node_still wid)

    marked_still : (wid : List ℕ) → is_marked r known.mods day wid ≡ is_marked r known.mods from wid
    marked_still wid = by r
      where
        by : (r : Reading) → is_marked r known.mods day wid ≡ is_marked r known.mods from wid
        by reading.Force = ap has_some (forces_still from day (to.Node wid) known.mods calm.1)
        by reading.Efficacy =
            ap (λ (ones : List CountedForce). has_some ones || has_some (efficacies_on (to.Node wid) day known.mods)) (forces_still from day (to.Node wid) known.mods calm.1)
            ∙ ap (λ (ones : List CountedEfficacy). has_some (forces_on (to.Node wid) from known.mods) || has_some ones) (efficacies_still from day (to.Node wid) known.mods calm.1)

    below_still : (above : Bool) (wid : List ℕ) → flag_below known r day above wid ≡ flag_below known r from above wid
    below_still above wid =
        ap (λ b. cond b (node_bears known r day wid) above) (marked_still wid) ∙ ap (λ b. cond (is_marked r known.mods from wid) b above) (bears_node wid)

    mutual
      flag_in_still : (above : Bool) (wid : List ℕ) (b : Branch Provision) → flag_in known r day above wid b ≡ flag_in known r from above wid b
      flag_in_still above wid (branch p below) =
          ap (λ f. cond (bytes_eq p.wid wid) (Some f) (flag_among known r day (flag_below known r day above p.wid) wid below)) (below_still above wid)
          ∙ ap (λ f. cond (bytes_eq p.wid wid) (Some (flag_below known r from above wid)) (flag_among known r day f wid below)) (below_still above p.wid)
          ∙ ap (λ o. cond (bytes_eq p.wid wid) (Some (flag_below known r from above wid)) o) (flag_among_still (flag_below known r from above p.wid) wid below)

      flag_among_still : (above : Bool) (wid : List ℕ) (bs : Branches Provision) → flag_among known r day above wid bs ≡ flag_among known r from above wid bs
      flag_among_still above wid no_branches = refl
      flag_among_still above wid (more_branches b bs) =
          ap (λ o. or_else o (flag_among known r day above wid bs)) (flag_in_still above wid b)
          ∙ ap (or_else (flag_in known r from above wid b)) (flag_among_still above wid bs)

    -- whether a provision of a text stands
    flag_still : (wid : List ℕ) (body : Branches Provision) → is_raised (flag_among known r day (root_flag known r day) wid body) ≡ is_raised (flag_among known r from (root_flag known r from) wid body)
    flag_still wid body =
        ap (λ f. is_raised (flag_among known r day f wid body)) (bears_node root_wid)
        ∙ ap is_raised (flag_among_still (root_flag known r from) wid body)

  -- the texts of both days, and the days: where none of its days parts them a work has one text
  abbrev pub Alike : Reading → List WorkText → List WorkText → List WorkDays → Type 0
  Alike r [] [] [] = Unit {0}
  Alike r (s ∷ ss) (t ∷ ts) (w ∷ ws) =
      (s.known ≡ w.known) × (t.known ≡ w.known) × (AreStill w.days → (s ≡ t) × IsCalm t.known) × Alike r ss ts ws
  Alike r [] [] (w ∷ ws) = ⊥
  Alike r [] (t ∷ ts) ws = ⊥
  Alike r (s ∷ ss) [] ws = ⊥
  Alike r (s ∷ ss) (t ∷ ts) [] = ⊥

  module _ (r : Reading) where
    pub still_found : (work wid : List ℕ) (ss ts : List WorkText) (ws : List WorkDays) → Alike r ss ts ws
        → AllByRecursion (λ (w : WorkDays). bytes_eq w.known.act.work work ≡ true → AreStill w.days) ws
        → stands ss r day work wid ≡ stands ts r from work wid
    still_found work wid [] [] [] alike still = refl
    still_found work wid [] [] (w ∷ ws) alike still = absurd alike
    still_found work wid [] (t ∷ ts) ws alike still = absurd alike
    still_found work wid (s ∷ ss) [] ws alike still = absurd alike
    still_found work wid (s ∷ ss) (t ∷ ts) [] alike still = absurd alike
    still_found work wid (s ∷ ss) (t ∷ ts) (w ∷ ws) alike still =
        by (bytes_eq w.known.act.work work) refl (still_found work wid ss ts ws alike.3 still.1)
      where
        first : (b : Bool) → (x : WorkText) → x.known ≡ w.known → bytes_eq w.known.act.work work ≡ b → bytes_eq x.known.act.work work ≡ b
        first b x same is = ap (λ (k : Known). bytes_eq k.act.work work) same ∙ is

        one : (s ≡ t) × IsCalm t.known → stands_in r day wid (Some s) ≡ stands_in r from wid (Some t)
        one h = ap (λ (x : WorkText). stands_in r day wid (Some x)) h.0 ∙ flag_still r t.known h.1 wid t.version.tree.body

        by : (b : Bool) → bytes_eq w.known.act.work work ≡ b → stands ss r day work wid ≡ stands ts r from work wid
            → stands (s ∷ ss) r day work wid ≡ stands (t ∷ ts) r from work wid
        by true is rest =
            ap (λ b. stands_in r day wid (cond b (Some s) (text_in work ss))) (first true s alike.0 is)
            ∙ one (alike.2 (still.0 is))
            ∙ sym (ap (λ b. stands_in r from wid (cond b (Some t) (text_in work ts))) (first true t alike.1 is))
        by false is rest =
            ap (λ b. stands_in r day wid (cond b (Some s) (text_in work ss))) (first false s alike.0 is)
            ∙ rest
            ∙ sym (ap (λ b. stands_in r from wid (cond b (Some t) (text_in work ts))) (first false t alike.1 is))

    module _ (line : List Known) (known : Known) where
      module _ (ss ts : List WorkText) (ws : List WorkDays) (alike : Alike r ss ts ws) (still : AreStill (source_days line known ws)) where
        body_still : (m : KnownMod) (body : Modification) → m.body ≡ body → m.live ≡ true → looked_at line known.act.day body ≡ true
            → ((test : KnownMod → Bool) → test m ≡ true → list_any test known.mods ≡ true)
            → source_stands ss r day (source_of body) ≡ source_stands ts r from (source_of body)
        body_still m (Textual source force edit) is live looked among = by source.provision
          where
            on : depends line known source.href ≡ true
            on =
                among (comes_from line known.act.day source.href)
                (and_true m.live (looked_at line known.act.day m.body && bytes_eq (source_of m.body).href source.href) live
                (and_true (looked_at line known.act.day m.body) (bytes_eq (source_of m.body).href source.href)
                (ap (looked_at line known.act.day) is ∙ looked)
                (bytes_are (source_of m.body).href source.href (ap (λ (b : Modification). (source_of b).href) is))))

            by : (p : Option (List ℕ)) → named_stands ss r day source.href p ≡ named_stands ts r from source.href p
            by None = refl
            by (Some wid) = still_found source.href wid ss ts ws alike (source_each (IsStill from day) line known source.href on ws still)
        body_still m (Force source destination on effect) is live looked among = absurd (let wrong : false ≡ true = looked in cc)
        body_still m (Efficacy source destination on effect) is live looked among = absurd (let wrong : false ≡ true = looked in cc)

        mod_still : (m : KnownMod) → ((test : KnownMod → Bool) → test m ≡ true → list_any test known.mods ≡ true)
            → (m.live && is_borne line ss r day known.act.day m.body) ≡ (m.live && is_borne line ts r from known.act.day m.body)
        mod_still m among = by m.live refl
          where
            looked : (b : Bool) → looked_at line known.act.day m.body ≡ b → m.live ≡ true
                → cond b (source_stands ss r day (source_of m.body)) true ≡ cond b (source_stands ts r from (source_of m.body)) true
            looked true is live = body_still m m.body refl live is among
            looked false is live = refl

            by : (b : Bool) → m.live ≡ b
                → (b && is_borne line ss r day known.act.day m.body) ≡ (b && is_borne line ts r from known.act.day m.body)
            by true live = looked (looked_at line known.act.day m.body) refl live
            by false live = refl

        mods_still : (ms : List KnownMod) → ((test : KnownMod → Bool) → list_any test ms ≡ true → list_any test known.mods ≡ true)
            → map (borne line ss r day known.act.day) ms ≡ map (borne line ts r from known.act.day) ms
        mods_still [] among = refl
        mods_still (m ∷ ms) among =
            ap (λ b. (let k : KnownMod = record m { live = b; carried = None } in k) ∷ map (borne line ss r day known.act.day) ms)
            (mod_still m (λ test here. among test (some_passed test m ms here)))
            ∙ ap (λ ks. borne line ts r from known.act.day m ∷ ks) (mods_still ms (λ test there. among test (later_passed test m ms there)))

        known_still : work_borne line ss r day known ≡ work_borne line ts r from known
        known_still = ap (λ ms. (let k : Known = record known { mods = ms; source_days = [] } in k)) (mods_still known.mods (λ test there. there))

        each_borne : (ms : List KnownMod) → EachDay (IsStill from day) ms → EachDay (IsStill from day) (map (borne line ts r from known.act.day) ms)
        each_borne [] each = tt
        each_borne (m ∷ ms) each =
            (if_less (IsStill from day) m.live (is_borne line ts r from known.act.day m.body) m.body each.0, each_borne ms each.1)

        none_carried : (ms : List KnownMod)
            → AllByRecursion (λ (m : KnownMod). stands_by r day m.carried ≡ stands_by r from m.carried) (map (borne line ts r from known.act.day) ms)
        none_carried [] = tt
        none_carried (m ∷ ms) = (refl, none_carried ms)

        module _ (calm : IsCalm known) where
          same_order : order (work_borne line ss r day known) r day ≡ order (work_borne line ts r from known) r from
          same_order =
              ap (λ (k : Known). order k r day) known_still
              ∙ ap (map (λ (due : Due). due.id))
              (due_still from day (work_borne line ts r from known).mods (each_borne known.mods calm.1) r (work_borne line ts r from known).mods (each_borne known.mods calm.1)
              (none_carried known.mods))

          same_text : text_on line r day ss known ≡ text_on line r from ts known
          same_text =
              ap (λ (k : Known). (let text : WorkText = record { known = known; version = replayed k.mods (as_enacted k.act) (order (work_borne line ss r day known) r day) } in text)) known_still
              ∙ ap (λ ids. (let text : WorkText = record {
                known = known;
                version = replayed (work_borne line ts r from known).mods (as_enacted known.act) ids;
              } in text)) same_order

    alike_more : (ss ts : List WorkText) (ws : List WorkDays) (s t : WorkText) (w : WorkDays) → Alike r ss ts ws
        → (s.known ≡ w.known) → (t.known ≡ w.known) → (AreStill w.days → (s ≡ t) × IsCalm t.known)
        → Alike r (ss ++ s ∷ []) (ts ++ t ∷ []) (ws ++ w ∷ [])
    alike_more [] [] [] s t w alike one two three = (one, two, three, tt)
    alike_more [] [] (v ∷ ws) s t w alike one two three = absurd alike
    alike_more [] (y ∷ ts) ws s t w alike one two three = absurd alike
    alike_more (x ∷ ss) [] ws s t w alike one two three = absurd alike
    alike_more (x ∷ ss) (y ∷ ts) [] s t w alike one two three = absurd alike
    alike_more (x ∷ ss) (y ∷ ts) (v ∷ ws) s t w alike one two three =
        (alike.0, alike.1, alike.2, alike_more ss ts ws s t w alike.3 one two three)

    all_alike : (line : List Known) (ss ts : List WorkText) (ws : List WorkDays) (works : List Known) → Alike r ss ts ws
        → Alike r (texts_after line r day ss works) (texts_after line r from ts works) (days_after line ws works)
    all_alike line ss ts ws [] alike = alike
    all_alike line ss ts ws (known ∷ works) alike =
        all_alike line (ss ++ text_on line r day ss known ∷ []) (ts ++ text_on line r from ts known ∷ []) (ws ++ work_days line ws known ∷ []) works
        (alike_more ss ts ws (text_on line r day ss known) (text_on line r from ts known) (work_days line ws known) alike refl refl one)
      where
        one : AreStill (work_days line ws known).days → (text_on line r day ss known ≡ text_on line r from ts known) × IsCalm known
        one still =
            let both : IsCalm known × AreStill (source_days line known ws) = calm_by_days known (source_days line known ws) still in
            (same_text line known ss ts ws alike both.1 both.0, both.0)

    pub texts_alike : (line : List Known) → Alike r (trees line r day) (trees line r from) (days_along line)
    unfolding trees days_along
    texts_alike line = all_alike line [] [] [] line tt

    order_by_still : (line : List Known) (known : Known) → AreStill (breakpoints_of line known) → order_in line known r day ≡ order_in line known r from
    order_by_still line known still =
        let both : IsCalm known × AreStill (source_days line known (days_along line)) = calm_by_days known (source_days line known (days_along line)) still in
        same_order line known (trees line r day) (trees line r from) (days_along line) (texts_alike line) both.1 both.0

  pub none_between : from ≤ day → (days : List ℕ) → list_any (λ d. nat_lt from d && nat_le d day) days ≡ false → AreStill days
  none_between later [] none = tt
  none_between later (d ∷ ds) none = (
    between from day d later (none_left (nat_lt from d && nat_le d day) (list_any (λ e. nat_lt from e && nat_le e day) ds) none),
    none_between later ds (none_right (nat_lt from d && nat_le d day) (list_any (λ e. nat_lt from e && nat_le e day) ds) none),
  )

pub order_stands_still : (line : List Known) (known : Known) (r : Reading) (from day : ℕ) → from ≤ day
    → list_any (λ d. nat_lt from d && nat_le d day) (breakpoints_of line known) ≡ false → order_in line known r day ≡ order_in line known r from
order_stands_still line known r from day later none = order_by_still from day r line known (none_between from day later (breakpoints_of line known) none)
