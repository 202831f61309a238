-- Rows that are handed in for a work have on each day, from the first of them on, the references of its text in force.
use Rattle.std.proofs.Common.{◌≡◌, ◌∙◌, ℕ, ◌<◌, ◌≤◌, sym, ap, refl, subst, Bool, true, false, cond, ◌&&◌, nat_le, nat_lt, List, [], ◌∷◌, ◌++◌, map, arith}
use Rattle.std.specs.Prelude.{Option, Some, None, IfSome}
use Rattle.std.specs.List.{AllByRecursion, filter, list_any}
use Rattle.std.specs.Option.{option_or}
use Rattle.std.specs.Str.{bytes_eq}
use Rattle.std.proofs.lemmas.Bool.Decides.{nat_tests}
use Rattle.std.proofs.lemmas.List.Kept.{IsStrictlySortedBy-filter}
use Rattle.std.specs.Ordering.{nat_cmp}
use Rattle.law_register.specs.declared.answer.question.Reading.TheVariants.{Force}
use Rattle.law_register.specs.declared.register.entry.Entry.{Entry}
use Rattle.law_register.specs.declared.register.known.Known.{Known}
use Rattle.law_register.specs.Answer.Breakpoints.{breakpoints}
use Rattle.law_register.specs.Answer.Replay.{VersionValue, as_enacted, replayed}
use Rattle.law_register.specs.Answer.Soundness.{IsSound}
use Rattle.law_register.specs.Provisions.Carrying.{held_now}
use Rattle.law_register.specs.Register.Verdicts.{is_legal}
use Rattle.law_register.proofs.ApartIds.{none_both, none_left, none_right}
use Rattle.law_register.proofs.NamedDays.{breakpoints_ascend}
use Rattle.law_register.proofs.Puts.{bytes_are}
use Rattle.version_cache.specs.Days.{last_until}
use Rattle.version_cache.specs.Steady.{CarrySteadily}
use Rattle.version_cache.proofs.LastDay.{IsLast, last_is}
use Rattle.version_cache.proofs.Right.{replay_by_last, version_or}
use Rattle.version_cache.proofs.Still.{order_still}
use Rattle.source_provisions.proofs.HeldNow.{held_sound}
use Rattle.law_refs.specs.Handing.{row_enacted, row_on, rows_from, rows_made}
use Rattle.law_refs.specs.Index.{first_day}
use Rattle.law_refs.specs.Missing.{refs_in_force, text_refs}
use Rattle.law_refs.specs.OfRegister.{AreRowsFor, IsHandedIn, SameRefs, latest_given, rows_given}
use Rattle.law_refs.specs.Rows.{has_begun, is_before}
use Rattle.law_refs.specs.declared.node_ref.NodeRef.{NodeRef}
use Rattle.law_refs.specs.declared.ref_row.RefRow.{RefRow}

-- what a legal register knows of a work carries steadily, with what it carries
pub now_steady : (entries : List Entry) (work : List ℕ) (known : Known) → is_legal entries ≡ true → held_now entries work ≡ Some known → CarrySteadily known
now_steady entries work known legal is =
    let sound : IsSound known = subst (λ (k : Option Known). IfSome k IsSound) is (held_sound entries work legal) in
    sound.steady

-- ---- rows of one work

abbrev pub AreOf : List ℕ → List RefRow → Type 0
AreOf work rows = AllByRecursion (λ (row : RefRow). row.work ≡ work) rows

-- its own are all of them
pub given_own : (work : List ℕ) (rows : List RefRow) → AreOf work rows → rows_given work rows ≡ rows
given_own work [] own = refl
given_own work (row ∷ rows) own =
    ap (λ t. cond t (row ∷ []) [] ++ rows_given work rows) (bytes_are row.work work own.0)
    ∙ ap (λ rest. row ∷ rest) (given_own work rows own.1)

pub first_own : (work : List ℕ) (row : RefRow) (rows : List RefRow) → row.work ≡ work → first_day work (row ∷ rows) ≡ Some row.from
first_own work row rows own = ap (λ t. cond t (Some row.from) (first_day work rows)) (bytes_are row.work work own)

-- those of another are none
another : (own work : List ℕ) (row : RefRow) → row.work ≡ own → bytes_eq own work ≡ false → bytes_eq row.work work ≡ false
another own work row is other = ap (λ w. bytes_eq w work) is ∙ other

pub given_other : (own work : List ℕ) (rows : List RefRow) → AreOf own rows → bytes_eq own work ≡ false → rows_given work rows ≡ []
given_other own work [] of other = refl
given_other own work (row ∷ rows) of other =
    ap (λ t. cond t (row ∷ []) [] ++ rows_given work rows) (another own work row of.0 other)
    ∙ given_other own work rows of.1 other

pub first_other : (own work : List ℕ) (rows : List RefRow) → AreOf own rows → bytes_eq own work ≡ false → first_day work rows ≡ None
first_other own work [] of other = refl
first_other own work (row ∷ rows) of other =
    ap (λ t. cond t (Some row.from) (first_day work rows)) (another own work row of.0 other)
    ∙ first_other own work rows of.1 other

later_not : (touched d : ℕ) → nat_lt touched d ≡ true → nat_lt d touched ≡ false
later_not touched d h = grind (arith, nat_tests)

later_is : (touched d : ℕ) → nat_lt touched d ≡ true → touched < d
later_is touched d h = grind (arith, nat_tests)

itself_not : (d : ℕ) → nat_lt d d ≡ false
itself_not d = grind (arith, nat_tests)

reached : (d day : ℕ) → nat_le d day ≡ true → d ≤ day
reached d day h = grind (arith, nat_tests)

-- ---- the days after one

abbrev after : ℕ → List ℕ → List ℕ
after touched days = filter (λ day. nat_lt touched day) days

-- what holds of each day after another holds of all of them
module _ (P : ℕ → Type 0) (touched : ℕ) (later : (d : ℕ) → nat_lt touched d ≡ true → P d) where
  all_after : (days : List ℕ) → AllByRecursion P (after touched days)
  all_after [] = tt
  all_after (d ∷ days) = by (nat_lt touched d) refl (all_after days)
    where
      by : (t : Bool) → nat_lt touched d ≡ t → AllByRecursion P (after touched days) → AllByRecursion P (cond t (d ∷ after touched days) (after touched days))
      by true is rest = (later d is, rest)
      by false is rest = rest

-- the last of some days is one of them
abbrev IfLast : (ℕ → Type 0) → Option ℕ → Type 0
IfLast P None = Unit {0}
IfLast P (Some last) = P last

last_one : (P : ℕ → Type 0) (day : ℕ) (days : List ℕ) → AllByRecursion P days → IfLast P (last_until day days)
last_one P day [] all = tt
last_one P day (d ∷ days) all = by (last_until day days) (last_one P day days all.1)
  where
    here : (t : Bool) → IfLast P (cond t (Some d) None)
    here true = all.0
    here false = tt

    by : (o : Option ℕ) → IfLast P o → IfLast P (option_or o (cond (nat_le d day) (Some d) None))
    by None none = here (nat_le d day)
    by (Some last) is = is

-- what no day after another passes, and no day up to it, no day passes
none_in : (test : ℕ → Bool) (touched : ℕ) → ((d : ℕ) → nat_lt touched d ≡ false → test d ≡ false) → (days : List ℕ) → list_any test (after touched days) ≡ false → list_any test days ≡ false
none_in test touched not_early [] none = refl
none_in test touched not_early (d ∷ days) none = by (nat_lt touched d) refl none (none_in test touched not_early days)
  where
    by : (t : Bool) → nat_lt touched d ≡ t → list_any test (cond t (d ∷ after touched days) (after touched days)) ≡ false
        → (list_any test (after touched days) ≡ false → list_any test days ≡ false) → list_any test (d ∷ days) ≡ false
    by true is none rest =
        none_both (test d) (list_any test days) (none_left (test d) (list_any test (after touched days)) none)
        (rest (none_right (test d) (list_any test (after touched days)) none))
    by false is none rest = none_both (test d) (list_any test days) (not_early d is) (rest none)

-- and what passes a narrower test passes the wider one
none_wider : (test wider : ℕ → Bool) → ((d : ℕ) → wider d ≡ false → test d ≡ false) → (days : List ℕ) → list_any wider days ≡ false → list_any test days ≡ false
none_wider test wider not_wider [] none = refl
none_wider test wider not_wider (d ∷ days) none =
    none_both (test d) (list_any test days) (not_wider d (none_left (wider d) (list_any wider days) none))
    (none_wider test wider not_wider days (none_right (wider d) (list_any wider days) none))

early_not : (touched last day d : ℕ) → touched ≤ last → nat_lt touched d ≡ false → (nat_lt last d && nat_le d day) ≡ false
early_not touched last day d above h = grind (arith, nat_tests)

not_come : (touched day d : ℕ) → nat_le d day ≡ false → (nat_lt touched d && nat_le d day) ≡ false
not_come touched day d h = by (nat_lt touched d)
  where
    by : (t : Bool) → (t && nat_le d day) ≡ false
    by true = h
    by false = refl

same_least : (d : ℕ) → d ≤ d
same_least d = omega arith

less_least : (touched last : ℕ) → touched < last → touched ≤ last
less_least touched last h = omega (arith, h)

-- ---- what the last row that has begun has

module _ (work : List ℕ) (known : Known) where
  -- the references of the text of a day, where there is one, or else these
  abbrev refs_or : List NodeRef → Option ℕ → List NodeRef
  refs_or found None = found
  refs_or found (Some day) = refs_in_force known day

  or_itself : (d : ℕ) (found : List NodeRef) (t : Bool) (o : Option ℕ) → refs_or (cond t (refs_in_force known d) found) o ≡ refs_or found (option_or o (cond t (Some d) None))
  or_itself d found true None = refl
  or_itself d found false None = refl
  or_itself d found true (Some last) = refl
  or_itself d found false (Some last) = refl

  -- of rows of some days the last that has begun by a day has the references of the last of these days by then
  last_given : (day : ℕ) (found : List NodeRef) (days : List ℕ) → latest_given day found (map (row_on work known) days) ≡ refs_or found (last_until day days)
  unfolding has_begun
  last_given day found [] = refl
  last_given day found (d ∷ days) =
      last_given day (cond (nat_le d day) (refs_in_force known d) found) days
      ∙ or_itself d found (nat_le d day) (last_until day days)

  -- ---- all texts of a work

  enacted_or : (o : Option ℕ) → refs_or (text_refs (as_enacted known.act).tree) o ≡ text_refs (version_or known Force (as_enacted known.act) o).tree
  unfolding refs_in_force
  enacted_or None = refl
  enacted_or (Some day) = refl

  -- on each day they have the references of the text in force
  pub made_texts : CarrySteadily known → (day : ℕ) (found : List NodeRef) → latest_given day found (rows_made work known) ≡ refs_in_force known day
  unfolding refs_in_force has_begun
  made_texts steady day found =
      last_given day (text_refs (as_enacted known.act).tree) (breakpoints known)
      ∙ enacted_or (last_until day (breakpoints known))
      ∙ ap (λ (v : VersionValue). text_refs v.tree) (sym (replay_by_last known Force steady day))

  -- ---- those from a day on

  still_refs : CarrySteadily known → (from day : ℕ) → from ≤ day → list_any (λ d. nat_lt from d && nat_le d day) (breakpoints known) ≡ false → refs_in_force known from ≡ refs_in_force known day
  unfolding refs_in_force
  still_refs steady from day later none =
      sym (ap (λ ids. text_refs (replayed known.mods (as_enacted known.act) ids).tree) (order_still from day known steady Force later none))

  from_last : CarrySteadily known → (touched day : ℕ) → touched ≤ day → (o : Option ℕ) → IsLast day (after touched (breakpoints known)) o → IfLast (λ last. touched < last) o
      → refs_or (refs_in_force known touched) o ≡ refs_in_force known day
  from_last steady touched day later None none before =
      still_refs steady touched day later
      (none_in (λ d. nat_lt touched d && nat_le d day) touched (λ d h. early_not touched touched day d (same_least touched) h) (breakpoints known)
      (none_wider (λ d. nat_lt touched d && nat_le d day) (λ d. nat_le d day) (λ d h. not_come touched day d h) (after touched (breakpoints known)) none))
  from_last steady touched day later (Some last) is before =
      still_refs steady last day is.0
      (none_in (λ d. nat_lt last d && nat_le d day) touched (λ d h. early_not touched last day d (less_least touched last before) h) (breakpoints known) is.1)

  -- from that day on they have the references of the text in force
  pub from_texts : CarrySteadily known → (touched day : ℕ) (found : List NodeRef) → nat_le touched day ≡ true → latest_given day found (rows_from work touched known) ≡ refs_in_force known day
  unfolding has_begun
  from_texts steady touched day found begun =
      ap (λ t. latest_given day (cond t (refs_in_force known touched) found) (map (row_on work known) (after touched (breakpoints known)))) begun
      ∙ last_given day (refs_in_force known touched) (after touched (breakpoints known))
      ∙ from_last steady touched day (reached touched day begun) (last_until day (after touched (breakpoints known)))
      (last_is day (after touched (breakpoints known))
      (IsStrictlySortedBy-filter nat_cmp (λ d. nat_lt touched d) (breakpoints known) (breakpoints_ascend known)))
      (last_one (λ last. touched < last) day (after touched (breakpoints known))
      (all_after (λ last. touched < last) touched (λ d h. later_is touched d h) (breakpoints known)))

  -- ---- each row is of the work, has the day of its act, and does not begin before the first

  days_of_work : (days : List ℕ) → AreOf work (map (row_on work known) days)
  days_of_work [] = tt
  days_of_work (d ∷ days) = (refl, days_of_work days)

  days_act_day : (days : List ℕ) → AllByRecursion (λ (row : RefRow). row.act_day ≡ known.act.day) (map (row_on work known) days)
  days_act_day [] = tt
  days_act_day (d ∷ days) = (refl, days_act_day days)

  days_any : (days : List ℕ) → AllByRecursion (λ (row : RefRow). is_before row.from None ≡ false) (map (row_on work known) days)
  unfolding is_before
  days_any [] = tt
  days_any (d ∷ days) = (refl, days_any days)

  days_from : (touched : ℕ) (days : List ℕ) → AllByRecursion (λ d. nat_lt d touched ≡ false) days
      → AllByRecursion (λ (row : RefRow). is_before row.from (Some touched) ≡ false) (map (row_on work known) days)
  unfolding is_before
  days_from touched [] later = tt
  days_from touched (d ∷ days) later = (later.0, days_from touched days later.1)

  made_any : AllByRecursion (λ (row : RefRow). is_before row.from None ≡ false) (rows_made work known)
  unfolding is_before
  made_any = (refl, days_any (breakpoints known))

  from_any : (touched : ℕ) → AllByRecursion (λ (row : RefRow). is_before row.from (Some touched) ≡ false) (rows_from work touched known)
  unfolding is_before
  from_any touched = (
    itself_not touched,
    days_from touched (after touched (breakpoints known))
        (all_after (λ d. nat_lt d touched ≡ false) touched (λ d h. later_not touched d h) (breakpoints known)),
  )

  pub made_of : AreOf work (rows_made work known)
  made_of = (refl, days_of_work (breakpoints known))

  pub from_of : (touched : ℕ) → AreOf work (rows_from work touched known)
  from_of touched = (refl, days_of_work (after touched (breakpoints known)))

  -- ---- what is handed in is for what is known

  no_day_before : (old : Option Known) (day : ℕ) → has_begun None day ≡ false → SameRefs day old known
  unfolding has_begun
  no_day_before old day wrong = absurd (let no : true ≡ false = wrong in cc)

  pub made_for : CarrySteadily known → (old : Option Known) → AreRowsFor old known None (rows_made work known)
  made_for steady old = record {
    act_day = (refl, days_act_day (breakpoints known));
    days = made_any;
    texts = λ day real begun. made_texts steady day [];
    earlier = λ day real. no_day_before old day;
  }

  pub from_for : CarrySteadily known → (old : Option Known) (touched : ℕ) → ((day : ℕ) → 1 ≤ day → day < touched → SameRefs day old known) → AreRowsFor old known (Some touched) (rows_from work touched known)
  unfolding has_begun
  from_for steady old touched earlier = record {
    act_day = (refl, days_act_day (after touched (breakpoints known)));
    days = from_any touched;
    texts = λ day real begun. from_texts steady touched day [] begun;
    earlier = λ day real early. earlier day real (not_reached touched day early);
  }
    where
      not_reached : (t day : ℕ) → nat_le t day ≡ false → day < t
      not_reached t day h = grind (arith, nat_tests)

  -- of its own work
  pub made_handed : CarrySteadily known → (old : Option Known) → IsHandedIn old (Some known) (first_day work (rows_made work known)) (rows_given work (rows_made work known))
  made_handed steady old =
      subst (λ first. IsHandedIn old (Some known) first (rows_given work (rows_made work known)))
      (sym (first_own work (row_enacted work known) (map (row_on work known) (breakpoints known)) refl))
      (subst (λ rows. IsHandedIn old (Some known) (Some None) rows) (sym (given_own work (rows_made work known) made_of)) (made_for steady old))

  pub from_handed : CarrySteadily known → (old : Option Known) (touched : ℕ) → ((day : ℕ) → 1 ≤ day → day < touched → SameRefs day old known)
      → IsHandedIn old (Some known) (first_day work (rows_from work touched known)) (rows_given work (rows_from work touched known))
  from_handed steady old touched earlier =
      subst (λ first. IsHandedIn old (Some known) first (rows_given work (rows_from work touched known)))
      (sym (first_own work (row_on work known touched) (map (row_on work known) (after touched (breakpoints known))) refl))
      (subst (λ rows. IsHandedIn old (Some known) (Some (Some touched)) rows) (sym (given_own work (rows_from work touched known) (from_of touched))) (from_for steady old touched earlier))
