-- Days from a day on, and the last of those before it.
use Rattle.std.proofs.Common.{suc, ◌≡◌, ◌∙◌, sym, ap, refl, ℕ, ◌+◌, ◌-◌, Bool, true, false, cond, nat_le, nat_lt, List, [], ◌∷◌, length, map, take, drop, Option, Some, None, arith}
use Rattle.std.proofs.lemmas.Bool.Decides.{nat_tests}
use Rattle.std.specs.List.{filter, list_all}
use Rattle.std.specs.Option.{option_or}
use Rattle.desk_base.specs.declared.id.Id.{Id}
use Rattle.law_register.specs.declared.answer.question.Reading.{Reading}
use Rattle.law_register.specs.declared.register.known.Known.{Known}
use Rattle.law_register.specs.Answer.Applied.{ids_applied}
use Rattle.law_register.specs.Answer.Costs.{cost_after, revision_cost}
use Rattle.law_register.specs.Answer.Breakpoints.{breakpoints}
use Rattle.law_register.specs.Answer.Order.{order}
use Rattle.law_register.proofs.NamedDays.{breakpoints_ascend}
use Rattle.version_cache.specs.Days.{days_before, is_ascending, last_day, last_until, order_by}
use Rattle.version_cache.proofs.Fronts.{both_left, both_right}
use Rattle.version_cache.proofs.Parted.{all_late, ascending, back_is, both_true, front_is, later_too, none_early, not_before}
use Rattle.version_cache.proofs.RowFronts.{up_to}

abbrev pub days_from : ℕ → List ℕ → List ℕ
days_from touched ds = filter (λ d. nat_le touched d) ds

or_none : (o : Option ℕ) → option_or o None ≡ o
or_none None = refl
or_none (Some d) = refl

or_or : (a b c : Option ℕ) → option_or a (option_or b c) ≡ option_or (option_or a b) c
or_or None b c = refl
or_or (Some d) b c = refl

same_days : (ds : List ℕ) → map (λ d. d) ds ≡ ds
same_days [] = refl
same_days (d ∷ ds) = ap (λ es. d ∷ es) (same_days ds)

as_keys : (ds : List ℕ) → is_ascending ds ≡ true → is_ascending (map (λ d. d) ds) ≡ true
as_keys ds up = ap is_ascending (same_days ds) ∙ up

-- the last day by a day is the last before the next one
pub last_by_next : (day : ℕ) (ds : List ℕ) → last_until day ds ≡ last_day (days_before (suc day) ds)
last_by_next day [] = refl
last_by_next day (d ∷ ds) =
    ap (λ o. option_or o (cond (nat_le d day) (Some d) None)) (last_by_next day ds)
    ∙ by (nat_le d day)
    ∙ sym (ap (λ b. last_day (cond b (d ∷ days_before (suc day) ds) (days_before (suc day) ds))) (up_to d day))
  where
    by : (b : Bool) → option_or (last_day (days_before (suc day) ds)) (cond b (Some d) None) ≡ last_day (cond b (d ∷ days_before (suc day) ds) (days_before (suc day) ds))
    by true = refl
    by false = or_none (last_day (days_before (suc day) ds))

module _ (touched : ℕ) where
  -- no day is before the first
  pub none_before_zero : (ds : List ℕ) → days_before 0 ds ≡ []
  none_before_zero [] = refl
  none_before_zero (d ∷ ds) = ap (λ b. cond b (d ∷ days_before 0 ds) (days_before 0 ds)) (never d) ∙ none_before_zero ds
    where
      never : (d : ℕ) → nat_lt d 0 ≡ false
      never d = grind (arith, nat_tests)

  early_is_by : (d day : ℕ) → nat_le touched day ≡ true → nat_lt d touched ≡ true → nat_le d day ≡ true
  early_is_by d day h k = grind (arith, nat_tests)

  -- the last day by one that is not before the touched day
  pub last_joined : (day : ℕ) (ds : List ℕ) → is_ascending ds ≡ true → nat_le touched day ≡ true
      → option_or (last_until day (days_from touched ds)) (last_day (days_before touched ds)) ≡ last_until day ds
  last_joined day [] up h = refl
  last_joined day (d ∷ ds) up h = by (nat_lt d touched) refl (last_joined day ds (both_right (list_all (λ e. nat_lt d e) ds) (is_ascending ds) up) h)
    where
      by : (b : Bool) → nat_lt d touched ≡ b → option_or (last_until day (days_from touched ds)) (last_day (days_before touched ds)) ≡ last_until day ds
          → option_or (last_until day (days_from touched (d ∷ ds))) (last_day (days_before touched (d ∷ ds))) ≡ last_until day (d ∷ ds)
      by true e below =
          ap (λ b. option_or (last_until day (cond b (d ∷ days_from touched ds) (days_from touched ds))) (last_day (days_before touched (d ∷ ds)))) (not_before d touched true e)
          ∙ ap (λ b. option_or (last_until day (days_from touched ds)) (last_day (cond b (d ∷ days_before touched ds) (days_before touched ds)))) e
          ∙ or_or (last_until day (days_from touched ds)) (last_day (days_before touched ds)) (Some d)
          ∙ ap (λ o. option_or o (Some d)) below
          ∙ sym (ap (λ b. option_or (last_until day ds) (cond b (Some d) None)) (early_is_by d day h e))
      by false e below =
          ap (λ es. option_or (last_until day es) (last_day (days_before touched (d ∷ ds)))) (all_late (λ x. x) touched d ds (as_keys (d ∷ ds) up) e)
          ∙ ap (λ es. option_or (last_until day (d ∷ ds)) (last_day es)) (none_early (λ x. x) touched d ds (as_keys (d ∷ ds) up) e)
          ∙ or_none (last_until day (d ∷ ds))

  -- days from a day on are not before it
  pub from_all : (ds : List ℕ) → list_all (λ d. nat_le touched d) (days_from touched ds) ≡ true
  from_all [] = refl
  from_all (d ∷ ds) = by (nat_le touched d) refl (from_all ds)
    where
      by : (b : Bool) → nat_le touched d ≡ b → list_all (λ d. nat_le touched d) (days_from touched ds) ≡ true
          → list_all (λ d. nat_le touched d) (cond b (d ∷ days_from touched ds) (days_from touched ds)) ≡ true
      by true e below = both_true (nat_le touched d) (list_all (λ d. nat_le touched d) (days_from touched ds)) e below
      by false e below = below

  fewer_after : (x : ℕ) (ds : List ℕ) → list_all (λ e. nat_lt x e) ds ≡ true → list_all (λ e. nat_lt x e) (days_from touched ds) ≡ true
  fewer_after x [] h = refl
  fewer_after x (d ∷ ds) h = by (nat_le touched d) (fewer_after x ds (both_right (nat_lt x d) (list_all (λ e. nat_lt x e) ds) h))
    where
      by : (b : Bool) → list_all (λ e. nat_lt x e) (days_from touched ds) ≡ true → list_all (λ e. nat_lt x e) (cond b (d ∷ days_from touched ds) (days_from touched ds)) ≡ true
      by true below = both_true (nat_lt x d) (list_all (λ e. nat_lt x e) (days_from touched ds)) (both_left (nat_lt x d) (list_all (λ e. nat_lt x e) ds) h) below
      by false below = below

  -- and ascend where all do
  pub from_ascend : (ds : List ℕ) → is_ascending ds ≡ true → is_ascending (days_from touched ds) ≡ true
  from_ascend [] up = refl
  from_ascend (d ∷ ds) up = by (nat_le touched d) (from_ascend ds (both_right (list_all (λ e. nat_lt d e) ds) (is_ascending ds) up))
    where
      by : (b : Bool) → is_ascending (days_from touched ds) ≡ true → is_ascending (cond b (d ∷ days_from touched ds) (days_from touched ds)) ≡ true
      by true below =
          both_true (list_all (λ e. nat_lt d e) (days_from touched ds)) (is_ascending (days_from touched ds))
          (fewer_after d ds (both_left (list_all (λ e. nat_lt d e) ds) (is_ascending ds) up)) below
      by false below = below

module _ (known : Known) (r : Reading) (touched : ℕ) where
  -- the order of a day, where there is one; these ids else
  abbrev order_or : List Id → Option ℕ → List Id
  order_or before None = before
  order_or before (Some day) = order known r day

  later : (before : List Id) (d : ℕ) (o : Option ℕ) → order_or (order known r d) o ≡ order_or before (option_or o (Some d))
  later before d None = refl
  later before d (Some e) = refl

  least : (d : ℕ) → nat_le 0 d ≡ true
  least d = grind (arith, nat_tests)

  nothing_more : (n : ℕ) → 0 + n ≡ n
  nothing_more n = omega arith

  -- where all days come from the touched day on, each costs
  all_cost : (x : ℕ) (before : List Id) (ds : List ℕ) → nat_lt x touched ≡ false → list_all (λ e. nat_lt x e) ds ≡ true
      → cost_after known r touched before ds ≡ cost_after known r 0 before ds
  all_cost x before [] late h = refl
  all_cost x before (d ∷ ds) late h =
      ap (λ b. cond b (ids_applied before (order known r d)) 0 + cost_after known r touched (order known r d) ds)
      (not_before d touched false (later_too x d touched late (both_left (nat_lt x d) (list_all (λ e. nat_lt x e) ds) h))
      ∙ sym (least d))
      ∙ ap (λ n. cond (nat_le 0 d) (ids_applied before (order known r d)) 0 + n)
      (all_cost x (order known r d) ds late (both_right (nat_lt x d) (list_all (λ e. nat_lt x e) ds) h))

  first_cost : (before : List Id) (d : ℕ) (ds : List ℕ) → is_ascending (d ∷ ds) ≡ true → nat_lt d touched ≡ false
      → cost_after known r touched before (d ∷ ds) ≡ cost_after known r 0 before (d ∷ ds)
  first_cost before d ds up late =
      ap (λ b. cond b (ids_applied before (order known r d)) 0 + cost_after known r touched (order known r d) ds) (not_before d touched false late ∙ sym (least d))
      ∙ ap (λ n. cond (nat_le 0 d) (ids_applied before (order known r d)) 0 + n)
      (all_cost d (order known r d) ds late (both_left (list_all (λ e. nat_lt d e) ds) (is_ascending ds) up))

  cost_or : (before : List Id) (ds : List ℕ) → is_ascending ds ≡ true
      → cost_after known r touched before ds ≡ cost_after known r 0 (order_or before (last_day (days_before touched ds))) (days_from touched ds)
  cost_or before [] up = refl
  cost_or before (d ∷ ds) up = by (nat_lt d touched) refl (cost_or (order known r d) ds (both_right (list_all (λ e. nat_lt d e) ds) (is_ascending ds) up))
    where
      by : (b : Bool) → nat_lt d touched ≡ b
          → cost_after known r touched (order known r d) ds ≡ cost_after known r 0 (order_or (order known r d) (last_day (days_before touched ds))) (days_from touched ds)
          → cost_after known r touched before (d ∷ ds) ≡ cost_after known r 0 (order_or before (last_day (days_before touched (d ∷ ds)))) (days_from touched (d ∷ ds))
      by true e below =
          ap (λ b. cond b (ids_applied before (order known r d)) 0 + cost_after known r touched (order known r d) ds) (not_before d touched true e)
          ∙ nothing_more (cost_after known r touched (order known r d) ds)
          ∙ below
          ∙ ap (λ ids. cost_after known r 0 ids (days_from touched ds)) (later before d (last_day (days_before touched ds)))
          ∙ sym (ap (λ b. cost_after known r 0 (order_or before (last_day (cond b (d ∷ days_before touched ds) (days_before touched ds)))) (days_from touched ds)) e)
          ∙ sym (ap (λ b. cost_after known r 0 (order_or before (last_day (days_before touched (d ∷ ds)))) (cond b (d ∷ days_from touched ds) (days_from touched ds))) (not_before d touched true e))
      by false e below =
          first_cost before d ds up e
          ∙ sym (ap (λ es. cost_after known r 0 (order_or before (last_day es)) (d ∷ ds)) (none_early (λ x. x) touched d ds (as_keys (d ∷ ds) up) e))
          ∙ sym (ap (λ es. cost_after known r 0 (order_or before (last_day (days_before touched (d ∷ ds)))) es) (all_late (λ x. x) touched d ds (as_keys (d ∷ ds) up) e))

  none_or : (o : Option ℕ) → order_or [] o ≡ order_by known r o
  none_or None = refl
  none_or (Some day) = refl

  -- what a revision costs is what its days cost after the last day before them
  pub cost_from : (ds : List ℕ) → is_ascending ds ≡ true
      → cost_after known r touched [] ds ≡ cost_after known r 0 (order_by known r (last_day (days_before touched ds))) (days_from touched ds)
  cost_from ds up = cost_or [] ds up ∙ ap (λ ids. cost_after known r 0 ids (days_from touched ds)) (none_or (last_day (days_before touched ds)))

-- the breakpoints parted by a day
module _ (known : Known) (touched : ℕ) where
  all_ascend : is_ascending (breakpoints known) ≡ true
  all_ascend = ascending (breakpoints known) (breakpoints_ascend known)

  pub parted_before : (xs ys front : List ℕ) (count : ℕ) → xs ≡ breakpoints known → ys ≡ breakpoints known → count ≡ length (days_before touched xs) → front ≡ take count ys
      → front ≡ days_before touched (breakpoints known)
  parted_before xs ys front count same also counted cut =
      cut ∙ ap (λ n. take n ys) counted ∙ ap (λ (zs : List ℕ). take (length (days_before touched zs)) ys) same
      ∙ ap (take (length (days_before touched (breakpoints known)))) also
      ∙ front_is (λ d. d) touched (breakpoints known) (as_keys (breakpoints known) all_ascend)

  pub parted_from : (xs ys back : List ℕ) (count : ℕ) → xs ≡ breakpoints known → ys ≡ breakpoints known → count ≡ length (days_before touched xs) → back ≡ drop count ys
      → back ≡ days_from touched (breakpoints known)
  parted_from xs ys back count same also counted cut =
      cut ∙ ap (λ n. drop n ys) counted ∙ ap (λ (zs : List ℕ). drop (length (days_before touched zs)) ys) same
      ∙ ap (drop (length (days_before touched (breakpoints known)))) also
      ∙ back_is (λ d. d) touched (breakpoints known) (as_keys (breakpoints known) all_ascend)

  -- rows of those from the day on
  pub new_ascend : (days : List ℕ) → days ≡ days_from touched (breakpoints known) → is_ascending days ≡ true
  new_ascend days is = ap is_ascending is ∙ from_ascend touched (breakpoints known) all_ascend

  pub new_late : (days : List ℕ) → days ≡ days_from touched (breakpoints known) → list_all (λ d. nat_le touched d) days ≡ true
  new_late days is = ap (list_all (λ d. nat_le touched d)) is ∙ from_all touched (breakpoints known)

  -- cost what the revision does
  pub revised_cost : (r : Reading) (ids : List Id) (back : List ℕ) → ids ≡ order_by known r (last_day (days_before touched (breakpoints known))) → back ≡ days_from touched (breakpoints known)
      → cost_after known r 0 ids back ≡ revision_cost known r touched
  unfolding revision_cost
  revised_cost r ids back ordered is =
      ap (λ i. cost_after known r 0 i back) ordered
      ∙ ap (cost_after known r 0 (order_by known r (last_day (days_before touched (breakpoints known))))) is
      ∙ sym (cost_from known r touched (breakpoints known) all_ascend)
