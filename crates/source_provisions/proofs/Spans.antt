-- The periods of a test that stands still between some days are exactly the days on which it holds.
use Rattle.std.proofs.Common.{◌≡◌, ◌∙◌, sym, ap, refl, ℕ, ◌≤◌, ◌<◌, Bool, true, false, cond, ◌&&◌, ◌||◌, nat_le, nat_lt, List, [], ◌∷◌, Some, arith}
use Rattle.std.proofs.lemmas.Bool.Decides.{nat_tests}
use Rattle.std.proofs.lemmas.Cmp.{ranked}
use Rattle.std.specs.List.{AllByRecursion, list_any}
use Rattle.std.specs.List.Sorted.{IsStrictlySortedBy}
use Rattle.std.specs.Ordering.{nat_cmp}
use Rattle.std.specs.declared.cmp.Ordering.TheVariants.{Less}
use Rattle.law_register.proofs.ApartIds.{none_both}
use Rattle.law_register.specs.Answer.Standing.{is_within}
use Rattle.law_register.specs.Provisions.Spans.{span_from, spans_of}

module _ (test : ℕ → Bool) (day : ℕ) where
  -- the test of the last of ascending days by a day, or what was told before them
  abbrev by_last : Bool → List ℕ → Bool
  by_last before [] = before
  by_last before (d ∷ ds) = cond (nat_le d day) (by_last (test d) ds) before

  -- of days that all come later
  all_later : (before : Bool) (d : ℕ) (ds : List ℕ) → nat_le d day ≡ false → AllByRecursion (λ e. nat_cmp d e ≡ Less) ds → by_last before ds ≡ before
  all_later before d [] late below = refl
  all_later before d (e ∷ es) late below = ap (λ b. cond b (by_last (test e) es) before) (later_yet d e late (ranked d e Less (sym below.0)))
    where
      later_yet : (d e : ℕ) → nat_le d day ≡ false → d < e → nat_le e day ≡ false
      later_yet d e h k = grind (arith, nat_tests)

  no_end : (b : Bool) → ((b && true) || false) ≡ (b && true)
  no_end true = refl
  no_end false = refl

  started : (b c : Bool) → c ≡ true → (b && c) ≡ (b && true)
  started b c h = ap (λ x. b && x) h

  within_start : (start d : ℕ) → start < d → nat_le d day ≡ true → nat_le start day ≡ true
  within_start start d h k = grind (arith, nat_tests)

  ended : (d : ℕ) → nat_le d day ≡ true → nat_lt day d ≡ false
  ended d h = grind (arith, nat_tests)

  not_ended : (d : ℕ) → nat_le d day ≡ false → nat_lt day d ≡ true
  not_ended d h = grind (arith, nat_tests)

  one_after : (s t rest : Bool) → s ≡ true → t ≡ false → ((s && t) || rest) ≡ (s && rest)
  one_after true false rest h k = refl
  one_after true true rest h k = absurd (let wrong : true ≡ false = k in cc)
  one_after false t rest h k = absurd (let wrong : false ≡ true = h in cc)

  one_before : (s t rest : Bool) → t ≡ true → rest ≡ false → ((s && t) || rest) ≡ (s && true)
  one_before true true rest h k = refl
  one_before false true rest h k = k
  one_before s false rest h k = absurd (let wrong : false ≡ true = h in cc)

  mutual
    unfolding IsStrictlySortedBy

    spans_are : (days : List ℕ) → IsStrictlySortedBy nat_cmp days → is_within (spans_of test days) day ≡ by_last false days
    spans_are [] up = refl
    spans_are (d ∷ ds) up = by (test d) (span_is d ds up.0 up.1) (spans_are ds up.1) (nat_le d day) refl
      where
        by : (b : Bool) → is_within (span_from test d ds) day ≡ (nat_le d day && by_last true ds) → is_within (spans_of test ds) day ≡ by_last false ds
            → (c : Bool) → nat_le d day ≡ c
            → is_within (cond b (span_from test d ds) (spans_of test ds)) day ≡ cond c (by_last b ds) false
        by true one rest true is = one ∙ ap (λ x. x && by_last true ds) is
        by true one rest false is = one ∙ ap (λ x. x && by_last true ds) is
        by false one rest true is = rest
        by false one rest false is = rest ∙ all_later false d ds is up.0

    span_is : (start : ℕ) (days : List ℕ) → AllByRecursion (λ d. nat_cmp start d ≡ Less) days → IsStrictlySortedBy nat_cmp days
        → is_within (span_from test start days) day ≡ (nat_le start day && by_last true days)
    span_is start [] below up = no_end (nat_le start day)
    span_is start (d ∷ ds) below up = by (test d) (span_is start ds below.1 up.1) (spans_are ds up.1) (nat_le d day) refl
      where
        by : (b : Bool) → is_within (span_from test start ds) day ≡ (nat_le start day && by_last true ds) → is_within (spans_of test ds) day ≡ by_last false ds
            → (c : Bool) → nat_le d day ≡ c
            → is_within (cond b (span_from test start ds) (record { start = start; end = Some d } ∷ spans_of test ds)) day
            ≡ (nat_le start day && cond c (by_last b ds) true)
        by true one rest true is = one
        by true one rest false is = one ∙ started (nat_le start day) (by_last true ds) (all_later true d ds is up.0)
        by false one rest true is =
            ap (λ x. (nat_le start day && nat_lt day d) || x) rest
            ∙ one_after (nat_le start day) (nat_lt day d) (by_last false ds) (within_start start d (ranked start d Less (sym below.0)) is) (ended d is)
        by false one rest false is =
            ap (λ x. (nat_le start day && nat_lt day d) || x) rest
            ∙ one_before (nat_le start day) (nat_lt day d) (by_last false ds) (not_ended d is) (all_later false d ds is up.0)

  -- a test that stands still between the days, and does not hold before them, is that of the last of them
  abbrev NoneBetween : ℕ → List ℕ → Type 0
  NoneBetween from days = list_any (λ d. nat_lt from d && nat_le d day) days ≡ false

  none_past : (from d : ℕ) (ds : List ℕ) → nat_le d day ≡ false → AllByRecursion (λ e. nat_cmp d e ≡ Less) ds → NoneBetween from ds
  none_past from d [] late below = refl
  none_past from d (e ∷ es) late below =
      none_both (nat_lt from e && nat_le e day) (list_any (λ d. nat_lt from d && nat_le d day) es)
      (past d e late (ranked d e Less (sym below.0))) (none_past from d es late below.1)
    where
      past : (d e : ℕ) → nat_le d day ≡ false → d < e → (nat_lt from e && nat_le e day) ≡ false
      past d e h k = grind (arith, nat_tests)

  settled : (from : ℕ) (days : List ℕ) → AllByRecursion (λ d. nat_cmp from d ≡ Less) days → IsStrictlySortedBy nat_cmp days → from ≤ day
      → ((x : ℕ) → from ≤ x → x ≤ day → NoneBetween x days → test day ≡ test x) → by_last (test from) days ≡ test day
  unfolding IsStrictlySortedBy
  settled from [] below up here still = sym (still from (omega arith) here refl)
  settled from (d ∷ ds) below up here still =
      by (λ is. settled d ds up.0 up.1 (up_to is) (λ x h k none. still x (before x h (ranked from d Less (sym below.0))) k
      (none_both (nat_lt x d && nat_le d day) (list_any (λ e. nat_lt x e && nat_le e day) ds) (passed x h) none))) (nat_le d day) refl
    where
      up_to : nat_le d day ≡ true → d ≤ day
      up_to h = grind (arith, nat_tests)

      passed : (x : ℕ) → d ≤ x → (nat_lt x d && nat_le d day) ≡ false
      passed x h = grind (arith, nat_tests)

      not_yet : nat_le d day ≡ false → (nat_lt from d && nat_le d day) ≡ false
      not_yet h = grind (arith, nat_tests)

      before : (x : ℕ) → d ≤ x → from < d → from ≤ x
      before x h k = omega (arith, h, k)

      by : (nat_le d day ≡ true → by_last (test d) ds ≡ test day) → (b : Bool) → nat_le d day ≡ b → cond b (by_last (test d) ds) (test from) ≡ test day
      by below_it true is = below_it is
      by below_it false is =
          sym (still from (omega arith) here
          (none_both (nat_lt from d && nat_le d day) (list_any (λ e. nat_lt from e && nat_le e day) ds) (not_yet is) (none_past from d ds is up.0)))

  by_last_is : (days : List ℕ) → IsStrictlySortedBy nat_cmp days
      → ((from : ℕ) → from ≤ day → NoneBetween from days → test day ≡ test from)
      → (list_any (λ d. nat_le d day) days ≡ false → test day ≡ false) → by_last false days ≡ test day
  unfolding IsStrictlySortedBy
  by_last_is [] up still never = sym (never refl)
  by_last_is (d ∷ ds) up still never = by (nat_le d day) refl
    where
      up_to : nat_le d day ≡ true → d ≤ day
      up_to h = grind (arith, nat_tests)

      passed : (x : ℕ) → d ≤ x → (nat_lt x d && nat_le d day) ≡ false
      passed x h = grind (arith, nat_tests)

      late : (e : ℕ) → nat_le d day ≡ false → d < e → nat_le e day ≡ false
      late e h k = grind (arith, nat_tests)

      all_late : (es : List ℕ) → nat_le d day ≡ false → AllByRecursion (λ e. nat_cmp d e ≡ Less) es → list_any (λ e. nat_le e day) es ≡ false
      all_late [] h below = refl
      all_late (e ∷ es) h below = none_both (nat_le e day) (list_any (λ e. nat_le e day) es) (late e h (ranked d e Less (sym below.0))) (all_late es h below.1)

      by : (b : Bool) → nat_le d day ≡ b → cond b (by_last (test d) ds) false ≡ test day
      by true is =
          settled d ds up.0 up.1 (up_to is) (λ x h k none. still x k
          (none_both (nat_lt x d && nat_le d day) (list_any (λ e. nat_lt x e && nat_le e day) ds) (passed x h) none))
      by false is = sym (never (none_both (nat_le d day) (list_any (λ e. nat_le e day) ds) is (all_late ds is up.0)))

-- the periods of such a test are the days on which it holds
pub spans_tell : (test : ℕ → Bool) (days : List ℕ) (day : ℕ) → IsStrictlySortedBy nat_cmp days
    → ((from : ℕ) → from ≤ day → list_any (λ d. nat_lt from d && nat_le d day) days ≡ false → test day ≡ test from)
    → (list_any (λ d. nat_le d day) days ≡ false → test day ≡ false)
    → is_within (spans_of test days) day ≡ test day
spans_tell test days day up still never = spans_are test day days up ∙ by_last_is test day days up still never
