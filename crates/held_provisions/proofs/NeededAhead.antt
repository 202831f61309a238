-- The works on which one depends, directly or through others, have theirs ahead of them.
use Rattle.std.proofs.Common.{◌≡◌, ◌∙◌, sym, ap, refl, Bool, true, false, cond, nat_lt, List, [], ◌∷◌, ◌++◌, filter, Some}
use Rattle.std.specs.List.{AllByRecursion, list_any}
use Rattle.std.specs.List.Sorted.{IsStrictlySortedBy}
use Rattle.std.specs.declared.cmp.Ordering.TheVariants.{Less}
use Rattle.law_register.specs.declared.register.known.Known.{Known}
use Rattle.law_register.proofs.ApartIds.{none_left, none_right}
use Rattle.held_provisions.specs.Needing.{HaveAhead, is_wanted, needed_in}
use Rattle.law_register.specs.Provisions.Depending.{depends}
use Rattle.law_register.specs.Provisions.Line.{IsLine, line_cmp, work_in}
use Rattle.law_register.specs.Provisions.Looking.{is_after}
use Rattle.source_provisions.proofs.Lines.{itself_not_later, not_later_behind}
use Rattle.source_provisions.proofs.Looking.{depends_after}

-- what holds of all works holds of those that are needed
pub needed_all : (P : Known → Type 0) (line : List Known) (known : Known) (works : List Known) → AllByRecursion P works → AllByRecursion P (needed_in line known works)
needed_all P line known [] all = tt
needed_all P line known (other ∷ others) all = by (is_wanted line known (needed_in line known others) other.act.work) (needed_all P line known others all.1)
  where
    by : (b : Bool) → AllByRecursion P (needed_in line known others)
        → AllByRecursion P (cond b (other ∷ needed_in line known others) (needed_in line known others))
    by true rest = (all.0, rest)
    by false rest = rest

module _ (line : List Known) where
  abbrev On : Known → Known → Bool
  On known other = depends line known other.act.work

  abbrev IsThere : Known → Type 0
  IsThere known = work_in known.act.work line ≡ Some known

  -- a work depends on no work that is not of a later day
  not_on : (known other : Known) → IsThere other → nat_lt known.act.day other.act.day ≡ false → On known other ≡ false
  not_on known other there late = by (On known other) refl
    where
      by : (b : Bool) → On known other ≡ b → b ≡ false
      by false is = refl
      by true is =
          absurd (let wrong : true ≡ false =
          sym (depends_after line known other.act.work is) ∙ ap (is_after known.act.day) there ∙ late in cc)

  none_on : (known : Known) (behind : List Known) → AllByRecursion IsThere behind → AllByRecursion (λ y. line_cmp known y ≡ Less) behind
      → filter (On known) behind ≡ []
  none_on known [] there below = refl
  none_on known (next ∷ behind) there below =
      ap (λ b. cond b (next ∷ filter (On known) behind) (filter (On known) behind)) (not_on known next there.0 (not_later_behind known next below.0))
      ∙ none_on known behind there.1 below.1

  none_itself : (known : Known) (behind : List Known) → IsThere known → AllByRecursion IsThere behind → AllByRecursion (λ y. line_cmp known y ≡ Less) behind
      → filter (On known) (known ∷ behind) ≡ []
  none_itself known behind there all below =
      ap (λ b. cond b (known ∷ filter (On known) behind) (filter (On known) behind)) (not_on known known there (itself_not_later known.act.day))
      ∙ none_on known behind all below

  -- one work more in front, ahead of all
  taken : (first : Known) (all ahead works : List Known) → HaveAhead line all ahead works → HaveAhead line (first ∷ all) (first ∷ ahead) works
  taken first all ahead [] have = tt
  taken first all ahead (known ∷ works) have = (
    ap (λ (ks : List Known). cond (On known first) (first ∷ ks) ks) have.0,
    taken first all (ahead ++ known ∷ []) works have.1,
  )

  -- one on which none of them depends
  passed : (first : Known) (all ahead works : List Known) → AllByRecursion (λ (k : Known). On k first ≡ false) works
      → HaveAhead line all ahead works → HaveAhead line (first ∷ all) ahead works
  passed first all ahead [] none have = tt
  passed first all ahead (known ∷ works) none have = (
    have.0 ∙ sym (ap (λ b. cond b (first ∷ filter (On known) all) (filter (On known) all)) none.0),
    passed first all (ahead ++ known ∷ []) works none.1 have.1,
  )

  each_none : (first : Known) (works : List Known) → list_any (λ (one : Known). depends line one first.act.work) works ≡ false
      → AllByRecursion (λ (k : Known). On k first ≡ false) works
  each_none first [] none = tt
  each_none first (k ∷ ks) none = (
    none_left (On k first) (list_any (λ (one : Known). depends line one first.act.work) ks) none,
    each_none first ks (none_right (On k first) (list_any (λ (one : Known). depends line one first.act.work) ks) none),
  )

  module _ (known : Known) where
    have_ahead : (works : List Known) → IsStrictlySortedBy line_cmp works → AllByRecursion IsThere works → HaveAhead line works [] (needed_in line known works)
    unfolding IsStrictlySortedBy
    have_ahead [] up there = tt
    have_ahead (other ∷ others) up there =
        by (is_wanted line known (needed_in line known others) other.act.work) refl (have_ahead others up.1 there.1)
      where
        by : (b : Bool) → is_wanted line known (needed_in line known others) other.act.work ≡ b → HaveAhead line others [] (needed_in line known others)
            → HaveAhead line (other ∷ others) [] (cond b (other ∷ needed_in line known others) (needed_in line known others))
        by true is rest = (sym (none_itself other others there.0 there.1 up.0), taken other others [] (needed_in line known others) rest)
        by false is rest =
            passed other others [] (needed_in line known others)
            (each_none other (needed_in line known others)
            (none_right (depends line known other.act.work) (list_any (λ (one : Known). depends line one other.act.work) (needed_in line known others)) is))
            rest

    -- all on which the work itself depends are needed
    all_on : (works : List Known) → filter (On known) (needed_in line known works) ≡ filter (On known) works
    all_on [] = refl
    all_on (other ∷ others) = by (is_wanted line known (needed_in line known others) other.act.work) refl (all_on others)
      where
        by : (b : Bool) → is_wanted line known (needed_in line known others) other.act.work ≡ b
            → filter (On known) (needed_in line known others) ≡ filter (On known) others
            → filter (On known) (cond b (other ∷ needed_in line known others) (needed_in line known others)) ≡ filter (On known) (other ∷ others)
        by true is rest = ap (λ (ks : List Known). cond (On known other) (other ∷ ks) ks) rest
        by false is rest =
            rest
            ∙ sym (ap (λ b. cond b (other ∷ filter (On known) others) (filter (On known) others))
            (none_left (On known other) (list_any (λ (one : Known). depends line one other.act.work) (needed_in line known others)) is))

  pub needed_ahead : (known : Known) → IsLine line → HaveAhead line line [] (needed_in line known line)
  needed_ahead known is = have_ahead known line is.ascends is.own

  pub needed_on : (known : Known) → filter (On known) (needed_in line known line) ≡ filter (On known) line
  needed_on known = all_on known line
