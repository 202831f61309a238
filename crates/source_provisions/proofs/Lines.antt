-- A line ascends by its order, and whoever is of a later day than a work of it stands before that work.
use Rattle.std.proofs.Common.{◌≡◌, ◌∙◌, sym, ap, refl, ℕ, ◌<◌, Bool, true, false, cond, nat_lt, List, [], ◌∷◌, ◌++◌, Option, Some, None, arith}
use Rattle.std.proofs.lemmas.Bool.Decides.{nat_tests}
use Rattle.std.proofs.lemmas.Cmp.{back_total, nat_cmp_total, on_total, ranked, then_total}
use Rattle.std.specs.Cmp.{IsTotalOrder}
use Rattle.std.specs.Cmp.Lexicographic.{on_texts, slice_cmp}
use Rattle.std.specs.List.{AllByRecursion, find}
use Rattle.std.specs.List.Sorted.{IsStrictlySortedBy}
use Rattle.std.specs.Ordering.{nat_cmp, ordering_then}
use Rattle.std.specs.Str.{bytes_eq}
use Rattle.std.specs.declared.cmp.Ordering.{Ordering}
use Rattle.std.specs.declared.cmp.Ordering.TheVariants.{Less, Equal, Greater}
use Rattle.law_register.specs.declared.law.command.Command.{Command}
use Rattle.law_register.specs.declared.register.known.Known.{Known}
use Rattle.law_register.specs.Answer.Previews.{known_by_law}
use Rattle.law_register.specs.Register.LawList.{works_enacted}
use Rattle.law_register.proofs.InsertedKeys.{inserted_ascends}
use Rattle.law_register.specs.Provisions.Line.{line, line_cmp, line_of, with_work, work_in}
use Rattle.law_register.specs.Provisions.Looking.{is_after}

line_total : IsTotalOrder line_cmp
line_total = then_total (on_total (λ k. k.act.day) (back_total nat_cmp_total)) (on_texts (λ k. k.act.work))

with_ascends : (works : List Known) (known : Option Known) → IsStrictlySortedBy line_cmp works → IsStrictlySortedBy line_cmp (with_work works known)
with_ascends works None up = up
with_ascends works (Some known) up = inserted_ascends line_cmp line_total works known up

all_ascend : (law : List Command) (works : List (List ℕ)) → IsStrictlySortedBy line_cmp (line_of law works)
unfolding IsStrictlySortedBy
all_ascend law [] = tt
all_ascend law (work ∷ works) = with_ascends (line_of law works) (known_by_law law work) (all_ascend law works)

pub lines_ascend : (law : List Command) → IsStrictlySortedBy line_cmp (line law)
unfolding line
lines_ascend law = all_ascend law (works_enacted law)

-- a search ends in the first part, or goes on in the second
module _ {A : Type 0} (test : A → Bool) where
  pub found_in_front : (xs ys : List A) (a : A) → find test xs ≡ Some a → find test (xs ++ ys) ≡ Some a
  found_in_front [] ys a h = absurd (let wrong : None ≡ Some a = h in cc)
  found_in_front (x ∷ xs) ys a h = by (test x) (found_in_front xs ys a) h
    where
      by : (b : Bool) → (find test xs ≡ Some a → find test (xs ++ ys) ≡ Some a) → cond b (Some x) (find test xs) ≡ Some a
          → cond b (Some x) (find test (xs ++ ys)) ≡ Some a
      by true below h = h
      by false below h = below h

  pub found_behind : (xs ys : List A) → find test xs ≡ None → find test (xs ++ ys) ≡ find test ys
  found_behind [] ys h = refl
  found_behind (x ∷ xs) ys h = by (test x) (found_behind xs ys) h
    where
      by : (b : Bool) → (find test xs ≡ None → find test (xs ++ ys) ≡ find test ys) → cond b (Some x) (find test xs) ≡ None
          → cond b (Some x) (find test (xs ++ ys)) ≡ find test ys
      by true below h = absurd (let wrong : Some x ≡ None = h in cc)
      by false below h = below h

-- what comes behind a work is not of a later day
not_later : (a b : ℕ) (r : Ordering) → ordering_then (nat_cmp b a) r ≡ Less → nat_lt a b ≡ false
not_later a b r h = by (nat_cmp b a) refl h
  where
    below : b < a → nat_lt a b ≡ false
    below k = grind (arith, nat_tests)

    same : b ≡ a → nat_lt a b ≡ false
    same k = grind (arith, nat_tests)

    by : (o : Ordering) → nat_cmp b a ≡ o → ordering_then o r ≡ Less → nat_lt a b ≡ false
    by Less e h = below (ranked b a Less (sym e))
    by Equal e h = same (ranked b a Equal (sym e))
    by Greater e h = absurd (let wrong : Greater ≡ Less = h in cc)

pub itself_not_later : (a : ℕ) → nat_lt a a ≡ false
itself_not_later a = grind (arith, nat_tests)

pub not_later_behind : (known next : Known) → line_cmp known next ≡ Less → nat_lt known.act.day next.act.day ≡ false
not_later_behind known next below = not_later known.act.day next.act.day (slice_cmp nat_cmp known.act.work next.act.work) below

behind_not_after : (known : Known) (work : List ℕ) (behind : List Known) → AllByRecursion (λ y. line_cmp known y ≡ Less) behind
    → is_after known.act.day (work_in work behind) ≡ false
behind_not_after known work [] below = refl
behind_not_after known work (next ∷ behind) below = by (bytes_eq next.act.work work) (behind_not_after known work behind below.1)
  where
    by : (b : Bool) → is_after known.act.day (work_in work behind) ≡ false → is_after known.act.day (cond b (Some next) (work_in work behind)) ≡ false
    by true rest = not_later_behind known next below.0
    by false rest = rest

-- those behind a work of a line come after it
pub all_behind : (front : List Known) (known : Known) (behind : List Known) → IsStrictlySortedBy line_cmp (front ++ known ∷ behind)
    → AllByRecursion (λ y. line_cmp known y ≡ Less) behind
unfolding IsStrictlySortedBy
all_behind [] known behind up = up.0
all_behind (first ∷ front) known behind up = all_behind front known behind up.1

-- what is not found before a work of a line is not of a later day
pub not_after : (front : List Known) (known : Known) (behind : List Known) → IsStrictlySortedBy line_cmp (front ++ known ∷ behind) → (work : List ℕ)
    → work_in work front ≡ None → is_after known.act.day (work_in work (front ++ known ∷ behind)) ≡ false
not_after front known behind up work none =
    ap (is_after known.act.day) (found_behind (λ (k : Known). bytes_eq k.act.work work) front (known ∷ behind) none)
    ∙ by (bytes_eq known.act.work work) (behind_not_after known work behind (all_behind front known behind up))
  where
    by : (b : Bool) → is_after known.act.day (work_in work behind) ≡ false → is_after known.act.day (cond b (Some known) (work_in work behind)) ≡ false
    by true rest = itself_not_later known.act.day
    by false rest = rest
