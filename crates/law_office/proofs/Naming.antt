-- The works that are asked, as they are found among what is kept: each stands once, with the day of its act.
use Rattle.std.proofs.Common.{◌≡◌, ◌∙◌, sym, ap, ap₂, subst, refl, ℕ, ◌+◌, Bool, true, false, cond, ◌&&◌, ◌||◌, not, get_or, List, [], ◌∷◌, ◌++◌, Option, Some, None, option_map, arith}
use Rattle.std.proofs.lemmas.List.Elements.{All-from_recursion, recursion_from_All}
use Rattle.std.proofs.lemmas.List.Folds.{list_any-append}
use Rattle.std.proofs.lemmas.List.Sorted.{All-permutation, list_any-IsPermutation}
use Rattle.std.proofs.lemmas.Cmp.{back_total, nat_cmp_total, on_total, then_total}
use Rattle.std.proofs.lemmas.Map.Keys.{IsDistinct-IsPermutation, apart_from_distinct, sorted_from_all_adjacent}
use Rattle.std.specs.Cmp.{IsTotalOrder}
use Rattle.std.specs.Cmp.Lexicographic.{on_texts, slice_cmp, texts_ties}
use Rattle.std.specs.List.{AllByRecursion, IsDistinct, list_any}
use Rattle.std.specs.List.Sorted.{IsStrictlySortedBy}
use Rattle.std.specs.Ordering.{is_eq, is_lt, nat_cmp, ordering_reverse}
use Rattle.std.specs.Prelude.{IsPermutation, IsSorted}
use Rattle.std.specs.Str.{bytes_eq}
use Rattle.std.specs.declared.cmp.Ordering.{Ordering}
use Rattle.std.specs.declared.cmp.Ordering.TheVariants.{Less, Equal, Greater}
use Rattle.law_register.specs.declared.register.known.Known.{Known}
use Rattle.law_register.proofs.Puts.{bytes_are, bytes_either, bytes_same}
use Rattle.source_provisions.proofs.LeftOut.{last_equal}
use Rattle.version_cache.specs.Works.{WorkValue}
use Rattle.law_office.specs.declared.line.DatedWork.{DatedWork}
use Rattle.law_office.specs.Asked.{AreAsked, AreOnce, IsDated, all_naming, dated_if, dated_known, is_asked, is_that, known_then, naming_if}
use Rattle.law_office.specs.Line.{line_cmp}
use Rattle.law_office.specs.Noting.{names_one}
use Rattle.law_office.specs.Tables.{Kept}
use Rattle.law_office.proofs.InLine.{works_of}

abbrev is_work : List ℕ → DatedWork → Bool
is_work work one = bytes_eq one.work work

and_false : (a : Bool) → (a && false) ≡ false
and_false true = refl
and_false false = refl

or_false : (a : Bool) → (a || false) ≡ a
or_false true = refl
or_false false = refl

any_dated : (c : Option Known) (w : List ℕ) → list_any (is_work w) (dated_if c) ≡ is_that c w
any_dated None w = refl
any_dated (Some known) w = or_false (bytes_eq known.act.work w)

all_and_all : {A : Type 0} (P : A → Type 0) (xs ys : List A) → AllByRecursion P xs → AllByRecursion P ys → AllByRecursion P (xs ++ ys)
all_and_all P [] ys p q = q
all_and_all P (x ∷ xs) ys p q = (p.0, all_and_all P xs ys p.1 q)

dated_that : (kept : Kept) (c : Option Known) → AllByRecursion (IsDated kept c) (dated_if c)
dated_that kept None = tt
dated_that kept (Some k) =
    ((k, ap (λ (b : Bool). cond b (Some k) (option_map (λ (one : WorkValue). one.known) (kept k.act.work))) (bytes_are k.act.work k.act.work refl), refl), tt)

abbrev is_one : DatedWork → DatedWork → Bool
is_one a b = bytes_eq a.work b.work

apart_that : (c : Option Known) (k : List ℕ) → is_that c k ≡ false → AllByRecursion (λ (d : DatedWork). bytes_eq k d.work ≡ false) (dated_if c)
apart_that None k other = tt
apart_that (Some known) k other = (bytes_either k known.act.work ∙ other, tt)

one_of_if : (c : Option Known) → IsDistinct is_one (dated_if c)
unfolding IsDistinct
one_of_if None = tt
one_of_if (Some known) = (tt, tt)

module _ (kept : Kept) (c : Option Known) where
  -- the work of this name is named by itself, where what is kept of it says so and it is not the one that is concerned
  own_named : (w : List ℕ) (k : Option WorkValue) → list_any (is_work w) (naming_if c w k) ≡ (names_one k && not (is_that c w))
  own_named w None = refl
  own_named w (Some one) = by (one.names && not (is_that c w))
    where
      by : (b : Bool) → list_any (is_work w) (cond b (dated_known w one.known ∷ []) []) ≡ b
      by true = ap (λ (x : Bool). x || false) (bytes_are w w refl)
      by false = refl

  else_named : (w v : List ℕ) (k : Option WorkValue) → bytes_eq v w ≡ false → list_any (is_work w) (naming_if c v k) ≡ false
  else_named w v None other = refl
  else_named w v (Some one) other = by (one.names && not (is_that c v))
    where
      by : (b : Bool) → list_any (is_work w) (cond b (dated_known v one.known ∷ []) []) ≡ false
      by true = ap (λ (x : Bool). x || false) other
      by false = refl

  one_named : (w v : List ℕ) (b : Bool) → bytes_eq w v ≡ b
      → list_any (is_work w) (naming_if c v (kept v)) ≡ (b && (names_one (kept w) && not (is_that c w)))
  one_named w v true same = ap (λ (x : List ℕ). list_any (is_work w) (naming_if c x (kept x))) (sym (bytes_same w v same)) ∙ own_named w (kept w)
  one_named w v false other = else_named w v (kept v) (bytes_either v w ∙ other)

  grouped : (a b x : Bool) → ((a && x) || (b && x)) ≡ ((a || b) && x)
  grouped true true true = refl
  grouped true true false = refl
  grouped true false true = refl
  grouped true false false = refl
  grouped false true true = refl
  grouped false true false = refl
  grouped false false true = refl
  grouped false false false = refl

  any_named : (w : List ℕ) (ws : List (List ℕ))
      → list_any (is_work w) (all_naming kept c ws) ≡ (list_any (bytes_eq w) ws && (names_one (kept w) && not (is_that c w)))
  any_named w [] = refl
  any_named w (v ∷ vs) =
      list_any-append (is_work w) (naming_if c v (kept v)) (all_naming kept c vs)
      ∙ ap₂ (λ (x y : Bool). x || y) (one_named w v (bytes_eq w v) refl) (any_named w vs)
      ∙ grouped (bytes_eq w v) (list_any (bytes_eq w) vs) (names_one (kept w) && not (is_that c w))

  -- each work that is asked is named, and no other
  all_asked : (ws : List (List ℕ)) → ((v : List ℕ) → names_one (kept v) ≡ true → list_any (bytes_eq v) ws ≡ true) → (w : List ℕ)
      → list_any (is_work w) (all_naming kept c ws ++ dated_if c) ≡ is_asked kept c w
  all_asked ws named w =
      list_any-append (is_work w) (all_naming kept c ws) (dated_if c)
      ∙ ap₂ (λ (x y : Bool). x || y) (any_named w ws) (any_dated c w)
      ∙ by (names_one (kept w)) refl (is_that c w)
    where
      both : (t : Bool) → ((true && (true && not t)) || t) ≡ (t || true)
      both true = refl
      both false = refl

      late : (t : Bool) → (false || t) ≡ (t || false)
      late true = refl
      late false = refl

      by : (n : Bool) → names_one (kept w) ≡ n → (t : Bool) → ((list_any (bytes_eq w) ws && (n && not t)) || t) ≡ (t || n)
      by true is t = ap (λ (x : Bool). (x && (true && not t)) || t) (named w is) ∙ both t
      by false is t = ap (λ (x : Bool). x || t) (and_false (list_any (bytes_eq w) ws)) ∙ late t

  one_dated : (v : List ℕ) (k : Option WorkValue) → kept v ≡ k → AllByRecursion (IsDated kept c) (naming_if c v k)
  one_dated v None is = tt
  one_dated v (Some one) is = by one.names (is_that c v) refl
    where
      known : is_that c v ≡ false → known_then kept c v ≡ Some one.known
      known other =
          ap (λ (b : Bool). cond b c (option_map (λ (o : WorkValue). o.known) (kept v))) other ∙ ap (option_map (λ (o : WorkValue). o.known)) is

      by : (n t : Bool) → is_that c v ≡ t → AllByRecursion (IsDated kept c) (cond (n && not t) (dated_known v one.known ∷ []) [])
      by true true that = tt
      by true false other = ((one.known, known other, refl), tt)
      by false t that = tt

  dated_named : (ws : List (List ℕ)) → AllByRecursion (IsDated kept c) (all_naming kept c ws)
  dated_named [] = tt
  dated_named (v ∷ vs) =
      all_and_all (IsDated kept c) (naming_if c v (kept v)) (all_naming kept c vs) (one_dated v (kept v) refl) (dated_named vs)

  -- no two have one name
  apart_named : (k : List ℕ) (ws : List (List ℕ)) → AllByRecursion (λ (y : List ℕ). bytes_eq k y ≡ false) ws
      → AllByRecursion (λ (d : DatedWork). bytes_eq k d.work ≡ false) (all_naming kept c ws)
  apart_named k [] all = tt
  apart_named k (v ∷ vs) all =
      all_and_all (λ (d : DatedWork). bytes_eq k d.work ≡ false) (naming_if c v (kept v)) (all_naming kept c vs) (if_kept (kept v)) (apart_named k vs all.1)
    where
      by : (one : WorkValue) (b : Bool) → AllByRecursion (λ (d : DatedWork). bytes_eq k d.work ≡ false) (cond b (dated_known v one.known ∷ []) [])
      by one true = (all.0, tt)
      by one false = tt

      if_kept : (o : Option WorkValue) → AllByRecursion (λ (d : DatedWork). bytes_eq k d.work ≡ false) (naming_if c v o)
      if_kept None = tt
      if_kept (Some one) = by one (one.names && not (is_that c v))

  distinct_named : (ws : List (List ℕ)) → IsDistinct bytes_eq ws → IsDistinct is_one (all_naming kept c ws ++ dated_if c)
  unfolding IsDistinct
  distinct_named [] apart = one_of_if c
  distinct_named (v ∷ vs) apart = if_kept (kept v) (distinct_named vs apart.1)
    where
      by : (one : WorkValue) (n t : Bool) → is_that c v ≡ t → IsDistinct is_one (all_naming kept c vs ++ dated_if c)
          → IsDistinct is_one ((cond (n && not t) (dated_known v one.known ∷ []) [] ++ all_naming kept c vs) ++ dated_if c)
      by one true true is rest = rest
      by one true false is rest =
          (all_and_all (λ (d : DatedWork). bytes_eq v d.work ≡ false) (all_naming kept c vs) (dated_if c) (apart_named v vs apart.0) (apart_that c v is), rest)
      by one false t is rest = rest

      if_kept : (o : Option WorkValue) → IsDistinct is_one (all_naming kept c vs ++ dated_if c)
          → IsDistinct is_one ((naming_if c v o ++ all_naming kept c vs) ++ dated_if c)
      if_kept None rest = rest
      if_kept (Some one) rest = by one one.names (is_that c v) refl rest

-- works in line of which no two have one name are strictly in line
pub dated_total : IsTotalOrder line_cmp
dated_total = then_total (on_total (λ d. d.day.0) (back_total nat_cmp_total)) (on_texts (λ d. d.work))

below : (a b : DatedWork) → is_lt (line_cmp b a) ≡ false → bytes_eq a.work b.work ≡ false → line_cmp a b ≡ Less
below a b not_less other = by (line_cmp a b) refl
  where
    by : (o : Ordering) → line_cmp a b ≡ o → line_cmp a b ≡ Less
    by Less is = is
    by Equal is = absurd (let wrong : true ≡ false = sym (tied is) ∙ other in cc)
      where
        tied : line_cmp a b ≡ Equal → bytes_eq a.work b.work ≡ true
        tied same = texts_ties a.work b.work ∙ ap is_eq (last_equal (nat_cmp b.day.0 a.day.0) (slice_cmp nat_cmp a.work b.work) same)
    by Greater is =
        absurd (let wrong : true ≡ false = sym (ap is_lt (dated_total.antisymm b a ∙ ap ordering_reverse is)) ∙ not_less in cc)

once_of : (names : List DatedWork) → IsDistinct is_one names → AreOnce (works_of names)
unfolding IsDistinct
once_of [] apart = tt
once_of (d ∷ ds) apart = (none ds apart.0, once_of ds apart.1)
  where
    none : (xs : List DatedWork) → AllByRecursion (λ (y : DatedWork). is_one d y ≡ false) xs → list_any (λ (other : List ℕ). bytes_eq other d.work) (works_of xs) ≡ false
    none [] all = refl
    none (x ∷ xs) all =
        ap (λ (b : Bool). b || list_any (λ (other : List ℕ). bytes_eq other d.work) (works_of xs)) (bytes_either x.work d.work ∙ all.0) ∙ none xs all.1

pub are_asked : (kept : Kept) (c : Option Known) (ws : List (List ℕ)) (found names : List DatedWork) → IsDistinct bytes_eq ws
    → ((v : List ℕ) → names_one (kept v) ≡ true → list_any (bytes_eq v) ws ≡ true)
    → found ≡ all_naming kept c ws ++ dated_if c → IsPermutation found names → IsSorted line_cmp names → AreAsked kept c names
are_asked kept c ws found names apart named is moved sorted =
    let all : List DatedWork = all_naming kept c ws ++ dated_if c in
    let moves : IsPermutation all names = subst (λ (xs : List DatedWork). IsPermutation xs names) is moved in
    let distinct : IsDistinct is_one names =
    IsDistinct-IsPermutation is_one (λ x y. bytes_either x.work y.work) all names moves (distinct_named kept c ws apart) in
    record {
      all = λ work. sym (list_any-IsPermutation (is_work work) all names moves) ∙ all_asked kept c ws named work;
      order = in_order names distinct sorted;
      once = once_of names distinct;
      dated = recursion_from_All (IsDated kept c) names
          (All-permutation (IsDated kept c) all names moves
          (All-from_recursion (IsDated kept c) all
          (all_and_all (IsDated kept c) (all_naming kept c ws) (dated_if c) (dated_named kept c ws) (dated_that kept c))));
    }
  where
    in_order : (xs : List DatedWork) → IsDistinct is_one xs → IsSorted line_cmp xs → IsStrictlySortedBy line_cmp xs
    in_order [] distinct sorted = sorted_from_all_adjacent dated_total [] (record { day = record { 0 = 0 }; work = [] }) (λ k within. absurd (omega (arith, within)))
    in_order (x ∷ xs) distinct sorted =
        sorted_from_all_adjacent dated_total (x ∷ xs) x
        (λ k within. below (get_or (x ∷ xs) k x) (get_or (x ∷ xs) (k + 1) x) (sorted k x (omega arith) within) (apart_from_distinct is_one (x ∷ xs) k (k + 1) x distinct (omega arith) within))
