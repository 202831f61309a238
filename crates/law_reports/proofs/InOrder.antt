-- Texts in order are told by which they are: two lists in order that have the same texts are one.
use Rattle.std.proofs.Common.{◌≡◌, ◌∙◌, sym, ap, subst, refl, ℕ, suc, ◌<◌, ◌≤◌, Bool, true, false, cond, List, [], ◌∷◌, length, get_or, arith}
use Rattle.std.specs.Prelude.{IsPermutation, IsSorted}
use Rattle.std.specs.Cmp.Lexicographic.{bytes_decides, nat_list_cmp_total, slice_cmp}
use Rattle.std.specs.List.{AllByRecursion, sum_by}
use Rattle.std.specs.Ordering.{is_lt, nat_cmp, ordering_reverse}
use Rattle.std.specs.Str.{bytes_eq}
use Rattle.std.specs.declared.cmp.Ordering.{Ordering}
use Rattle.std.specs.declared.cmp.Ordering.TheVariants.{Less, Equal, Greater}
use Rattle.std.proofs.lemmas.List.Sorted.{ranks_by, sorted_far, sum_by-IsPermutation}
use Rattle.std.proofs.lemmas.List.Sums.{sum_by-cons}
use Rattle.std.proofs.lemmas.Map.Lookups.{exact_bytes}

abbrev lt : List ℕ → List ℕ → Bool
lt x y = is_lt (slice_cmp nat_cmp x y)

-- how often a text stands at a place
unfoldable one : List ℕ → List ℕ → ℕ
one w t = cond (bytes_eq t w) 1 0

one_self : (w : List ℕ) → one w w ≡ 1
unfolding one
one_self w = ap (λ b. cond b 1 0) ((bytes_decides w w).1 refl)

one_other : (w t : List ℕ) → bytes_eq t w ≡ false → one w t ≡ 0
unfolding one
one_other w t other = ap (λ b. cond b 1 0) other

-- no text is less than one before it
abbrev Rises : List (List ℕ) → Type 0
Rises [] = Unit {0}
Rises (x ∷ xs) = AllByRecursion (λ t. lt t x ≡ false) xs × Rises xs

rises : (xs : List (List ℕ)) → ((i j : ℕ) (d : List ℕ) → i ≤ j → j < length xs → lt (get_or xs j d) (get_or xs i d) ≡ false) → Rises xs
rises [] far = tt
rises (x ∷ xs) far = (all xs (λ j d low. far 0 (suc j) d (omega arith) (omega (arith, low))), rises xs (λ i j d le low. far (suc i) (suc j) d (omega (arith, le)) (omega (arith, low))))
  where
    all : (ts : List (List ℕ)) → ((j : ℕ) (d : List ℕ) → j < length ts → lt (get_or ts j d) x ≡ false) → AllByRecursion (λ t. lt t x ≡ false) ts
    all [] each = tt
    all (t ∷ ts) each = (each 0 t (omega arith), all ts (λ j d low. each (suc j) d (omega (arith, low))))

from_sorted : (xs : List (List ℕ)) → IsSorted (slice_cmp nat_cmp) xs → Rises xs
from_sorted xs up = rises xs (λ i j d le low. sorted_far lt (ranks_by nat_list_cmp_total (λ x. x)) xs up i j d le low)

-- of two texts of which neither is less both are one
tied : (r s : Ordering) → r ≡ ordering_reverse s → is_lt r ≡ false → is_lt s ≡ false → r ≡ Equal
tied Less s reversed first second = absurd (let no : true ≡ false = first in cc)
tied Equal s reversed first second = refl
tied Greater Less reversed first second = absurd (let no : true ≡ false = second in cc)
tied Greater Equal reversed first second = absurd (let no : Greater ≡ Equal = reversed in cc)
tied Greater Greater reversed first second = absurd (let no : Greater ≡ Less = reversed in cc)

same_text : (x y : List ℕ) → lt x y ≡ false → lt y x ≡ false → x ≡ y
same_text x y first second =
    exact_bytes x y (tied (slice_cmp nat_cmp x y) (slice_cmp nat_cmp y x) (nat_list_cmp_total.antisymm x y) first second)

not_itself : (x : List ℕ) → lt x x ≡ false
not_itself x = by (lt x x) refl
  where
    by : (b : Bool) → lt x x ≡ b → lt x x ≡ false
    by false is = is
    by true is = (ranks_by nat_list_cmp_total (λ (t : List ℕ). t)).one_way x x is

-- a text that stands among others is not less than what is no greater than each of them
not_below : (y : List ℕ) (ys : List (List ℕ)) → AllByRecursion (λ t. lt t y ≡ false) ys → (w : List ℕ) → 1 ≤ sum_by (one w) ys → lt w y ≡ false
not_below y [] all w some = absurd (let no : 1 ≤ 0 = some in omega (arith, no))
not_below y (t ∷ ts) all w some = by (λ more. not_below y ts all.1 w more) (bytes_eq t w) refl
  where
    by : (1 ≤ sum_by (one w) ts → lt w y ≡ false) → (b : Bool) → bytes_eq t w ≡ b → lt w y ≡ false
    by below true same = subst (λ v. lt v y ≡ false) ((bytes_decides t w).0 same) all.0
    by below false other = below (omega (arith, some, sum_by-cons (one w) t ts, one_other w t other))

abbrev SameCounts : List (List ℕ) → List (List ℕ) → Type 0
SameCounts xs ys = (w : List ℕ) → sum_by (one w) xs ≡ sum_by (one w) ys

first_stands : (x : List ℕ) (xs ys : List (List ℕ)) → SameCounts (x ∷ xs) ys → 1 ≤ sum_by (one x) ys
first_stands x xs ys same = omega (arith, same x, sum_by-cons (one x) x xs, one_self x)

same_list : (xs ys : List (List ℕ)) → SameCounts xs ys → Rises xs → Rises ys → xs ≡ ys
same_list [] [] same up down = refl
same_list [] (y ∷ ys) same up down = absurd (let no : 1 ≤ 0 = first_stands y ys [] (λ w. sym (same w)) in omega (arith, no))
same_list (x ∷ xs) [] same up down = absurd (let no : 1 ≤ 0 = first_stands x xs [] same in omega (arith, no))
same_list (x ∷ xs) (y ∷ ys) same up down =
    let first : x ≡ y =
    same_text x y
    (not_below y (y ∷ ys) (not_itself y, down.0) x (first_stands x xs (y ∷ ys) same))
    (not_below x (x ∷ xs) (not_itself x, up.0) y (first_stands y ys (x ∷ xs) (λ w. sym (same w)))) in
    ap (λ t. t ∷ xs) first
    ∙ ap (λ ts. y ∷ ts) (same_list xs ys (λ w. omega (arith, same w, sum_by-cons (one w) x xs, sum_by-cons (one w) y ys, ap (one w) first)) up.1 down.1)

pub same_in_order : (all xs ys : List (List ℕ)) → IsPermutation all xs → IsPermutation all ys → IsSorted (slice_cmp nat_cmp) xs → IsSorted (slice_cmp nat_cmp) ys → xs ≡ ys
same_in_order all xs ys first second up down =
    same_list xs ys (λ w. sum_by-IsPermutation (one w) all xs first ∙ sym (sum_by-IsPermutation (one w) all ys second)) (from_sorted xs up) (from_sorted ys down)
