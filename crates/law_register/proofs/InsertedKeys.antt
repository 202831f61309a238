-- What a key does that takes its place in an ascending list, once.
use Rattle.std.proofs.Common.{◌≡◌, ◌∙◌, ap, refl, Bool, true, false, ◌||◌, List, [], ◌∷◌}
use Rattle.std.specs.BTreeSet.{insert_key}
use Rattle.std.specs.Cmp.{IsTotalOrder}
use Rattle.std.specs.List.{AllByRecursion, list_any}
use Rattle.std.specs.List.Sorted.{IsStrictlySortedBy}
use Rattle.std.specs.Ordering.{match_ordering, ordering_reverse}
use Rattle.std.specs.declared.cmp.Ordering.{Ordering}
use Rattle.std.specs.declared.cmp.Ordering.TheVariants.{Less, Equal, Greater}

absorbed : (a b c : Bool) → a ≡ b → (b || c) ≡ (a || (b || c))
absorbed true true c h = refl
absorbed false b c h = refl
absorbed true false c h = absurd (let wrong : true ≡ false = h in cc)

swapped : (a b c : Bool) → (a || (b || c)) ≡ (b || (a || c))
swapped true true c = refl
swapped true false c = refl
swapped false b c = refl

module _ {K : Type 0} (cmp : K → K → Ordering) where
  -- a test that tells no two equal keys apart passes where it passes for the key or for one of the others
  pub inserted_any : (test : K → Bool) → ((x y : K) → cmp x y ≡ Equal → test x ≡ test y) → (ks : List K) (k : K)
      → list_any test (insert_key cmp ks k) ≡ (test k || list_any test ks)
  inserted_any test alike [] k = refl
  inserted_any test alike (x ∷ xs) k = by (cmp k x) refl (inserted_any test alike xs k)
    where
      by : (r : Ordering) → cmp k x ≡ r → list_any test (insert_key cmp xs k) ≡ (test k || list_any test xs)
          → list_any test (match_ordering r (k ∷ x ∷ xs) (x ∷ xs) (x ∷ insert_key cmp xs k)) ≡ (test k || (test x || list_any test xs))
      by Less e below = refl
      by Equal e below = absorbed (test k) (test x) (list_any test xs) (alike k x e)
      by Greater e below = ap (λ b. test x || b) below ∙ swapped (test x) (test k) (list_any test xs)

  module _ (total : IsTotalOrder cmp) where
    still_below : (x k : K) (ks : List K) → cmp x k ≡ Less → AllByRecursion (λ y. cmp x y ≡ Less) ks → AllByRecursion (λ y. cmp x y ≡ Less) (insert_key cmp ks k)
    still_below x k [] h below = (h, tt)
    still_below x k (y ∷ ys) h below = by (cmp k y) (still_below x k ys h below.1)
      where
        by : (r : Ordering) → AllByRecursion (λ z. cmp x z ≡ Less) (insert_key cmp ys k)
            → AllByRecursion (λ z. cmp x z ≡ Less) (match_ordering r (k ∷ y ∷ ys) (y ∷ ys) (y ∷ insert_key cmp ys k))
        by Less rest = (h, below)
        by Equal rest = below
        by Greater rest = (below.0, rest)

    below_all : (k x : K) (ks : List K) → cmp k x ≡ Less → AllByRecursion (λ y. cmp x y ≡ Less) ks → AllByRecursion (λ y. cmp k y ≡ Less) ks
    below_all k x [] h below = tt
    below_all k x (y ∷ ys) h below = (total.trans k x y h below.0, below_all k x ys h below.1)

    -- the keys still ascend
    pub inserted_ascends : (ks : List K) (k : K) → IsStrictlySortedBy cmp ks → IsStrictlySortedBy cmp (insert_key cmp ks k)
    unfolding IsStrictlySortedBy
    inserted_ascends [] k up = (tt, tt)
    inserted_ascends (x ∷ xs) k up = by (cmp k x) refl (inserted_ascends xs k up.1)
      where
        by : (r : Ordering) → cmp k x ≡ r → IsStrictlySortedBy cmp (insert_key cmp xs k)
            → IsStrictlySortedBy cmp (match_ordering r (k ∷ x ∷ xs) (x ∷ xs) (x ∷ insert_key cmp xs k))
        by Less e rest = ((e, below_all k x xs e up.0), up)
        by Equal e rest = up
        by Greater e rest = (still_below x k xs (total.antisymm x k ∙ ap ordering_reverse e) up.0, rest)
