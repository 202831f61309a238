-- Texts that ascend are told by which they are: two such lists that have the same texts among them are one.
use Rattle.std.proofs.Common.{◌≡◌, ◌∙◌, sym, ap, subst, refl, ℕ, Bool, true, false, true≢false, ◌||◌, List, [], ◌∷◌}
use Rattle.std.specs.Cmp.Lexicographic.{bytes_decides, nat_list_cmp_total, slice_cmp}
use Rattle.std.specs.List.{AllByRecursion, list_any}
use Rattle.std.specs.List.Sorted.{IsStrictlySortedBy}
use Rattle.std.specs.Ordering.{nat_cmp, ordering_reverse}
use Rattle.std.specs.Str.{bytes_eq}
use Rattle.std.specs.declared.cmp.Ordering.{Ordering}
use Rattle.std.specs.declared.cmp.Ordering.TheVariants.{Less, Greater}
use Rattle.law_refs.specs.Names.{is_among}

abbrev order : List ℕ → List ℕ → Ordering
order x y = slice_cmp nat_cmp x y

-- a text stands before each of these
abbrev IsFirst : List ℕ → List (List ℕ) → Type 0
IsFirst x xs = AllByRecursion (λ t. order x t ≡ Less) xs

not_less_both : (x y : List ℕ) → order x y ≡ Less → order y x ≡ Less → ⊥
not_less_both x y first second =
    let no : Less ≡ Greater = sym first ∙ nat_list_cmp_total.antisymm x y ∙ ap ordering_reverse second in cc

-- what is among texts before all of which another stands is behind that
behind_first : (y w : List ℕ) (ys : List (List ℕ)) → IsFirst y ys → is_among w ys ≡ true → order y w ≡ Less
behind_first y w [] all some = absurd (true≢false (sym some))
behind_first y w (t ∷ ts) all some = by (λ more. behind_first y w ts all.1 more) (bytes_eq w t) refl
  where
    by : (is_among w ts ≡ true → order y w ≡ Less) → (b : Bool) → bytes_eq w t ≡ b → order y w ≡ Less
    by later true same = subst (λ v. order y v ≡ Less) (sym ((bytes_decides w t).0 same)) all.0
    by later false other = later (subst (λ b. (b || list_any (bytes_eq w) ts) ≡ true) other some)

here : (x : List ℕ) (xs : List (List ℕ)) → is_among x (x ∷ xs) ≡ true
here x xs = ap (λ b. b || list_any (bytes_eq x) xs) ((bytes_decides x x).1 refl)

not_among : (x w : List ℕ) (xs : List (List ℕ)) → w ≡ x → IsFirst x xs → is_among w xs ≡ false
not_among x w xs same first = by (is_among w xs) refl
  where
    by : (b : Bool) → is_among w xs ≡ b → is_among w xs ≡ false
    by false is = is
    by true is =
        let less : order x x ≡ Less = subst (λ v. order x v ≡ Less) same (behind_first x w xs first is) in
        absurd (not_less_both x x less less)

-- the first of the one is the first of the other
same_head : (x y : List ℕ) (xs ys : List (List ℕ)) → IsFirst x xs → IsFirst y ys → is_among x (y ∷ ys) ≡ true → is_among y (x ∷ xs) ≡ true → x ≡ y
same_head x y xs ys up down first second = by (bytes_eq x y) (bytes_eq y x) refl refl
  where
    by : (a b : Bool) → bytes_eq x y ≡ a → bytes_eq y x ≡ b → x ≡ y
    by true b same other = (bytes_decides x y).0 same
    by false true other same = sym ((bytes_decides y x).0 same)
    by false false one other =
        absurd (not_less_both x y
        (behind_first x y xs up (subst (λ b. (b || list_any (bytes_eq y) xs) ≡ true) other second))
        (behind_first y x ys down (subst (λ b. (b || list_any (bytes_eq x) ys) ≡ true) one first)))

same_tails : (x : List ℕ) (xs ys : List (List ℕ)) → IsFirst x xs → IsFirst x ys → ((w : List ℕ) → is_among w (x ∷ xs) ≡ is_among w (x ∷ ys))
    → (w : List ℕ) → is_among w xs ≡ is_among w ys
same_tails x xs ys up down same w = by (bytes_eq w x) refl
  where
    by : (b : Bool) → bytes_eq w x ≡ b → is_among w xs ≡ is_among w ys
    by true is =
        not_among x w xs ((bytes_decides w x).0 is) up ∙ sym (not_among x w ys ((bytes_decides w x).0 is) down)
    by false other = subst (λ b. (b || list_any (bytes_eq w) xs) ≡ (b || list_any (bytes_eq w) ys)) other (same w)

pub same_members : (xs ys : List (List ℕ)) → IsStrictlySortedBy (slice_cmp nat_cmp) xs → IsStrictlySortedBy (slice_cmp nat_cmp) ys
    → ((w : List ℕ) → is_among w xs ≡ is_among w ys) → xs ≡ ys
unfolding IsStrictlySortedBy
same_members [] [] up down same = refl
same_members [] (y ∷ ys) up down same = absurd (true≢false (sym (here y ys) ∙ sym (same y)))
same_members (x ∷ xs) [] up down same = absurd (true≢false (sym (here x xs) ∙ same x))
same_members (x ∷ xs) (y ∷ ys) up down same =
    let first : x ≡ y = same_head x y xs ys up.0 down.0 (sym (same x) ∙ here x xs) (same y ∙ here y ys) in
    let below : IsFirst x ys = subst (λ v. IsFirst v ys) (sym first) down.0 in
    ap (λ t. t ∷ xs) first
    ∙ ap (λ ts. y ∷ ts) (same_members xs ys up.1 down.1 (same_tails x xs ys up.0 below (λ w. same w ∙ ap (λ v. is_among w (v ∷ ys)) (sym first))))
