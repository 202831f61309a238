-- What stands in an arena still stands after a change elsewhere.
use Rattle.std.proofs.Common.{◌≡◌, ◌∙◌, sym, ap, refl, subst, ℕ, ◌==◌, Bool, true, false, ◌||◌, List, [], ◌∷◌, ◌++◌, Option, Some, None, inl, inr}
use Rattle.std.specs.List.{list_any}
use Rattle.std.specs.Str.{bytes_eq}
use Rattle.std.proofs.lemmas.Bool.{or_cases}
use Rattle.std.proofs.lemmas.List.Folds.{list_any-append}
use Rattle.act_tree.specs.Branches.{Branch, Branches, branch, no_branches, more_branches}
use Rattle.act_tree.specs.Provisions.{Provision}
use Rattle.act_tree.specs.Wids.{wids, all_wids, is_among, one_twice}
use Rattle.act_tree.specs.Arena.{Laid, below_in, name_in, is_hung, Stands, StandAll}
use Rattle.act_tree.proofs.Texts.{same_text, equal_text}

pub or_left : (s t : Bool) → s ≡ true → (s || t) ≡ true
or_left true t held = refl
or_left false t held = absurd cc

pub or_right : (s t : Bool) → t ≡ true → (s || t) ≡ true
or_right true t held = refl
or_right false t held = held

pub none_left : (s t : Bool) → (s || t) ≡ false → s ≡ false
none_left false t none = refl
none_left true t none = none

pub none_right : (s t : Bool) → (s || t) ≡ false → t ≡ false
none_right false t none = none
none_right true t none = absurd cc

pub neither : (s t : Bool) → s ≡ false → t ≡ false → (s || t) ≡ false
neither false t first second = second
neither true t first second = first

pub put_down : (at : ℕ → Option Laid) (number : List ℕ → Option ℕ) (u i : ℕ) (p : Provision) (below : List ℕ) (bs : Branches Provision)
    → at i ≡ Some (record { provision = p; above = u; below = below }) → number p.wid ≡ Some i → StandAll at number i below bs → Stands at number u i (branch p bs)
put_down at number u i p below bs here leads s =
    let same : below ≡ below_in (at i) = sym (ap below_in here) in
    let P : List ℕ → Type 0 = λ ks. StandAll at number i ks bs in
    (here ∙ ap (λ ks. Some (record { provision = p; above = u; below = ks })) same, (leads, subst P same s))

module _ (at next : ℕ → Option Laid) (number after : List ℕ → Option ℕ) where
  -- of wIds of these, the index and what it leads to stay
  pub record Stays (inside : List (List ℕ)) : Type 0 where
    pub numbers : (w : List ℕ) → is_among w inside ≡ true → after w ≡ number w
    pub laid : (k : ℕ) (w : List ℕ) → is_among w inside ≡ true → number w ≡ Some k → name_in (at k) ≡ Some w → next k ≡ at k

  stays_below : (w : List ℕ) (ws : List (List ℕ)) → Stays (w ∷ ws) → Stays ws
  stays_below w ws s = record {
    numbers = λ v found. s.numbers v (or_right (bytes_eq v w) _ found);
    laid = λ k v found. s.laid k v (or_right (bytes_eq v w) _ found);
  }

  pub stays_first : (vs ws : List (List ℕ)) → Stays (vs ++ ws) → Stays vs
  stays_first vs ws s = record {
    numbers = λ v found. s.numbers v (list_any-append (bytes_eq v) vs ws ∙ or_left _ _ found);
    laid = λ k v found. s.laid k v (list_any-append (bytes_eq v) vs ws ∙ or_left _ _ found);
  }

  pub stays_second : (vs ws : List (List ℕ)) → Stays (vs ++ ws) → Stays ws
  stays_second vs ws s = record {
    numbers = λ v found. s.numbers v (list_any-append (bytes_eq v) vs ws ∙ or_right (is_among v vs) _ found);
    laid = λ k v found. s.laid k v (list_any-append (bytes_eq v) vs ws ∙ or_right (is_among v vs) _ found);
  }

  mutual
    pub still_stands : (b : Branch Provision) (u i : ℕ) → Stays (wids b) → Stands at number u i b → Stands next after u i b
    still_stands (branch p below) u i stays s =
        let it : is_among p.wid (p.wid ∷ all_wids below) ≡ true = or_left _ _ (equal_text p.wid p.wid refl) in
        put_down next after u i p (below_in (at i)) below (stays.laid i p.wid it s.1.0 (ap name_in s.0) ∙ s.0) (stays.numbers p.wid it ∙ s.1.0)
        (still_stand below i (below_in (at i)) (stays_below p.wid (all_wids below) stays) s.1.1)

    pub still_stand : (bs : Branches Provision) (u : ℕ) (ids : List ℕ) → Stays (all_wids bs) → StandAll at number u ids bs → StandAll next after u ids bs
    still_stand no_branches u [] stays s = s
    still_stand no_branches u (i ∷ ids) stays s = s
    still_stand (more_branches b bs) u [] stays s = s
    still_stand (more_branches b bs) u (i ∷ ids) stays s =
        (still_stands b u i (stays_first (wids b) (all_wids bs) stays) s.0, still_stand bs u ids (stays_second (wids b) (all_wids bs) stays) s.1)

  hung_on : (k : ℕ) (o : Option Laid) → ((j : ℕ) → list_any (λ i. i == k) (below_in (at j)) ≡ true → below_in (next j) ≡ below_in (at j)) → is_hung at k o ≡ true → is_hung next k o ≡ true
  hung_on k None lists hung = refl
  hung_on k (Some x) lists hung =
      elim (or_cases (x.above == k) (list_any (λ i. i == k) (below_in (at x.above))) hung) [
        | inl own ↦ or_left _ _ own
        | inr found ↦ or_right (x.above == k) _ (ap (list_any (λ i. i == k)) (lists x.above found) ∙ found)
      ]

  -- a number that was hung still is, where it and the lists that name it stay
  pub still_hung : (k : ℕ) → next k ≡ at k → ((j : ℕ) → list_any (λ i. i == k) (below_in (at j)) ≡ true → below_in (next j) ≡ below_in (at j)) → is_hung at k (at k) ≡ true → is_hung next k (next k) ≡ true
  still_hung k same lists hung = ap (is_hung next k) same ∙ hung_on k (at k) lists hung

-- two lists of texts of which none stands twice in both together
pub record Apart (vs ws : List (List ℕ)) : Type 0 where
  pub first : one_twice vs ≡ false
  pub second : one_twice ws ≡ false
  pub between : (w : List ℕ) → is_among w vs ≡ true → is_among w ws ≡ false

pub twice_apart : (vs ws : List (List ℕ)) → one_twice (vs ++ ws) ≡ false → Apart vs ws
twice_apart [] ws told = record { first = refl; second = told; between = λ w found. absurd cc }
twice_apart (v ∷ vs) ws told =
    let rest : Apart vs ws = twice_apart vs ws (none_right _ _ told) in
    let none : (is_among v vs || is_among v ws) ≡ false = sym (list_any-append (bytes_eq v) vs ws) ∙ none_left _ _ told in
    record {
      first = neither (is_among v vs) (one_twice vs) (none_left _ _ none) rest.first;
      second = rest.second;
      between = λ w found. elim (or_cases (bytes_eq w v) (is_among w vs) found) [
        | inl same ↦ ap (λ u. is_among u ws) (same_text w v same) ∙ none_right _ _ none
        | inr later ↦ rest.between w later
      ];
    }

-- texts of which none stands twice, and others that are none of them
pub once_together : (vs ws : List (List ℕ)) → one_twice vs ≡ false → one_twice ws ≡ false → ((w : List ℕ) → is_among w vs ≡ true → is_among w ws ≡ false) → one_twice (vs ++ ws) ≡ false
once_together [] ws first second apart = second
once_together (v ∷ vs) ws first second apart =
    neither (is_among v (vs ++ ws)) _
    (list_any-append (bytes_eq v) vs ws ∙ neither (is_among v vs) _ (none_left _ _ first) (apart v (or_left _ _ (equal_text v v refl))))
    (once_together vs ws (none_right (is_among v vs) _ first) second (λ w found. apart w (or_right (bytes_eq w v) _ found)))
