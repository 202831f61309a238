-- Numbers of a list get another one right above them, one after another; and what comes of it where a list is set too.
use Rattle.std.proofs.Common.{◌≡◌, ◌∙◌, sym, ap, refl, subst, ℕ, zero, suc, ◌+◌, ◌<◌, ◌≤◌, ◌==◌, true, false, ◌||◌, List, [], ◌∷◌, ◌++◌, take, drop, get_or, length, length-take, Option, Some, None, inl, inr, arith}
use Rattle.std.specs.List.{list_any}
use Rattle.std.proofs.lemmas.Bool.{cases_Bool, cases_eq, or_cases, eq-eqb, ne_eqb}
use Rattle.std.proofs.lemmas.List.{take_more, drop-append-le}
use Rattle.std.proofs.lemmas.List.Folds.{list_any-append}
use Rattle.act_tree.specs.declared.arena.Slot.{Slot}
use Rattle.act_tree.specs.Slots.{laid}
use Rattle.act_tree.proofs.LaidDown.{laid_slot}
use Rattle.act_tree.specs.Provisions.{Own}
use Rattle.act_tree.specs.Arena.{Laid, provision_in, above_in, below_in}
use Rattle.act_tree.specs.Moved.{IsFilled, CanJoin}
use Rattle.act_tree.specs.Relisted.{IsRaised, IsRelisted}
use Rattle.act_tree.specs.TakenOff.{with_above, IsTakenOff}
use Rattle.act_tree.proofs.Frames.{or_left, none_left, none_right, neither}
use Rattle.act_tree.proofs.Relistings.{own_above, below_kept}
use Rattle.act_tree.proofs.Times.{only_one, other_one}

-- those of a list, from one place up to another, have others right above them; and the list below a number stays
pub record FirstRaised (at now : ℕ → Option Laid) (i : ℕ) (ks : List ℕ) (start : ℕ) (over : ℕ → ℕ) (n : ℕ) : Type 0 where
  pub list : below_in (now i) ≡ below_in (at i)
  pub raised : (k : ℕ) → list_any (λ j. j == k) (drop start (take n ks)) ≡ true → now k ≡ with_above (over k) (at k)
  pub others : (k : ℕ) → list_any (λ j. j == k) (drop start (take n ks)) ≡ false → now k ≡ at k
  pub from : start ≤ n

none_left_over : (start : ℕ) (ks : List ℕ) → drop start (take start ks) ≡ []
none_left_over zero ks = refl
none_left_over (suc start) [] = refl
none_left_over (suc start) (k ∷ ks) = none_left_over start ks

pub none_raised : (at : ℕ → Option Laid) (i : ℕ) (ks : List ℕ) (start : ℕ) (over : ℕ → ℕ) → FirstRaised at at i ks start over start
none_raised at i ks start over = record {
  list = refl;
  raised = λ k found. absurd (let none : list_any (λ j. j == k) (drop start (take start ks)) ≡ false = ap (list_any (λ j. j == k)) (none_left_over start ks) in cc);
  others = λ k none. refl;
  from = omega arith;
}

again : (u v : ℕ) (o : Option Laid) → with_above u (with_above v o) ≡ with_above u o
again u v None = refl
again u v (Some x) = refl

pub one_raised : (at now next : ℕ → Option Laid) (i : ℕ) (ks : List ℕ) (start : ℕ) (over : ℕ → ℕ) (n c : ℕ) → FirstRaised at now i ks start over n → n < length ks → c ≡ get_or ks n c
    → next c ≡ with_above (over c) (now c) → ((k : ℕ) → (k ≡ c → ⊥) → next k ≡ now k) → FirstRaised at next i ks start over (n + 1)
one_raised at now next i ks start over n c first within it here others =
    let from : start ≤ n = first.from in
    let longer : drop start (take (n + 1) ks) ≡ drop start (take n ks) ++ c ∷ [] =
    ap (drop start) (take_more ks n c within ∙ ap (λ j. take n ks ++ j ∷ []) (sym it)) ∙ drop-append-le start (take n ks) (c ∷ []) (omega (arith, length-take n ks)) in
    let both : (k : ℕ) → list_any (λ j. j == k) (drop start (take (n + 1) ks)) ≡ (list_any (λ j. j == k) (drop start (take n ks)) || list_any (λ j. j == k) (c ∷ [])) =
    λ k. ap (list_any (λ j. j == k)) longer ∙ list_any-append (λ j. j == k) (drop start (take n ks)) (c ∷ []) in
    let now_raised : next c ≡ with_above (over c) (at c) = here ∙ elim (cases_Bool (list_any (λ j. j == c) (drop start (take n ks)))) [
      | inl found ↦ ap (with_above (over c)) (first.raised c found) ∙ again (over c) (over c) (at c)
      | inr none ↦ ap (with_above (over c)) (first.others c none)
    ] in
    record {
      list = elim (cases_eq i c) [
        | inl same ↦ ap (λ k. below_in (next k)) same ∙ ap below_in here ∙ below_kept (over c) (now c) ∙ sym (ap (λ k. below_in (now k)) same) ∙ first.list
        | inr other ↦ ap below_in (others i other) ∙ first.list
      ];
      raised = λ k found. elim (cases_eq k c) [
        | inl same ↦ ap next same ∙ now_raised ∙ sym (ap (λ j. with_above (over j) (at j)) same)
        | inr other ↦ elim (or_cases (list_any (λ j. j == k) (drop start (take n ks))) (list_any (λ j. j == k) (c ∷ [])) (sym (both k) ∙ found)) [
          | inl before ↦ others k other ∙ first.raised k before
          | inr last ↦ absurd (let never : list_any (λ j. j == k) (c ∷ []) ≡ false = neither (c == k) false (ne_eqb c k (λ same. other (sym same))) refl in cc)
        ]
      ];
      others = λ k none.
          let parts : (list_any (λ j. j == k) (drop start (take n ks)) || list_any (λ j. j == k) (c ∷ [])) ≡ false = sym (both k) ∙ none in
          others k (λ same. let told : list_any (λ j. j == k) (c ∷ []) ≡ true = or_left (c == k) false (eq-eqb c k (sym same)) in let never : list_any (λ j. j == k) (c ∷ []) ≡ false = none_right _ _ parts in cc)
          ∙ first.others k (none_left _ _ parts);
      from = omega arith;
    }

pub all_raised : (at now : ℕ → Option Laid) (i : ℕ) (ks : List ℕ) (start : ℕ) (over : ℕ → ℕ) (n : ℕ) → FirstRaised at now i ks start over n → take n ks ≡ ks → IsRaised at now (drop start ks) over
all_raised at now i ks start over n first all = record {
  raised = λ k found. first.raised k (ap (λ js. list_any (λ j. j == k) (drop start js)) all ∙ found);
  others = λ k none. first.others k (ap (λ js. list_any (λ j. j == k) (drop start js)) all ∙ none);
}

-- a number gets a list, and those of it that come have it right above them
pub relisted_in : (at mid next : ℕ → Option Laid) (u : ℕ) (own : Own) (come list : List ℕ) → IsFilled at mid u own list → list_any (λ j. j == u) come ≡ false → IsRaised mid next come (λ k. u) → IsRelisted at next u own [] come list
relisted_in at mid next u own come list filled out raised = record {
  here = raised.others u out ∙ filled.here;
  left = λ k found. absurd cc;
  came = λ k found. raised.raised k found ∙ ap (with_above u) (filled.others k (λ same. let never : list_any (λ j. j == k) come ≡ false = ap (λ l. list_any (λ j. j == l) come) same ∙ out in cc));
  others = λ k far _ none. raised.others k none ∙ filled.others k far;
}

-- one is raised
pub raised_one : (at next : ℕ → Option Laid) (n u : ℕ) → next n ≡ with_above u (at n) → ((k : ℕ) → (k ≡ n → ⊥) → next k ≡ at k) → IsRaised at next (n ∷ []) (λ k. u)
raised_one at next n u here others = record {
  raised = λ k found. (let same : n ≡ k = only_one n k found in ap next (sym same) ∙ here ∙ ap (λ j. with_above u (at j)) same);
  others = λ k none. others k (other_one n k none);
}

-- some are let go, and a number keeps the others
pub relisted_left : (at mid next : ℕ → Option Laid) (u : ℕ) (own : Own) (gone list : List ℕ) → IsRaised at mid gone (λ k. k) → list_any (λ j. j == u) gone ≡ false → IsFilled mid next u own list → IsRelisted at next u own gone [] list
relisted_left at mid next u own gone list raised out filled = record {
  here = filled.here ∙ ap (λ o. Some (record { provision = record (provision_in o) { own = own }; above = above_in o; below = list })) (raised.others u out);
  left = λ k found. filled.others k (λ same. let never : list_any (λ j. j == k) gone ≡ false = ap (λ l. list_any (λ j. j == l) gone) same ∙ out in cc) ∙ raised.raised k found;
  came = λ k found. absurd cc;
  others = λ k far none _. filled.others k far ∙ raised.others k none;
}

-- a number gets a list, and all of it is settled; those that do not come were below the number
pub relisted_came : (at mid next : ℕ → Option Laid) (u : ℕ) (own : Own) (come list : List ℕ) → IsFilled at mid u own list → list_any (λ j. j == u) list ≡ false → IsRaised mid next list (λ k. u)
    → ((k : ℕ) → list_any (λ j. j == k) come ≡ true → list_any (λ j. j == k) list ≡ true)
    → ((k : ℕ) → list_any (λ j. j == k) list ≡ true → list_any (λ j. j == k) come ≡ false → above_in (at k) ≡ u) → IsRelisted at next u own [] come list
relisted_came at mid next u own come list filled out raised listed below =
    let far : (k : ℕ) → list_any (λ j. j == k) list ≡ true → k ≡ u → ⊥ = λ k found same. let never : list_any (λ j. j == k) list ≡ false = ap (λ l. list_any (λ j. j == l) list) same ∙ out in cc in
    let up : (k : ℕ) → list_any (λ j. j == k) list ≡ true → next k ≡ with_above u (at k) = λ k found. raised.raised k found ∙ ap (with_above u) (filled.others k (far k found)) in
    record {
      here = raised.others u out ∙ filled.here;
      left = λ k found. absurd cc;
      came = λ k found. up k (listed k found);
      others = λ k other _ none. elim (cases_Bool (list_any (λ j. j == k) list)) [
        | inl found ↦ up k found ∙ ap (λ v. with_above v (at k)) (sym (below k found none)) ∙ own_above (at k)
        | inr not_listed ↦ raised.others k not_listed ∙ filled.others k other
      ];
    }

-- a number is taken off and lets those below it go, another one is filled, and those below that one are settled
pub joined_of : (at off bare filled next : ℕ → Option Laid) (size i x : ℕ) (own : Own) (below : List ℕ) → CanJoin at size i x below → IsTakenOff at off x → IsRelisted off bare x (provision_in (off x)).own (below_in (off x)) [] []
    → IsFilled bare filled i own below → IsRaised filled next (below_in (filled i)) (λ k. i) → IsRelisted bare next i own [] (below_in (off x)) below
joined_of at off bare filled next size i x own below may taken emptied fill raised =
    let list : below_in (filled i) ≡ below = ap below_in fill.here in
    let lists : below_in (off x) ≡ below_in (at x) = ap below_in taken.here ∙ below_kept x (at x) in
    let P : List ℕ → Type 0 = λ ks. IsRaised filled next ks (λ k. i) in
    relisted_came bare filled next i own (below_in (off x)) below fill may.outside (subst P list raised)
    (λ k found. may.taken_in k (sym (ap (list_any (λ j. j == k)) lists) ∙ found))
    (λ k found none.
    let not_x : k ≡ x → ⊥ = λ same. let never : list_any (λ j. j == k) below ≡ false = ap (λ l. list_any (λ j. j == l) below) same ∙ may.next_outside in cc in
    let not_over : k ≡ above_in (at x) → ⊥ = λ same. let never : list_any (λ j. j == k) below ≡ false = ap (λ l. list_any (λ j. j == l) below) same ∙ may.above_outside in cc in
    ap above_in (emptied.others k not_x none refl ∙ taken.others k not_x not_over) ∙ may.own k found (sym (ap (list_any (λ j. j == k)) lists) ∙ none))

-- what is taken off is not right below itself
pub not_own : (at : ℕ → Option Laid) (size i x : ℕ) (below : List ℕ) → CanJoin at size i x below → list_any (λ j. j == x) (below_in (at x)) ≡ false
not_own at size i x below may =
    elim (cases_Bool (list_any (λ j. j == x) (below_in (at x)))) [
      | inl found ↦ absurd (let named : list_any (λ j. j == x) below ≡ true = may.taken_in x found in let never : list_any (λ j. j == x) below ≡ false = may.next_outside in cc)
      | inr none ↦ none
    ]

-- the numbers below one, as its slot has them
pub listed : (ss : List Slot) (i j : ℕ) (s : Slot) → i < length ss → j ≡ i → s ≡ get_or ss j s → below_in (laid ss i) ≡ s.below.items
listed ss i j s within place it = ap below_in (laid_slot ss i s within (it ∙ ap (λ k. get_or ss k s) place))

-- and the number above one
pub slot_above : (ss : List Slot) (i j : ℕ) (s : Slot) → i < length ss → j ≡ i → s ≡ get_or ss j s → s.above ≡ above_in (laid ss i)
slot_above ss i j s within place it = sym (ap above_in (laid_slot ss i s within (it ∙ ap (λ k. get_or ss k s) place)))
