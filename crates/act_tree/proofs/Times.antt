-- How often lists name numbers.
use Rattle.std.proofs.Common.{◌≡◌, ◌∙◌, sym, ap, refl, ℕ, zero, suc, ◌+◌, ◌≤◌, ◌==◌, Bool, true, false, not, cond, ◌||◌, List, [], ◌∷◌, ◌++◌, filter, take, drop, inl, inr, arith}
use Rattle.std.specs.List.{list_any, All}
use Rattle.std.proofs.lemmas.List.Elements.{All-nil, All-cons}
use Rattle.std.proofs.lemmas.Bool.{cases_Bool, or_cases, eq-eqb, eqb-true, ne_eqb}
use Rattle.act_tree.specs.Arena.{number_twice}
use Rattle.act_tree.specs.Grafted.{put_numbers}
use Rattle.act_tree.specs.Siblings.{first_number, number_behind, put_behind}
use Rattle.act_tree.proofs.Frames.{or_left, or_right, none_left, none_right, neither}

-- one where a test holds
abbrev pub one_if : Bool → ℕ
one_if true = 1
one_if false = 0

-- how often a list names a number
abbrev pub times : ℕ → List ℕ → ℕ
times k [] = 0
times k (j ∷ ks) = one_if (j == k) + times k ks

none_if : (t : Bool) → one_if t ≡ 0 → t ≡ false
none_if true none = absurd (omega arith)
none_if false none = refl

pub times-append : (k : ℕ) (is ks : List ℕ) → times k (is ++ ks) ≡ times k is + times k ks
times-append k [] ks = omega arith
times-append k (i ∷ is) ks = omega (arith, times-append k is ks)

pub times-parts : (k place : ℕ) (ks : List ℕ) → times k (take place ks) + times k (drop place ks) ≡ times k ks
times-parts k zero ks = omega arith
times-parts k (suc place) [] = omega arith
times-parts k (suc place) (j ∷ ks) = omega (arith, times-parts k place ks)

pub times-put : (k place : ℕ) (ids ks : List ℕ) → times k (put_numbers place ids ks) ≡ times k ids + times k ks
times-put k place ids ks = omega (arith, times-append k (take place ks) (ids ++ drop place ks), times-append k ids (drop place ks), times-parts k place ks)

-- a list names a number exactly where it names it once or more
pub named_times : (k : ℕ) (ks : List ℕ) → list_any (λ j. j == k) ks ≡ true → 1 ≤ times k ks
named_times k [] found = absurd cc
named_times k (j ∷ ks) found =
    elim (cases_Bool (j == k)) [
      | inl it ↦ (let here : one_if (j == k) ≡ 1 = ap one_if it in omega arith)
      | inr other ↦
          let later : 1 ≤ times k ks = named_times k ks (sym (ap (λ t. t || list_any (λ l. l == k) ks) other) ∙ found) in
          omega arith
    ]

pub none_times : (k : ℕ) (ks : List ℕ) → list_any (λ j. j == k) ks ≡ false → times k ks ≡ 0
none_times k [] none = refl
none_times k (j ∷ ks) none =
    let here : one_if (j == k) ≡ 0 = ap one_if (none_left (j == k) _ none) in
    let later : times k ks ≡ 0 = none_times k ks (none_right (j == k) _ none) in
    omega arith

pub times_named : (k : ℕ) (ks : List ℕ) → 1 ≤ times k ks → list_any (λ j. j == k) ks ≡ true
times_named k ks some =
    elim (cases_Bool (list_any (λ j. j == k) ks)) [
      | inl found ↦ found
      | inr none ↦ absurd (let zero_times : times k ks ≡ 0 = none_times k ks none in omega arith)
    ]

pub times_none : (k : ℕ) (ks : List ℕ) → times k ks ≡ 0 → list_any (λ j. j == k) ks ≡ false
times_none k ks none =
    elim (cases_Bool (list_any (λ j. j == k) ks)) [
      | inl found ↦ absurd (let some : 1 ≤ times k ks = named_times k ks found in omega arith)
      | inr told ↦ told
    ]

-- no number stands twice in a list exactly where it names none more than once
pub once_few : (ks : List ℕ) (k : ℕ) → number_twice ks ≡ false → times k ks ≤ 1
once_few [] k once = omega arith
once_few (j ∷ ks) k once =
    let rest : times k ks ≤ 1 = once_few ks k (none_right (list_any (λ l. l == j) ks) _ once) in
    elim (cases_Bool (j == k)) [
      | inl it ↦
          let here : one_if (j == k) ≡ 1 = ap one_if it in
          let none : times k ks ≡ 0 = none_times k ks (ap (λ l. list_any (λ m. m == l) ks) (sym (eqb-true j k it)) ∙ none_left _ _ once) in
          omega arith
      | inr other ↦ (let here : one_if (j == k) ≡ 0 = ap one_if other in omega arith)
    ]

pub few_once : (ks : List ℕ) → ((k : ℕ) → times k ks ≤ 1) → number_twice ks ≡ false
few_once [] few = refl
few_once (j ∷ ks) few =
    let here : one_if (j == j) ≡ 1 = ap one_if (eq-eqb j j refl) in
    let most : one_if (j == j) + times j ks ≤ 1 = few j in
    let none : times j ks ≡ 0 = omega arith in
    neither _ _ (times_none j ks none) (few_once ks (λ k. let all : one_if (j == k) + times k ks ≤ 1 = few k in omega arith))

-- a number that stands between a front and a back, and nowhere else, is none of the front
pub record Between (i : ℕ) (front back : List ℕ) : Type 0 where
  pub once : times i (front ++ i ∷ back) ≤ 1

pub between : (i : ℕ) (front back : List ℕ) → number_twice (front ++ i ∷ back) ≡ false → Between i front back
between i front back once = record { once = once_few (front ++ i ∷ back) i once }

pub later_once : (i j : ℕ) (front back : List ℕ) → Between i (j ∷ front) back → Between i front back
later_once i j front back b = record { once = (let few : one_if (j == i) + times i (front ++ i ∷ back) ≤ 1 = b.once in omega arith) }

pub first_other : (i j : ℕ) (front back : List ℕ) → Between i (j ∷ front) back → (j == i) ≡ false
first_other i j front back b =
    let few : one_if (j == i) + times i (front ++ i ∷ back) ≤ 1 = b.once in
    let here : one_if (i == i) ≡ 1 = ap one_if (eq-eqb i i refl) in
    let sum : times i (front ++ i ∷ back) ≡ times i front + (one_if (i == i) + times i back) = times-append i front (i ∷ back) in
    none_if (j == i) (omega arith)

back_none : (i : ℕ) (back : List ℕ) → Between i [] back → list_any (λ j. j == i) back ≡ false
back_none i back b =
    let few : one_if (i == i) + times i back ≤ 1 = b.once in
    let here : one_if (i == i) ≡ 1 = ap one_if (eq-eqb i i refl) in
    times_none i back (omega arith)

-- a list without a number that it does not name
filter_none : (x : ℕ) (ks : List ℕ) → list_any (λ j. j == x) ks ≡ false → filter (λ k. not (k == x)) ks ≡ ks
filter_none x [] none = refl
filter_none x (k ∷ ks) none =
    ap (λ t. cond (not t) (k ∷ filter (λ j. not (j == x)) ks) (filter (λ j. not (j == x)) ks)) (none_left (k == x) _ none) ∙ ap (λ js. k ∷ js) (filter_none x ks (none_right (k == x) _ none))

pub filter_between : (i : ℕ) (front back : List ℕ) → Between i front back → filter (λ k. not (k == i)) (front ++ i ∷ back) ≡ front ++ back
filter_between i [] back b =
    ap (λ t. cond (not t) (i ∷ filter (λ k. not (k == i)) back) (filter (λ k. not (k == i)) back)) (eq-eqb i i refl) ∙ filter_none i back (back_none i back b)
filter_between i (j ∷ front) back b =
    ap (λ t. cond (not t) (j ∷ filter (λ k. not (k == i)) (front ++ i ∷ back)) (filter (λ k. not (k == i)) (front ++ i ∷ back))) (first_other i j front back b)
    ∙ ap (λ ks. j ∷ ks) (filter_between i front back (later_once i j front back b))

put_none : (i n : ℕ) (ks : List ℕ) → list_any (λ j. j == i) ks ≡ false → put_behind i n ks ≡ ks
put_none i n [] none = refl
put_none i n (j ∷ ks) none =
    ap (λ t. cond t (j ∷ n ∷ put_behind i n ks) (j ∷ put_behind i n ks)) (none_left (j == i) _ none) ∙ ap (λ js. j ∷ js) (put_none i n ks (none_right (j == i) _ none))

pub put_between : (i n : ℕ) (front back : List ℕ) → Between i front back → put_behind i n (front ++ i ∷ back) ≡ front ++ i ∷ n ∷ back
put_between i n [] back b =
    ap (λ t. cond t (i ∷ n ∷ put_behind i n back) (i ∷ put_behind i n back)) (eq-eqb i i refl) ∙ ap (λ ks. i ∷ n ∷ ks) (put_none i n back (back_none i back b))
put_between i n (j ∷ front) back b =
    ap (λ t. cond t (j ∷ n ∷ put_behind i n (front ++ i ∷ back)) (j ∷ put_behind i n (front ++ i ∷ back))) (first_other i j front back b)
    ∙ ap (λ ks. j ∷ ks) (put_between i n front back (later_once i j front back b))

pub next_between : (i : ℕ) (front back : List ℕ) → Between i front back → number_behind i (front ++ i ∷ back) ≡ first_number back
next_between i [] back b = ap (λ t. cond t (first_number back) (number_behind i back)) (eq-eqb i i refl)
next_between i (j ∷ front) back b =
    ap (λ t. cond t (first_number (front ++ i ∷ back)) (number_behind i (front ++ i ∷ back))) (first_other i j front back b) ∙ next_between i front back (later_once i j front back b)

-- two lists together name no number twice, if neither does and none of the first is in the second
pub once-append : (is ks : List ℕ) → number_twice is ≡ false → number_twice ks ≡ false → ((k : ℕ) → list_any (λ j. j == k) is ≡ true → list_any (λ j. j == k) ks ≡ false) → number_twice (is ++ ks) ≡ false
once-append is ks first second apart = few_once (is ++ ks) (λ k.
    let one : times k is ≤ 1 = once_few is k first in
    let two : times k ks ≤ 1 = once_few ks k second in
    let sum : times k (is ++ ks) ≡ times k is + times k ks = times-append k is ks in
    elim (cases_Bool (list_any (λ j. j == k) is)) [
      | inl found ↦ (let none : times k ks ≡ 0 = none_times k ks (apart k found) in omega arith)
      | inr none ↦ (let zero_times : times k is ≡ 0 = none_times k is none in omega arith)
    ])

pub only_one : (i k : ℕ) → list_any (λ j. j == k) (i ∷ []) ≡ true → i ≡ k
only_one i k found = elim (or_cases (i == k) false found) [ inl it ↦ eqb-true i k it | inr never ↦ absurd cc ]

pub other_one : (i k : ℕ) → list_any (λ j. j == k) (i ∷ []) ≡ false → k ≡ i → ⊥
other_one i k none same = let told : (i == k) ≡ true = eq-eqb i k (sym same) in let never : (i == k) ≡ false = none_left (i == k) false none in cc

pub not_this : (i k : ℕ) → (i ≡ k → ⊥) → list_any (λ j. j == k) (i ∷ []) ≡ false
not_this i k other = neither (i == k) false (ne_eqb i k other) refl

-- what holds of each number that a list names holds of all of it
pub some_listed : (P : ℕ → Type 0) (ks : List ℕ) → ((k : ℕ) → list_any (λ j. j == k) ks ≡ true → P k) → All P ks
some_listed P [] each = All-nil P
some_listed P (k ∷ ks) each = All-cons P k ks (each k (or_left _ _ (eq-eqb k k refl))) (some_listed P ks (λ j found. each j (or_right (k == j) _ found)))
