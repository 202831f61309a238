-- Of a text that keeps the limits only what an insertion brings can be held against it.
use Rattle.std.proofs.Common.{◌≡◌, ◌∙◌, sym, ap, refl, ℕ, zero, suc, ◌+◌, ◌≤◌, Bool, true, false, cond, ◌||◌, max, List, [], ◌∷◌, ◌++◌, Some, inl, inr, arith}
use Rattle.std.specs.Str.{bytes_eq}
use Rattle.std.proofs.lemmas.Bool.{cases_Bool, cond_both, or_cases}
use Rattle.eid_paths.specs.declared.numbering.Numbering.{Numbering}
use Rattle.act_tree.specs.Branches.{Branches, branch, no_branches, more_branches, heights, counts}
use Rattle.act_tree.specs.Changes.{any_holds, changed, joined, first, behind, put_in, among_children, found}
use Rattle.act_tree.specs.EidLevels.{begins, own_level, all_beginning, going_on, all_going_on, alike_inside, alike_beneath}
use Rattle.act_tree.specs.Faults.{owns, all_owns, is_long, has_long, have_long}
use Rattle.act_tree.specs.Provisions.{Provision}
use Rattle.act_tree.specs.Wids.{all_wids, is_among, one_twice}
use Rattle.act_tree.proofs.Frames.{none_left, none_right, neither}
use Rattle.act_tree.proofs.Texts.{same_text, equal_text}
use Rattle.textual_mods.specs.Insertions.{one_among, heights_over}
use Rattle.textual_mods.proofs.JoinLimits.{times, times-append, none_times, some_times, few_once, once_few, one_if, begun_joined, heights_joined, counts_joined, or_none, long_joined}
use Rattle.textual_mods.proofs.OnePlace.{AreDistinct, are_distinct, first_found, found_past, first_of, beneath_it, behind_it}

-- the first so many, and those behind them, are all
pub parts_join : (k : ℕ) (bs : Branches Provision) → joined (first k bs) (behind k bs) ≡ bs
parts_join zero bs = refl
parts_join (suc k) no_branches = refl
parts_join (suc k) (more_branches b bs) = ap (more_branches b) (parts_join k bs)

-- what adds up over provisions side by side adds up where some are put among others
put_sums : (m : Branches Provision → ℕ) → ((bs cs : Branches Provision) → m (joined bs cs) ≡ m bs + m cs) → (k : ℕ) (new bs : Branches Provision) → m (put_in k new bs) ≡ m bs + m new
put_sums m adds k new bs =
    let whole : m (joined (first k bs) (behind k bs)) ≡ m bs = ap m (parts_join k bs) in
    omega (arith, whole, adds (first k bs) (behind k bs), adds new (behind k bs), adds (first k bs) (joined new (behind k bs)))

put_most : (m : Branches Provision → ℕ) → ((bs cs : Branches Provision) → m (joined bs cs) ≡ max (m bs) (m cs)) → (k : ℕ) (new bs : Branches Provision) → m (put_in k new bs) ≡ max (m bs) (m new)
put_most m most k new bs =
    let whole : m (joined (first k bs) (behind k bs)) ≡ m bs = ap m (parts_join k bs) in
    omega (arith, whole, most (first k bs) (behind k bs), most new (behind k bs), most (first k bs) (joined new (behind k bs)))

-- a text that is among others stands in both
among_both : (xs ys : List (List ℕ)) → one_among xs ys ≡ true → ((x : List ℕ) → times x xs + times x ys ≤ 1) → ⊥
among_both [] ys told few = absurd cc
among_both (x ∷ xs) ys told few =
    elim (or_cases (is_among x ys) (one_among xs ys) told) [
      | inl here ↦
          let own : one_if (bytes_eq x x) ≡ 1 = ap one_if (equal_text x x refl) in
          let there : 1 ≤ times x ys = some_times x ys here in
          let most : one_if (bytes_eq x x) + times x xs + times x ys ≤ 1 = few x in
          absurd (omega arith)
      | inr later ↦ among_both xs ys later (λ v. let most : one_if (bytes_eq v x) + times v xs + times v ys ≤ 1 = few v in omega arith)
    ]

among_none : (xs ys : List (List ℕ)) (x : List ℕ) → one_among xs ys ≡ false → is_among x xs ≡ true → is_among x ys ≡ false
among_none [] ys x told found = absurd cc
among_none (v ∷ xs) ys x told found =
    elim (or_cases (bytes_eq x v) (is_among x xs) found) [
      | inl it ↦ ap (λ u. is_among u ys) (same_text x v it) ∙ none_left (is_among v ys) _ told
      | inr later ↦ among_none xs ys x (none_right (is_among v ys) _ told) later
    ]

-- texts of two lists, of which the second has none twice, differ exactly where the first has none twice and none of the second
pub twice_or : (xs ys zs : List (List ℕ)) → ((x : List ℕ) → times x zs ≡ times x ys + times x xs) → one_twice ys ≡ false → one_twice zs ≡ (one_twice xs || one_among xs ys)
twice_or xs ys zs sum once =
    elim (cases_Bool (one_twice xs || one_among xs ys)) [
      | inr none ↦ few_once zs (λ x.
          let one : times x xs ≤ 1 = once_few xs x (none_left _ _ none) in
          let other : times x ys ≤ 1 = once_few ys x once in
          let all : times x zs ≡ times x ys + times x xs = sum x in
          elim (cases_Bool (is_among x xs)) [
            | inl there ↦ (let no : times x ys ≡ 0 = none_times x ys (among_none xs ys x (none_right (one_twice xs) _ none) there) in omega arith)
            | inr not_there ↦ (let no : times x xs ≡ 0 = none_times x xs not_there in omega arith)
          ]) ∙ sym none
      | inl some ↦ elim (cases_Bool (one_twice zs)) [
        | inl told ↦ told ∙ sym some
        | inr never ↦ absurd (elim (or_cases (one_twice xs) (one_among xs ys) some) [
          | inl twice ↦
              let differ : one_twice xs ≡ false = few_once xs (λ x. let all : times x zs ≡ times x ys + times x xs = sum x in let few : times x zs ≤ 1 = once_few zs x never in omega arith) in
              cc
          | inr shared ↦ among_both xs ys shared (λ x. let all : times x zs ≡ times x ys + times x xs = sum x in let few : times x zs ≤ 1 = once_few zs x never in omega arith)
        ])
      ]
    ]

-- a number for each provision of a wId
abbrev pub for_each : ℕ → List ℕ → Branches Provision → ℕ
for_each m w no_branches = 0
for_each m w (more_branches (branch p below) bs) = cond (bytes_eq p.wid w) m 0 + for_each m w below + for_each m w bs

for_none : (m : ℕ) (w : List ℕ) (bs : Branches Provision) → any_holds w bs ≡ false → for_each m w bs ≡ 0
for_none m w no_branches none = refl
for_none m w (more_branches (branch p below) bs) none =
    let head : (bytes_eq p.wid w || any_holds w below) ≡ false = none_left _ _ none in
    let here : cond (bytes_eq p.wid w) m 0 ≡ 0 = ap (λ t. cond t m 0) (none_left (bytes_eq p.wid w) _ head) in
    omega (arith, for_none m w below (none_right (bytes_eq p.wid w) _ head), for_none m w bs (none_right (bytes_eq p.wid w || any_holds w below) _ none))

-- where wIds differ, that is one number
pub for_one : (m : ℕ) (w : List ℕ) (bs : Branches Provision) → one_twice (all_wids bs) ≡ false → any_holds w bs ≡ true → for_each m w bs ≡ m
for_one m w no_branches once held = absurd cc
for_one m w (more_branches (branch p below) bs) once held =
    let d : AreDistinct p below bs = are_distinct p below bs once in
    elim (cases_Bool (bytes_eq p.wid w)) [
      | inl it ↦
          let same : p.wid ≡ w = same_text p.wid w it in
          let here : cond (bytes_eq p.wid w) m 0 ≡ m = ap (λ t. cond t m 0) it in
          omega (arith, for_none m w below (sym (ap (λ v. any_holds v below) same) ∙ d.not_beneath), for_none m w bs (sym (ap (λ v. any_holds v bs) same) ∙ d.not_behind))
      | inr other ↦
          let here : cond (bytes_eq p.wid w) m 0 ≡ 0 = ap (λ t. cond t m 0) other in
          elim (cases_Bool (any_holds w below)) [
            | inl inner ↦ omega (arith, for_one m w below d.beneath_once inner, for_none m w bs (d.apart w inner))
            | inr none ↦
                let outer : any_holds w bs ≡ true = sym (ap (λ t. (t || any_holds w below) || any_holds w bs) other ∙ ap (λ t. t || any_holds w bs) none) ∙ held in
                omega (arith, for_none m w below none, for_one m w bs d.behind_once outer)
          ]
    ]

pub on_joined : (n : Numbering) (x : List ℕ) (t : Bool) (bs cs : Branches Provision) → times x (all_going_on n t (all_owns (joined bs cs))) ≡ times x (all_going_on n t (all_owns bs)) + times x (all_going_on n t (all_owns cs))
on_joined n x t no_branches cs = omega arith
on_joined n x t (more_branches b bs) cs =
    omega (arith, on_joined n x t bs cs, times-append x (going_on n t (owns b)) (all_going_on n t (all_owns (joined bs cs))), times-append x (going_on n t (owns b)) (all_going_on n t (all_owns bs)))

pub begun_put : (n : Numbering) (x : List ℕ) (t : Bool) (k : ℕ) (new bs : Branches Provision) → times x (all_beginning n t (all_owns (put_in k new bs))) ≡ times x (all_beginning n t (all_owns bs)) + times x (all_beginning n t (all_owns new))
begun_put n x t k new bs = put_sums (λ cs. times x (all_beginning n t (all_owns cs))) (begun_joined n x t) k new bs

pub on_put : (n : Numbering) (x : List ℕ) (t : Bool) (k : ℕ) (new bs : Branches Provision) → times x (all_going_on n t (all_owns (put_in k new bs))) ≡ times x (all_going_on n t (all_owns bs)) + times x (all_going_on n t (all_owns new))
on_put n x t k new bs = put_sums (λ cs. times x (all_going_on n t (all_owns cs))) (on_joined n x t) k new bs

pub counts_put : (k : ℕ) (new bs : Branches Provision) → counts (all_owns (put_in k new bs)) ≡ counts (all_owns bs) + counts (all_owns new)
counts_put k new bs = put_sums (λ cs. counts (all_owns cs)) counts_joined k new bs

pub heights_put : (k : ℕ) (new bs : Branches Provision) → heights (all_owns (put_in k new bs)) ≡ max (heights (all_owns bs)) (heights (all_owns new))
heights_put k new bs = put_most (λ cs. heights (all_owns cs)) heights_joined k new bs

or_assoc : (a b c : Bool) → ((a || b) || c) ≡ (a || (b || c))
or_assoc true b c = refl
or_assoc false b c = refl

pub unlike_joined : (n : Numbering) (bs cs : Branches Provision) → alike_beneath n (all_owns (joined bs cs)) ≡ (alike_beneath n (all_owns bs) || alike_beneath n (all_owns cs))
unlike_joined n no_branches cs = refl
unlike_joined n (more_branches b bs) cs =
    ap (λ t. alike_inside n (owns b) || t) (unlike_joined n bs cs) ∙ sym (or_assoc (alike_inside n (owns b)) (alike_beneath n (all_owns bs)) (alike_beneath n (all_owns cs)))

-- provisions of which no two siblings are alike leave it to the others whether two are
pub unlike_put : (n : Numbering) (k : ℕ) (new bs : Branches Provision) → alike_beneath n (all_owns new) ≡ false → alike_beneath n (all_owns (put_in k new bs)) ≡ alike_beneath n (all_owns bs)
unlike_put n k new bs none =
    unlike_joined n (first k bs) (joined new (behind k bs))
    ∙ ap (λ t. alike_beneath n (all_owns (first k bs)) || t) (unlike_joined n new (behind k bs) ∙ ap (λ t. t || alike_beneath n (all_owns (behind k bs))) none)
    ∙ sym (unlike_joined n (first k bs) (behind k bs)) ∙ ap (λ cs. alike_beneath n (all_owns cs)) (parts_join k bs)

pub short_parts : (k : ℕ) (bs : Branches Provision) → have_long (all_owns bs) ≡ false → (have_long (all_owns (first k bs)) ≡ false) × (have_long (all_owns (behind k bs)) ≡ false)
short_parts zero bs short = (refl, short)
short_parts (suc k) no_branches short = (refl, refl)
short_parts (suc k) (more_branches b bs) short =
    let rest = short_parts k bs (none_right (has_long (owns b)) _ short) in
    (neither _ _ (none_left (has_long (owns b)) _ short) rest.0, rest.1)

pub short_put : (k : ℕ) (new bs : Branches Provision) → have_long (all_owns new) ≡ false → have_long (all_owns bs) ≡ false → have_long (all_owns (put_in k new bs)) ≡ false
short_put k new bs one other =
    let parts = short_parts k bs other in
    long_joined (first k bs) (joined new (behind k bs)) parts.0 (long_joined new (behind k bs) one parts.1)

module _ (n : Numbering) (k : ℕ) (new : Branches Provision) (w : List ℕ) where
  -- the provisions with the new ones among the children of those of the wId
  abbrev pub after : Branches Provision → Branches Provision
  after bs = changed (among_children k new) w bs

  pub begun_after : (x : List ℕ) (t : Bool) (bs : Branches Provision)
      → times x (all_beginning n t (all_owns (after bs))) ≡ times x (all_beginning n t (all_owns bs)) + for_each (times x (all_beginning n false (all_owns new))) w bs
  begun_after x t no_branches = refl
  begun_after x t (more_branches (branch p below) bs) =
      let own : List (List ℕ) = cond (begins n t p.own) (own_level p.own ∷ []) [] in
      let m : ℕ = times x (all_beginning n false (all_owns new)) in
      let rest : Branches Provision = after bs in
      let P : Branches Provision → Type 0 = λ r. times x (all_beginning n t (all_owns r)) ≡ times x (all_beginning n t (all_owns (more_branches (branch p below) bs))) + for_each m w (more_branches (branch p below) bs) in
      let was : times x ((own ++ all_beginning n false (all_owns below)) ++ all_beginning n t (all_owns bs)) ≡ times x own + times x (all_beginning n false (all_owns below)) + times x (all_beginning n t (all_owns bs)) =
      omega (arith, times-append x (own ++ all_beginning n false (all_owns below)) (all_beginning n t (all_owns bs)), times-append x own (all_beginning n false (all_owns below))) in
      cond_both (bytes_eq p.wid w) (more_branches (branch p (put_in k new (after below))) rest) (more_branches (branch p (after below)) rest) P
      (λ it.
      let here : cond (bytes_eq p.wid w) m 0 ≡ m = ap (λ s. cond s m 0) it in
      let now : List (List ℕ) = all_beginning n false (all_owns (put_in k new (after below))) in
      omega (arith, was, begun_after x false below, begun_after x t bs, begun_put n x false k new (after below), times-append x (own ++ now) (all_beginning n t (all_owns rest)), times-append x own now))
      (λ other.
      let here : cond (bytes_eq p.wid w) m 0 ≡ 0 = ap (λ s. cond s m 0) other in
      let now : List (List ℕ) = all_beginning n false (all_owns (after below)) in
      omega (arith, was, begun_after x false below, begun_after x t bs, times-append x (own ++ now) (all_beginning n t (all_owns rest)), times-append x own now))

  -- siblings go on as before, but for the children of that provision
  on_after : (t : Bool) (bs : Branches Provision) → all_going_on n t (all_owns (after bs)) ≡ all_going_on n t (all_owns bs)
  on_after t no_branches = refl
  on_after t (more_branches (branch p below) bs) =
      cond_both (bytes_eq p.wid w) (more_branches (branch p (put_in k new (after below))) (after bs)) (more_branches (branch p (after below)) (after bs))
      (λ r. all_going_on n t (all_owns r) ≡ all_going_on n t (all_owns (more_branches (branch p below) bs)))
      (λ _. ap (λ ls. cond (begins n t p.own) [] (own_level p.own ∷ []) ++ ls) (on_after t bs))
      (λ _. ap (λ ls. cond (begins n t p.own) [] (own_level p.own ∷ []) ++ ls) (on_after t bs))

  pub counts_after : (bs : Branches Provision) → counts (all_owns (after bs)) ≡ counts (all_owns bs) + for_each (counts (all_owns new)) w bs
  counts_after no_branches = refl
  counts_after (more_branches (branch p below) bs) =
      let m : ℕ = counts (all_owns new) in
      cond_both (bytes_eq p.wid w) (more_branches (branch p (put_in k new (after below))) (after bs)) (more_branches (branch p (after below)) (after bs))
      (λ r. counts (all_owns r) ≡ counts (all_owns (more_branches (branch p below) bs)) + for_each m w (more_branches (branch p below) bs))
      (λ it. let here : cond (bytes_eq p.wid w) m 0 ≡ m = ap (λ s. cond s m 0) it in omega (arith, counts_after below, counts_after bs, counts_put k new (after below)))
      (λ other. let here : cond (bytes_eq p.wid w) m 0 ≡ 0 = ap (λ s. cond s m 0) other in omega (arith, counts_after below, counts_after bs))

  pub heights_after : (bs : Branches Provision) → heights (all_owns (after bs)) ≡ heights_over w (heights (all_owns new)) bs
  heights_after no_branches = refl
  heights_after (more_branches (branch p below) bs) =
      let m : ℕ = heights (all_owns new) in
      cond_both (bytes_eq p.wid w) (more_branches (branch p (put_in k new (after below))) (after bs)) (more_branches (branch p (after below)) (after bs))
      (λ r. heights (all_owns r) ≡ heights_over w m (more_branches (branch p below) bs))
      (λ it. let here : cond (bytes_eq p.wid w) m 0 ≡ m = ap (λ s. cond s m 0) it in omega (arith, heights_after below, heights_after bs, heights_put k new (after below)))
      (λ other. let here : cond (bytes_eq p.wid w) m 0 ≡ 0 = ap (λ s. cond s m 0) other in omega (arith, heights_after below, heights_after bs))

  pub short_after : (bs : Branches Provision) → have_long (all_owns new) ≡ false → have_long (all_owns bs) ≡ false → have_long (all_owns (after bs)) ≡ false
  short_after no_branches one other = refl
  short_after (more_branches (branch p below) bs) one other =
      let head : (is_long p.own || have_long (all_owns below)) ≡ false = none_left _ _ other in
      let inner : have_long (all_owns (after below)) ≡ false = short_after below one (none_right (is_long p.own) _ head) in
      let later : have_long (all_owns (after bs)) ≡ false = short_after bs one (none_right (is_long p.own || have_long (all_owns below)) _ other) in
      cond_both (bytes_eq p.wid w) (more_branches (branch p (put_in k new (after below))) (after bs)) (more_branches (branch p (after below)) (after bs))
      (λ r. have_long (all_owns r) ≡ false)
      (λ _. neither _ _ (neither _ _ (none_left (is_long p.own) _ head) (short_put k new (after below) one inner)) later)
      (λ _. neither _ _ (neither _ _ (none_left (is_long p.own) _ head) inner) later)

  -- a test of the children of the provision of the wId
  abbrev pub of_children : (Branches Provision → Bool) → Branches Provision → Bool
  of_children test no_branches = false
  of_children test (more_branches (branch p below) bs) = (cond (bytes_eq p.wid w) (test below) false || of_children test below) || of_children test bs

  -- a level that goes on is that of a child
  abbrev pub clashes : Branches Provision → Bool
  clashes below = one_among (all_going_on n false (all_owns new)) (all_going_on n false (all_owns below))

  pub alike_after : (bs : Branches Provision) → one_twice (all_going_on n false (all_owns new)) ≡ false → alike_beneath n (all_owns new) ≡ false → alike_beneath n (all_owns bs) ≡ false
      → alike_beneath n (all_owns (after bs)) ≡ of_children clashes bs
  alike_after no_branches once unlike none = refl
  alike_after (more_branches (branch p below) bs) once unlike none =
      let head : (one_twice (all_going_on n false (all_owns below)) || alike_beneath n (all_owns below)) ≡ false = none_left _ _ none in
      let own : one_twice (all_going_on n false (all_owns below)) ≡ false = none_left _ _ head in
      let inner : alike_beneath n (all_owns (after below)) ≡ of_children clashes below = alike_after below once unlike (none_right (one_twice (all_going_on n false (all_owns below))) _ head) in
      let later : alike_beneath n (all_owns (after bs)) ≡ of_children clashes bs = alike_after bs once unlike (none_right (one_twice (all_going_on n false (all_owns below)) || alike_beneath n (all_owns below)) _ none) in
      cond_both (bytes_eq p.wid w) (more_branches (branch p (put_in k new (after below))) (after bs)) (more_branches (branch p (after below)) (after bs))
      (λ r. alike_beneath n (all_owns r) ≡ of_children clashes (more_branches (branch p below) bs))
      (λ it.
      ap (λ t. (t || alike_beneath n (all_owns (put_in k new (after below)))) || alike_beneath n (all_owns (after bs)))
      (twice_or (all_going_on n false (all_owns new)) (all_going_on n false (all_owns (after below))) (all_going_on n false (all_owns (put_in k new (after below)))) (λ x. on_put n x false k new (after below)) (ap one_twice (on_after false below) ∙ own)
      ∙ ap (λ t. t || one_among (all_going_on n false (all_owns new)) (all_going_on n false (all_owns (after below)))) once
      ∙ ap (λ ls. one_among (all_going_on n false (all_owns new)) ls) (on_after false below))
      ∙ ap (λ t. (clashes below || t) || alike_beneath n (all_owns (after bs))) (unlike_put n k new (after below) unlike ∙ inner)
      ∙ ap (λ t. (clashes below || of_children clashes below) || t) later
      ∙ sym (ap (λ t. (cond t (clashes below) false || of_children clashes below) || of_children clashes bs) it))
      (λ other.
      ap (λ t. (t || alike_beneath n (all_owns (after below))) || alike_beneath n (all_owns (after bs))) (ap one_twice (on_after false below) ∙ own)
      ∙ ap (λ t. t || alike_beneath n (all_owns (after bs))) inner
      ∙ ap (λ t. of_children clashes below || t) later
      ∙ sym (ap (λ t. (cond t (clashes below) false || of_children clashes below) || of_children clashes bs) other))

  of_none : (test : Branches Provision → Bool) (bs : Branches Provision) → any_holds w bs ≡ false → of_children test bs ≡ false
  of_none test no_branches none = refl
  of_none test (more_branches (branch p below) bs) none =
      let head : (bytes_eq p.wid w || any_holds w below) ≡ false = none_left _ _ none in
      neither _ _
      (neither _ _ (ap (λ t. cond t (test below) false) (none_left (bytes_eq p.wid w) _ head)) (of_none test below (none_right (bytes_eq p.wid w) _ head)))
      (of_none test bs (none_right (bytes_eq p.wid w || any_holds w below) _ none))

  -- where wIds differ, that is one provision
  pub of_one : (test : Branches Provision → Bool) (p : Provision) (under bs : Branches Provision) → one_twice (all_wids bs) ≡ false → found w bs ≡ Some (branch p under) → of_children test bs ≡ test under
  of_one test p under no_branches once there = absurd cc
  of_one test p under (more_branches (branch r below) bs) once there =
      let d : AreDistinct r below bs = are_distinct r below bs once in
      elim (cases_Bool (bytes_eq r.wid w)) [
        | inl it ↦
            let same : r.wid ≡ w = same_text r.wid w it in
            let one : Some (branch r below) ≡ Some (branch p under) = sym (first_found w r below bs it) ∙ there in
            let is : below ≡ under = cc in
            ap (λ t. (t || of_children test below) || of_children test bs) (ap (λ t. cond t (test below) false) it ∙ ap test is)
            ∙ ap (λ t. (test under || t) || of_children test bs) (of_none test below (sym (ap (λ v. any_holds v below) same) ∙ d.not_beneath))
            ∙ ap (λ t. (test under || false) || t) (of_none test bs (sym (ap (λ v. any_holds v bs) same) ∙ d.not_behind))
            ∙ or_none (test under || false) ∙ or_none (test under)
        | inr other ↦
            ap (λ t. (t || of_children test below) || of_children test bs) (ap (λ t. cond t (test below) false) other)
            ∙ elim (first_of w (branch p under) below bs (sym (found_past w r below bs other) ∙ there)) [
              | beneath_it here held ↦
                  ap (λ t. of_children test below || t) (of_none test bs (d.apart w held)) ∙ or_none (of_children test below) ∙ of_one test p under below d.beneath_once here
              | behind_it none here ↦ ap (λ t. t || of_children test bs) (of_none test below none) ∙ of_one test p under bs d.behind_once here
            ]
      ]
