-- How often a level stands beneath a node: provisions that may not have one level are those that are told apart in eIds.
use Rattle.std.proofs.Common.{◌≡◌, ◌∙◌, sym, ap, refl, subst, ℕ, ◌+◌, ◌≤◌, Bool, true, false, cond, ◌||◌, ◌&&◌, List, [], ◌∷◌, ◌++◌, map, Some, ◌⊎◌, inl, inr, arith}
use Rattle.std.specs.List.{All, list_any}
use Rattle.std.specs.Str.{bytes_eq}
use Rattle.std.proofs.lemmas.Bool.{cases_Bool, or_cases}
use Rattle.std.proofs.lemmas.List.{map-append}
use Rattle.std.proofs.lemmas.List.Elements.{All-head, All-tail}
use Rattle.eid_paths.specs.declared.numbering.Numbering.{Numbering}
use Rattle.act_tree.specs.Branches.{Branches, branch, no_branches, more_branches}
use Rattle.act_tree.specs.Changes.{any_holds, found, renumbered, root_wid}
use Rattle.act_tree.specs.EidLevels.{begins, all_beginning, all_going_on, alike_beneath}
use Rattle.act_tree.specs.Faults.{all_owns}
use Rattle.act_tree.specs.Provisions.{Provision}
use Rattle.act_tree.specs.Wids.{all_wids, is_among, one_twice}
use Rattle.act_tree.proofs.Frames.{or_left, or_right, none_left, none_right, neither}
use Rattle.act_tree.proofs.Texts.{same_text, equal_text}
use Rattle.textual_mods.specs.NumChanges.{Placed, all_placed, level_with}
use Rattle.textual_mods.proofs.JoinLimits.{one_if, times, times-append, once_few, few_once}
use Rattle.textual_mods.proofs.OnePlace.{AreDistinct, are_distinct, first_found, found_past, first_of, beneath_it, behind_it}

-- one of a list
abbrev pub In : {A : Type 0} → A → List A → Type 0
In x [] = ⊥
In x (y ∷ ys) = (x ≡ y) ⊎ In x ys

pub in_any : {A : Type 0} (p : A → Bool) (x : A) (xs : List A) → In x xs → p x ≡ true → list_any p xs ≡ true
in_any p x [] it held = absurd it
in_any p x (y ∷ ys) it held =
    elim it [
      | inl same ↦ or_left _ _ (ap p (sym same) ∙ held)
      | inr later ↦ or_right (p y) _ (in_any p x ys later held)
    ]

pub any_in : {A : Type 0} (p : A → Bool) (xs : List A) → list_any p xs ≡ true → (x : A) × (In x xs × (p x ≡ true))
any_in p [] held = absurd cc
any_in p (y ∷ ys) held =
    elim (or_cases (p y) (list_any p ys) held) [
      | inl here ↦ (y, (inl refl, here))
      | inr later ↦ (let it = any_in p ys later in (it.0, (inr it.1.0, it.1.1)))
    ]

pub all_in : {A : Type 0} (P : A → Type 0) (x : A) (xs : List A) → All P xs → In x xs → P x
all_in P x [] all it = absurd it
all_in P x (y ∷ ys) all it =
    elim it [
      | inl same ↦ subst P (sym same) (All-head P y ys all)
      | inr later ↦ all_in P x ys (All-tail P y ys all) later
    ]

pub in_front : {A : Type 0} (x : A) (xs ys : List A) → In x xs → In x (xs ++ ys)
in_front x [] ys it = absurd it
in_front x (y ∷ xs) ys it = elim it [ inl same ↦ inl same | inr later ↦ inr (in_front x xs ys later) ]

pub in_back : {A : Type 0} (x : A) (xs ys : List A) → In x ys → In x (xs ++ ys)
in_back x [] ys it = it
in_back x (y ∷ xs) ys it = inr (in_back x xs ys it)

-- the wIds of provisions
abbrev pub names : List Placed → List (List ℕ)
names es = map (λ e. e.provision.wid) es

pub names_are : (n : Numbering) (t : Bool) (w : List ℕ) (bs : Branches Provision) → names (all_placed n t w bs) ≡ all_wids bs
names_are n t w no_branches = refl
names_are n t w (more_branches (branch p below) bs) =
    map-append (λ e. e.provision.wid) (record { under = cond (begins n t p.own) root_wid w; provision = p } ∷ all_placed n false p.wid below) (all_placed n t w bs)
    ∙ ap (λ ws. (p.wid ∷ ws) ++ names (all_placed n t w bs)) (names_are n false p.wid below)
    ∙ ap (λ ws. (p.wid ∷ all_wids below) ++ ws) (names_are n t w bs)

other_name : (w : List ℕ) (e : Placed) (es : List Placed) → In e es → is_among w (names es) ≡ false → bytes_eq w e.provision.wid ≡ false
other_name w e [] it none = absurd it
other_name w e (x ∷ es) it none =
    elim it [
      | inl same ↦ ap (λ (y : Placed). bytes_eq w y.provision.wid) same ∙ none_left _ _ none
      | inr later ↦ other_name w e es later (none_right (bytes_eq w x.provision.wid) _ none)
    ]

not_later : (x e : Placed) (es : List Placed) → In e es → is_among x.provision.wid (names es) ≡ false → x.provision.wid ≡ e.provision.wid → ⊥
not_later x e es it none same =
    let never : true ≡ false = sym (equal_text x.provision.wid e.provision.wid same) ∙ other_name x.provision.wid e es it none in
    absurd cc

-- where wIds differ, a wId is that of one
pub same_placed : (a b : Placed) (es : List Placed) → one_twice (names es) ≡ false → In a es → In b es → a.provision.wid ≡ b.provision.wid → a ≡ b
same_placed a b [] once one other same = absurd one
same_placed a b (x ∷ es) once one other same =
    let none : is_among x.provision.wid (names es) ≡ false = none_left _ _ once in
    elim one [
      | inl first ↦ elim other [
        | inl too ↦ first ∙ sym too
        | inr later ↦ absurd (not_later x b es later none (ap (λ (y : Placed). y.provision.wid) (sym first) ∙ same))
      ]
      | inr behind ↦ elim other [
        | inl first ↦ absurd (not_later x a es behind none (ap (λ (y : Placed). y.provision.wid) (sym first) ∙ sym same))
        | inr later ↦ same_placed a b es (none_right (is_among x.provision.wid (names es)) _ once) behind later same
      ]
    ]

-- a number, or none
abbrev pub if_so : Bool → ℕ → ℕ
if_so true m = m
if_so false m = 0

if_none : (s : Bool) → if_so s 0 ≡ 0
if_none true = refl
if_none false = refl

if_sum : (s : Bool) (a b : ℕ) → if_so s (a + b) ≡ if_so s a + if_so s b
if_sum true a b = refl
if_sum false a b = refl

if_both : (s t : Bool) → one_if (s && t) ≡ if_so s (one_if t)
if_both true t = refl
if_both false t = refl

module _ (pairs : List (List ℕ × List ℕ)) (k l : List ℕ) where
  -- a provision has this level, with the nums that pairs give, beneath this node
  abbrev pub hit : Placed → Bool
  hit e = bytes_eq e.under k && bytes_eq l (level_with pairs e.provision)

  -- how many have
  abbrev pub hits : List Placed → ℕ
  hits [] = 0
  hits (e ∷ es) = one_if (hit e) + hits es

  hits-append : (es fs : List Placed) → hits (es ++ fs) ≡ hits es + hits fs
  hits-append [] fs = omega arith
  hits-append (e ∷ es) fs = omega (arith, hits-append es fs)

  pub some_hit : (es : List Placed) → 1 ≤ hits es → (e : Placed) × (In e es × (hit e ≡ true))
  some_hit [] some = absurd (omega arith)
  some_hit (e ∷ es) some =
      elim (cases_Bool (hit e)) [
        | inl it ↦ (e, (inl refl, it))
        | inr other ↦
            let none : one_if (hit e) ≡ 0 = ap one_if other in
            let more : 1 ≤ hits es = omega arith in
            let rest = some_hit es more in
            (rest.0, (inr rest.1.0, rest.1.1))
      ]

  pub one_hit : (e : Placed) (es : List Placed) → In e es → hit e ≡ true → 1 ≤ hits es
  one_hit e [] it held = absurd it
  one_hit e (x ∷ es) it held =
      elim it [
        | inl same ↦ (let one : one_if (hit x) ≡ 1 = ap (λ y. one_if (hit y)) (sym same) ∙ ap one_if held in omega arith)
        | inr later ↦ (let more : 1 ≤ hits es = one_hit e es later held in omega arith)
      ]

  -- two of other wIds are two
  pub two_hits : (a b : Placed) (es : List Placed) → In a es → In b es → bytes_eq a.provision.wid b.provision.wid ≡ false → hit a ≡ true → hit b ≡ true → 2 ≤ hits es
  two_hits a b [] one other apart held held_too = absurd one
  two_hits a b (x ∷ es) one other apart held held_too =
      elim one [
        | inl first ↦
            let here : one_if (hit x) ≡ 1 = ap (λ y. one_if (hit y)) (sym first) ∙ ap one_if held in
            elim other [
              | inl too ↦ absurd (let never : true ≡ false = sym (equal_text a.provision.wid b.provision.wid (ap (λ (y : Placed). y.provision.wid) (first ∙ sym too))) ∙ apart in cc)
              | inr later ↦ (let more : 1 ≤ hits es = one_hit b es later held_too in omega arith)
            ]
        | inr behind ↦ elim other [
          | inl first ↦
              let here : one_if (hit x) ≡ 1 = ap (λ y. one_if (hit y)) (sym first) ∙ ap one_if held_too in
              let more : 1 ≤ hits es = one_hit a es behind held in
              omega arith
          | inr later ↦ (let more : 2 ≤ hits es = two_hits a b es behind later apart held held_too in omega arith)
        ]
      ]

  pub record TwoHit (es : List Placed) : Type 0 where
    pub one : Placed
    pub other : Placed
    pub one_in : In one es
    pub other_in : In other es
    pub one_has : hit one ≡ true
    pub other_has : hit other ≡ true
    pub apart : bytes_eq one.provision.wid other.provision.wid ≡ false

  pub two_found : (es : List Placed) → one_twice (names es) ≡ false → 2 ≤ hits es → TwoHit es
  two_found [] once two = absurd (omega arith)
  two_found (e ∷ es) once two =
      elim (cases_Bool (hit e)) [
        | inl it ↦
            let here : one_if (hit e) ≡ 1 = ap one_if it in
            let more : 1 ≤ hits es = omega arith in
            let rest = some_hit es more in
            record {
              one = e;
              other = rest.0;
              one_in = inl refl;
              other_in = inr rest.1.0;
              one_has = it;
              other_has = rest.1.1;
              apart = other_name e.provision.wid rest.0 es rest.1.0 (none_left _ _ once);
            }
        | inr none ↦
            let here : one_if (hit e) ≡ 0 = ap one_if none in
            let more : 2 ≤ hits es = omega arith in
            let rest : TwoHit es = two_found es (none_right (is_among e.provision.wid (names es)) _ once) more in
            record { one = rest.one; other = rest.other; one_in = inr rest.one_in; other_in = inr rest.other_in; one_has = rest.one_has; other_has = rest.other_has; apart = rest.apart }
      ]

  module _ (n : Numbering) where
    -- how often the level begins an eId, and how often a sibling goes on by it
    abbrev pub begun : Bool → Branches Provision → ℕ
    begun t bs = times l (all_beginning n t (all_owns (renumbered pairs bs)))

    abbrev pub on : Bool → Branches Provision → ℕ
    on t bs = times l (all_going_on n t (all_owns (renumbered pairs bs)))

    -- how often a child of the provisions of the wId does
    abbrev pub of_each : Branches Provision → ℕ
    of_each no_branches = 0
    of_each (more_branches (branch p below) bs) = if_so (bytes_eq p.wid k) (on false below) + of_each below + of_each bs

    pub hits_told : (t : Bool) (w : List ℕ) (bs : Branches Provision) → hits (all_placed n t w bs) ≡ if_so (bytes_eq root_wid k) (begun t bs) + if_so (bytes_eq w k) (on t bs) + of_each bs
    hits_told t w no_branches = omega (arith, if_none (bytes_eq root_wid k), if_none (bytes_eq w k))
    hits_told t w (more_branches (branch p below) bs) =
        let r : Bool = bytes_eq root_wid k in
        let level : List ℕ = level_with pairs p in
        let own : List (List ℕ) = cond (begins n t p.own) (level ∷ []) [] in
        let going : List (List ℕ) = cond (begins n t p.own) [] (level ∷ []) in
        let inner : List (List ℕ) = all_beginning n false (all_owns (renumbered pairs below)) in
        let outer : List (List ℕ) = all_beginning n t (all_owns (renumbered pairs bs)) in
        let later : List (List ℕ) = all_going_on n t (all_owns (renumbered pairs bs)) in
        let first : if_so r (times l ((own ++ inner) ++ outer)) ≡ if_so r (times l own) + if_so r (times l inner) + if_so r (times l outer) =
        ap (if_so r) (times-append l (own ++ inner) outer) ∙ if_sum r (times l (own ++ inner)) (times l outer)
        ∙ ap (λ m. m + if_so r (times l outer)) (ap (if_so r) (times-append l own inner) ∙ if_sum r (times l own) (times l inner)) in
        let second : if_so (bytes_eq w k) (times l (going ++ later)) ≡ if_so (bytes_eq w k) (times l going) + if_so (bytes_eq w k) (times l later) =
        ap (if_so (bytes_eq w k)) (times-append l going later) ∙ if_sum (bytes_eq w k) (times l going) (times l later) in
        let here : one_if (bytes_eq (cond (begins n t p.own) root_wid w) k && bytes_eq l level) ≡ if_so r (times l own) + if_so (bytes_eq w k) (times l going) = by (begins n t p.own) in
        omega (
          arith,
          first,
          second,
          here,
          hits_told false p.wid below,
          hits_told t w bs,
          hits-append (record { under = cond (begins n t p.own) root_wid w; provision = p } ∷ all_placed n false p.wid below) (all_placed n t w bs),
        )
      where
        by : (s : Bool) → one_if (bytes_eq (cond s root_wid w) k && bytes_eq l (level_with pairs p))
            ≡ if_so (bytes_eq root_wid k) (times l (cond s (level_with pairs p ∷ []) [])) + if_so (bytes_eq w k) (times l (cond s [] (level_with pairs p ∷ [])))
        by true = omega (arith, if_both (bytes_eq root_wid k) (bytes_eq l (level_with pairs p)), if_sum (bytes_eq root_wid k) (one_if (bytes_eq l (level_with pairs p))) 0, if_none (bytes_eq root_wid k), if_none (bytes_eq w k))
        by false = omega (arith, if_both (bytes_eq w k) (bytes_eq l (level_with pairs p)), if_sum (bytes_eq w k) (one_if (bytes_eq l (level_with pairs p))) 0, if_none (bytes_eq root_wid k), if_none (bytes_eq w k))

    of_none : (bs : Branches Provision) → any_holds k bs ≡ false → of_each bs ≡ 0
    of_none no_branches none = refl
    of_none (more_branches (branch p below) bs) none =
        let head : (bytes_eq p.wid k || any_holds k below) ≡ false = none_left _ _ none in
        let here : if_so (bytes_eq p.wid k) (on false below) ≡ 0 = ap (λ s. if_so s (on false below)) (none_left (bytes_eq p.wid k) _ head) in
        omega (arith, here, of_none below (none_right (bytes_eq p.wid k) _ head), of_none bs (none_right (bytes_eq p.wid k || any_holds k below) _ none))

    of_found : (q : Provision) (under bs : Branches Provision) → one_twice (all_wids bs) ≡ false → found k bs ≡ Some (branch q under) → of_each bs ≡ on false under
    of_found q under no_branches once there = absurd cc
    of_found q under (more_branches (branch r below) bs) once there =
        let d : AreDistinct r below bs = are_distinct r below bs once in
        elim (cases_Bool (bytes_eq r.wid k)) [
          | inl it ↦
              let same : r.wid ≡ k = same_text r.wid k it in
              let one : Some (branch r below) ≡ Some (branch q under) = sym (first_found k r below bs it) ∙ there in
              let is : below ≡ under = cc in
              let here : if_so (bytes_eq r.wid k) (on false below) ≡ on false under = ap (λ s. if_so s (on false below)) it ∙ ap (on false) is in
              omega (arith, here, of_none below (sym (ap (λ v. any_holds v below) same) ∙ d.not_beneath), of_none bs (sym (ap (λ v. any_holds v bs) same) ∙ d.not_behind))
          | inr other ↦
              let here : if_so (bytes_eq r.wid k) (on false below) ≡ 0 = ap (λ s. if_so s (on false below)) other in
              elim (first_of k (branch q under) below bs (sym (found_past k r below bs other) ∙ there)) [
                | beneath_it inner held ↦ omega (arith, here, of_found q under below d.beneath_once inner, of_none bs (d.apart k held))
                | behind_it none outer ↦ omega (arith, here, of_none below none, of_found q under bs d.behind_once outer)
              ]
        ]

    of_few : (bs : Branches Provision) → one_twice (all_wids bs) ≡ false → alike_beneath n (all_owns (renumbered pairs bs)) ≡ false → of_each bs ≤ 1
    of_few no_branches once unlike = omega arith
    of_few (more_branches (branch r below) bs) once unlike =
        let d : AreDistinct r below bs = are_distinct r below bs once in
        let kids : List (List ℕ) = all_going_on n false (all_owns (renumbered pairs below)) in
        let head : (one_twice kids || alike_beneath n (all_owns (renumbered pairs below))) ≡ false = none_left _ _ unlike in
        elim (cases_Bool (bytes_eq r.wid k)) [
          | inl it ↦
              let same : r.wid ≡ k = same_text r.wid k it in
              let here : if_so (bytes_eq r.wid k) (times l kids) ≡ times l kids = ap (λ s. if_so s (times l kids)) it in
              omega (
                arith,
                here,
                once_few kids l (none_left _ _ head),
                of_none below (sym (ap (λ v. any_holds v below) same) ∙ d.not_beneath),
                of_none bs (sym (ap (λ v. any_holds v bs) same) ∙ d.not_behind),
              )
          | inr other ↦
              let here : if_so (bytes_eq r.wid k) (times l kids) ≡ 0 = ap (λ s. if_so s (times l kids)) other in
              elim (cases_Bool (any_holds k below)) [
                | inl held ↦ omega (arith, here, of_few below d.beneath_once (none_right (one_twice kids) _ head), of_none bs (d.apart k held))
                | inr none ↦ omega (arith, here, of_none below none, of_few bs d.behind_once (none_right (one_twice kids || alike_beneath n (all_owns (renumbered pairs below))) _ unlike))
              ]
        ]

    none_top : (bs : Branches Provision) → on true bs ≡ 0
    none_top no_branches = refl
    none_top (more_branches (branch p below) bs) = none_top bs

    -- in a text whose eIds differ a level stands once beneath a node
    pub few_told : (bs : Branches Provision) → one_twice (all_wids bs) ≡ false → any_holds root_wid bs ≡ false
        → (one_twice (all_beginning n true (all_owns (renumbered pairs bs))) || alike_beneath n (all_owns (renumbered pairs bs))) ≡ false → hits (all_placed n true root_wid bs) ≤ 1
    few_told bs once apart differ =
        let few : begun true bs ≤ 1 = once_few (all_beginning n true (all_owns (renumbered pairs bs))) l (none_left _ _ differ) in
        elim (cases_Bool (bytes_eq root_wid k)) [
          | inl it ↦
              let one : if_so (bytes_eq root_wid k) (begun true bs) ≡ begun true bs = ap (λ s. if_so s (begun true bs)) it in
              let two : if_so (bytes_eq root_wid k) (on true bs) ≡ on true bs = ap (λ s. if_so s (on true bs)) it in
              omega (arith, few, one, two, hits_told true root_wid bs, none_top bs, of_none bs (sym (ap (λ v. any_holds v bs) (same_text root_wid k it)) ∙ apart))
          | inr other ↦
              let one : if_so (bytes_eq root_wid k) (begun true bs) ≡ 0 = ap (λ s. if_so s (begun true bs)) other in
              let two : if_so (bytes_eq root_wid k) (on true bs) ≡ 0 = ap (λ s. if_so s (on true bs)) other in
              omega (arith, one, two, hits_told true root_wid bs, of_few bs once (none_right (one_twice (all_beginning n true (all_owns (renumbered pairs bs)))) _ differ))
        ]

    -- beneath the root stand the levels that begin an eId, and beneath another node those of its children
    pub at_root : (bs : Branches Provision) → any_holds root_wid bs ≡ false → k ≡ root_wid → hits (all_placed n true root_wid bs) ≡ begun true bs
    at_root bs apart is =
        let it : bytes_eq root_wid k ≡ true = equal_text root_wid k (sym is) in
        let one : if_so (bytes_eq root_wid k) (begun true bs) ≡ begun true bs = ap (λ s. if_so s (begun true bs)) it in
        let two : if_so (bytes_eq root_wid k) (on true bs) ≡ on true bs = ap (λ s. if_so s (on true bs)) it in
        omega (arith, one, two, hits_told true root_wid bs, none_top bs, of_none bs (ap (λ v. any_holds v bs) is ∙ apart))

    pub at_node : (q : Provision) (under bs : Branches Provision) → one_twice (all_wids bs) ≡ false → bytes_eq root_wid k ≡ false → found k bs ≡ Some (branch q under)
        → hits (all_placed n true root_wid bs) ≡ on false under
    at_node q under bs once other there =
        let one : if_so (bytes_eq root_wid k) (begun true bs) ≡ 0 = ap (λ s. if_so s (begun true bs)) other in
        let two : if_so (bytes_eq root_wid k) (on true bs) ≡ 0 = ap (λ s. if_so s (on true bs)) other in
        omega (arith, one, two, hits_told true root_wid bs, of_found q under bs once there)

-- where a level stands once beneath each node, eIds differ
module _ (pairs : List (List ℕ × List ℕ)) (n : Numbering) where
  unlike : (bs : Branches Provision) → ((k l : List ℕ) → of_each pairs k l n bs ≤ 1) → alike_beneath n (all_owns (renumbered pairs bs)) ≡ false
  unlike no_branches few = refl
  unlike (more_branches (branch p below) bs) few =
      neither _ _
      (neither _ _
      (few_once (all_going_on n false (all_owns (renumbered pairs below))) (λ l.
      let it : if_so (bytes_eq p.wid p.wid) (on pairs p.wid l n false below) ≡ on pairs p.wid l n false below = ap (λ s. if_so s (on pairs p.wid l n false below)) (equal_text p.wid p.wid refl) in
      omega (arith, it, few p.wid l)))
      (unlike below (λ k l. omega (arith, few k l))))
      (unlike bs (λ k l. omega (arith, few k l)))

  pub differ_told : (bs : Branches Provision) → ((k l : List ℕ) → hits pairs k l (all_placed n true root_wid bs) ≤ 1)
      → (one_twice (all_beginning n true (all_owns (renumbered pairs bs))) || alike_beneath n (all_owns (renumbered pairs bs))) ≡ false
  differ_told bs few =
      neither _ _
      (few_once (all_beginning n true (all_owns (renumbered pairs bs))) (λ l.
      let it : if_so (bytes_eq root_wid root_wid) (begun pairs root_wid l n true bs) ≡ begun pairs root_wid l n true bs = ap (λ s. if_so s (begun pairs root_wid l n true bs)) (equal_text root_wid root_wid refl) in
      omega (arith, it, few root_wid l, hits_told pairs root_wid l n true root_wid bs)))
      (unlike bs (λ k l. omega (arith, few k l, hits_told pairs k l n true root_wid bs)))
