-- One number says something else of itself and has others right below it: the arena stays sound, and what stands in it stands again.
use Rattle.std.proofs.Common.{◌≡◌, ◌∙◌, sym, ap, refl, subst, ℕ, zero, suc, ◌+◌, ◌<◌, ◌≤◌, ◌==◌, Bool, true, false, cond, ◌||◌, List, [], ◌∷◌, ◌++◌, take, drop, Option, Some, None, ◌⊎◌, inl, inr, arith}
use Rattle.std.specs.List.{list_any}
use Rattle.std.specs.Str.{bytes_eq}
use Rattle.std.proofs.lemmas.Bool.{cases_Bool, cases_eq, or_cases, eq-eqb, eqb-true}
use Rattle.eid_paths.specs.Nums.{is_num}
use Rattle.act_tree.specs.Branches.{Branch, Branches, branch, no_branches, more_branches, height, heights}
use Rattle.act_tree.specs.Provisions.{Own, Provision}
use Rattle.act_tree.specs.Changes.{holds, any_holds, joined, first, behind}
use Rattle.act_tree.specs.Arena.{Laid, provision_in, above_in, below_in, name_in, is_hung, number_twice, Stands, StandAll}
use Rattle.act_tree.specs.Relisted.{IsRelisted}
use Rattle.act_tree.specs.TakenOff.{with_above}
use Rattle.act_tree.proofs.Texts.{equal_text, other_text}
use Rattle.act_tree.proofs.Frames.{or_left, or_right, none_left, none_right, put_down}
use Rattle.act_tree.proofs.Standing.{stands_below, Among, among}
use Rattle.act_tree.proofs.Climbing.{not_above}
use Rattle.act_tree.proofs.Renewals.{renewed_in, renewed, same_in}
use Rattle.act_tree.specs.Planted.{IsSound, Each}
use Rattle.act_tree.proofs.Sound.{Text, laid_standing}
use Rattle.act_tree.proofs.Times.{times, named_times, none_times, times_named, times_none, few_once}

pub own_above : (o : Option Laid) → with_above (above_in o) o ≡ o
own_above None = refl
own_above (Some x) = refl

pub provision_kept : (u : ℕ) (o : Option Laid) → provision_in (with_above u o) ≡ provision_in o
provision_kept u None = refl
provision_kept u (Some x) = refl

pub name_kept : (u : ℕ) (o : Option Laid) → name_in (with_above u o) ≡ name_in o
name_kept u None = refl
name_kept u (Some x) = refl

pub below_kept : (u : ℕ) (o : Option Laid) → below_in (with_above u o) ≡ below_in o
below_kept u None = refl
below_kept u (Some x) = refl

pub above_given : (u : ℕ) (o : Option Laid) (x : Laid) → o ≡ Some x → above_in (with_above u o) ≡ u
above_given u o x is = ap (λ p. above_in (with_above u p)) is

pub own_hung : (at : ℕ → Option Laid) (i : ℕ) (o : Option Laid) → is_hung at i (with_above i o) ≡ true
own_hung at i None = refl
own_hung at i (Some x) = or_left _ _ (eq-eqb i i refl)

pub hung_by : (at : ℕ → Option Laid) (k u : ℕ) (o : Option Laid) → above_in o ≡ u → list_any (λ j. j == k) (below_in (at u)) ≡ true → is_hung at k o ≡ true
hung_by at k u None up found = refl
hung_by at k u (Some y) up found = or_right (y.above == k) _ (ap (λ v. list_any (λ j. j == k) (below_in (at v))) up ∙ found)

module _ (P : ℕ → Branch Provision → Type 0) where
  pub each_joined : (is ks : List ℕ) (bs cs : Branches Provision) → Each P is bs → Each P ks cs → Each P (is ++ ks) (joined bs cs)
  each_joined [] ks no_branches cs e f = f
  each_joined (i ∷ is) ks no_branches cs e f = absurd e
  each_joined [] ks (more_branches b bs) cs e f = absurd e
  each_joined (i ∷ is) ks (more_branches b bs) cs e f = (e.0, each_joined is ks bs cs e.1 f)

  pub each_first : (n : ℕ) (ks : List ℕ) (bs : Branches Provision) → Each P ks bs → Each P (take n ks) (first n bs)
  each_first zero ks bs e = tt
  each_first (suc n) [] no_branches e = tt
  each_first (suc n) (k ∷ ks) no_branches e = absurd e
  each_first (suc n) [] (more_branches b bs) e = absurd e
  each_first (suc n) (k ∷ ks) (more_branches b bs) e = (e.0, each_first n ks bs e.1)

  pub each_behind : (n : ℕ) (ks : List ℕ) (bs : Branches Provision) → Each P ks bs → Each P (drop n ks) (behind n bs)
  each_behind zero ks bs e = e
  each_behind (suc n) [] no_branches e = tt
  each_behind (suc n) (k ∷ ks) no_branches e = absurd e
  each_behind (suc n) [] (more_branches b bs) e = absurd e
  each_behind (suc n) (k ∷ ks) (more_branches b bs) e = each_behind n ks bs e.1

-- a branch stands at a number, below whatever is above it, and has no provision of this wId
abbrev pub Apart : (ℕ → Option Laid) → (List ℕ → Option ℕ) → List ℕ → ℕ → Branch Provision → Type 0
Apart at number w k b = Stands at number (above_in (at k)) k b × (holds w b ≡ false)

-- those that stand below a number are such, if none has the wId
pub each_apart : (at : ℕ → Option Laid) (number : List ℕ → Option ℕ) (w : List ℕ) (u : ℕ) (ks : List ℕ) (bs : Branches Provision) → StandAll at number u ks bs → any_holds w bs ≡ false → Each (Apart at number w) ks bs
each_apart at number w u [] no_branches s none = tt
each_apart at number w u (k ∷ ks) no_branches s none = s
each_apart at number w u [] (more_branches b bs) s none = s
each_apart at number w u (k ∷ ks) (more_branches b bs) s none =
    let P : ℕ → Type 0 = λ v. Stands at number v k b in
    ((subst P (sym (stands_below at number b u k s.0)) s.0, none_left (holds w b) _ none), each_apart at number w u ks bs s.1 (none_right (holds w b) _ none))

-- those that stand right above themselves are such too
pub each_alone : (at : ℕ → Option Laid) (number : List ℕ → Option ℕ) (w : List ℕ) (ks : List ℕ) (bs : Branches Provision) → Each (λ k b. Stands at number k k b) ks bs → any_holds w bs ≡ false → Each (Apart at number w) ks bs
each_alone at number w [] no_branches e none = tt
each_alone at number w (k ∷ ks) no_branches e none = e
each_alone at number w [] (more_branches b bs) e none = e
each_alone at number w (k ∷ ks) (more_branches b bs) e none =
    let P : ℕ → Type 0 = λ v. Stands at number v k b in
    ((subst P (sym (stands_below at number b k k e.0)) e.0, none_left (holds w b) _ none), each_alone at number w ks bs e.1 (none_right (holds w b) _ none))

pub each_own : (at : ℕ → Option Laid) (number : List ℕ → Option ℕ) (ks : List ℕ) (bs : Branches Provision) → Each (λ k b. Stands at number k k b) ks bs → (k : ℕ) → list_any (λ j. j == k) ks ≡ true → above_in (at k) ≡ k
each_own at number [] bs e k found = absurd cc
each_own at number (j ∷ ks) no_branches e k found = absurd e
each_own at number (j ∷ ks) (more_branches b bs) e k found =
    elim (or_cases (j == k) (list_any (λ l. l == k) ks) found) [
      | inl it ↦ (let same : j ≡ k = eqb-true j k it in ap (λ l. above_in (at l)) (sym same) ∙ stands_below at number b j j e.0 ∙ same)
      | inr later ↦ each_own at number ks bs e.1 k later
    ]

-- a number that stands is not right below itself
pub not_itself : (at : ℕ → Option Laid) (number : List ℕ → Option ℕ) (p : Provision) (below : Branches Provision) (v k : ℕ) → Stands at number v k (branch p below) → list_any (λ j. j == k) (below_in (at k)) ≡ false
not_itself at number p below v k s =
    elim (cases_Bool (list_any (λ j. j == k) (below_in (at k)))) [
      | inl found ↦ absurd (
          let child : Among at number k k below = among at number below k k (below_in (at k)) s.1.1 found in
          let low : height child.it ≤ heights below = child.low in
          not_above at number child.it (branch p below) v k k s child.stands (omega arith) refl)
      | inr none ↦ none
    ]

-- of those right below a number some leave and others come, and none is named twice
pub record Swaps (at : ℕ → Option Laid) (u : ℕ) (gone come list : List ℕ) : Type 0 where
  pub there : (x : Laid) × (at u ≡ Some x)
  pub balance : (k : ℕ) → times k list + times k gone ≡ times k (below_in (at u)) + times k come
  pub fewer : (k : ℕ) → times k gone ≤ times k (below_in (at u))
  pub fresh : (k : ℕ) → times k (below_in (at u)) + times k come ≤ 1
  pub not_gone : list_any (λ j. j == u) gone ≡ false
  pub not_come : list_any (λ j. j == u) come ≡ false

module _ (at next : ℕ → Option Laid) (u : ℕ) (own : Own) (gone come list : List ℕ) (r : IsRelisted at next u own gone come list) where
  -- each other number says what it said, and has those below it that it had
  moved : (k : ℕ) → (k ≡ u → ⊥) → (v : ℕ) × (next k ≡ with_above v (at k))
  moved k other =
      elim (cases_Bool (list_any (λ j. j == k) gone)) [
        | inl leaves ↦ (k, r.left k leaves)
        | inr stays ↦ elim (cases_Bool (list_any (λ j. j == k) come)) [
          | inl comes ↦ (u, r.came k comes)
          | inr elsewhere ↦ (above_in (at k), r.others k other stays elsewhere ∙ sym (own_above (at k)))
        ]
      ]

  pub lists_stay : (k : ℕ) → (k ≡ u → ⊥) → below_in (next k) ≡ below_in (at k)
  lists_stay k other = let m : (v : ℕ) × (next k ≡ with_above v (at k)) = moved k other in ap below_in m.1 ∙ below_kept m.0 (at k)

  pub says_stay : (k : ℕ) → (k ≡ u → ⊥) → provision_in (next k) ≡ provision_in (at k)
  says_stay k other = let m : (v : ℕ) × (next k ≡ with_above v (at k)) = moved k other in ap provision_in m.1 ∙ provision_kept m.0 (at k)

  laid_on : (k : ℕ) (x : Laid) → (k ≡ u → ⊥) → at k ≡ Some x → next k ≡ Some (record { provision = x.provision; above = above_in (next k); below = x.below })
  laid_on k x other is =
      let m : (v : ℕ) × (next k ≡ with_above v (at k)) = moved k other in
      let now : next k ≡ Some (record { provision = x.provision; above = m.0; below = x.below }) = m.1 ∙ ap (with_above m.0) is in
      now ∙ ap (λ v. Some (record { provision = x.provision; above = v; below = x.below })) (sym (ap above_in now))

  pub above_same : above_in (next u) ≡ above_in (at u)
  above_same = ap above_in r.here

  pub list_now : below_in (next u) ≡ list
  list_now = ap below_in r.here

  module _ (s : Swaps at u gone come list) where
    -- who was listed by a number still is, unless it left
    listed_still : (v k : ℕ) → list_any (λ j. j == k) gone ≡ false → list_any (λ j. j == k) (below_in (at v)) ≡ true → list_any (λ j. j == k) (below_in (next v)) ≡ true
    listed_still v k stays found =
        elim (cases_eq v u) [
          | inl it ↦
              let some : 1 ≤ times k (below_in (at u)) = named_times k (below_in (at u)) (sym (ap (λ j. list_any (λ l. l == k) (below_in (at j))) it) ∙ found) in
              let none : times k gone ≡ 0 = none_times k gone stays in
              let sum : times k list + times k gone ≡ times k (below_in (at u)) + times k come = s.balance k in
              ap (λ j. list_any (λ l. l == k) (below_in (next j))) it ∙ ap (list_any (λ l. l == k)) list_now ∙ times_named k list (omega arith)
          | inr other ↦ ap (list_any (λ l. l == k)) (lists_stay v other) ∙ found
        ]

    hung_still : (k : ℕ) (o : Option Laid) → list_any (λ j. j == k) gone ≡ false → is_hung at k o ≡ true → is_hung next k o ≡ true
    hung_still k None stays hung = refl
    hung_still k (Some x) stays hung =
        elim (or_cases (x.above == k) (list_any (λ j. j == k) (below_in (at x.above))) hung) [
          | inl alone ↦ or_left _ _ alone
          | inr found ↦ or_right (x.above == k) _ (listed_still x.above k stays found)
        ]

    -- who comes is listed, and does not leave
    come_listed : (k : ℕ) → list_any (λ j. j == k) come ≡ true → list_any (λ j. j == k) list ≡ true
    come_listed k comes =
        let some : 1 ≤ times k come = named_times k come comes in
        let sum : times k list + times k gone ≡ times k (below_in (at u)) + times k come = s.balance k in
        let less : times k gone ≤ times k (below_in (at u)) = s.fewer k in
        times_named k list (omega arith)

    list_few : (k : ℕ) → times k list ≤ 1
    list_few k =
        let sum : times k list + times k gone ≡ times k (below_in (at u)) + times k come = s.balance k in
        let few : times k (below_in (at u)) + times k come ≤ 1 = s.fresh k in
        omega arith

    -- the arena stays sound, and those that came hang
    pub sound_after : (number : List ℕ → Option ℕ) (size : ℕ) → IsSound at number size → is_num own.num ≡ true → IsSound next number size
    sound_after number size sound num =
        let x : Laid = s.there.0 in
        let here : at u ≡ Some x = s.there.1 in
        let up : above_in (at u) ≡ x.above = ap above_in here in
        let hung_here : is_hung next u (next u) ≡ true =
        ap (is_hung next u) r.here ∙ ap (λ v. (v == u) || list_any (λ j. j == u) (below_in (next v))) up ∙ sym (ap (is_hung next u) here) ∙ hung_still u (at u) s.not_gone (sound.hung u) in
        record {
          hung = λ k. elim (cases_eq k u) [
            | inl it ↦ ap (λ j. is_hung next j (next j)) it ∙ hung_here
            | inr other ↦ elim (cases_Bool (list_any (λ j. j == k) gone)) [
              | inl leaves ↦ ap (is_hung next k) (r.left k leaves) ∙ own_hung next k (at k)
              | inr stays ↦ elim (cases_Bool (list_any (λ j. j == k) come)) [
                | inl comes ↦ elim (cases_eq (above_in (next k)) u) [
                  | inl over ↦ hung_by next k u (next k) over (ap (list_any (λ j. j == k)) list_now ∙ come_listed k comes)
                  | inr far ↦ ap (is_hung next k) (nothing_moved (next k) (at k) (r.came k comes) far)
                ]
                | inr elsewhere ↦ ap (is_hung next k) (r.others k other stays elsewhere) ∙ hung_still k (at k) stays (sound.hung k)
              ]
            ]
          ];
          once = λ k. elim (cases_eq k u) [
            | inl it ↦ ap (λ j. number_twice (below_in (next j))) it ∙ ap number_twice list_now ∙ few_once list list_few
            | inr other ↦ ap number_twice (lists_stay k other) ∙ sound.once k
          ];
          nums = λ k. elim (cases_eq k u) [
            | inl it ↦ ap (λ j. is_num (provision_in (next j)).own.num) it ∙ ap (λ o. is_num (provision_in o).own.num) r.here ∙ num
            | inr other ↦ ap (λ (p : Provision). is_num p.own.num) (says_stay k other) ∙ sound.nums k
          ];
          named = λ v k leads. elim (cases_eq k u) [
            | inl it ↦
                let was : name_in (at u) ≡ Some v = sym (ap (λ j. name_in (at j)) it) ∙ sound.named v k leads in
                ap (λ j. name_in (next j)) it ∙ ap name_in r.here ∙ ap (λ o. Some (provision_in o).wid) here ∙ sym (ap name_in here) ∙ was
            | inr other ↦ (let m : (v : ℕ) × (next k ≡ with_above v (at k)) = moved k other in ap name_in m.1 ∙ name_kept m.0 (at k) ∙ sound.named v k leads)
          ];
          empty = λ k past. elim (cases_eq k u) [
            | inl it ↦ absurd (let none : at u ≡ None = sym (ap at it) ∙ sound.empty k past in cc)
            | inr other ↦ (let m : (v : ℕ) × (next k ≡ with_above v (at k)) = moved k other in m.1 ∙ ap (with_above m.0) (sound.empty k past))
          ];
          fits = sound.fits;
        }
      where
        nothing_moved : (o p : Option Laid) → o ≡ with_above u p → (above_in o ≡ u → ⊥) → o ≡ None
        nothing_moved o None is far = is
        nothing_moved o (Some y) is far = absurd (far (ap above_in is))

    module _ (number : List ℕ → Option ℕ) (q : Provision) (under : Branches Provision) (stands : Stands at number (above_in (at u)) u (branch q under))
        (off : (k : ℕ) → list_any (λ j. j == k) come ≡ true → (above_in (at k) ≡ k) ⊎ (above_in (at k) ≡ u)) (new : Branches Provision) where
      of_number : (p : Provision) (below : Branches Provision) (v k : ℕ) → Stands at number v k (branch p below) → k ≡ u → p ≡ q
      of_number p below v k s it = sym (ap provision_in s.0) ∙ ap (λ j. provision_in (at j)) it ∙ ap provision_in stands.0

      of_other : (p : Provision) (below : Branches Provision) (v k : ℕ) → Stands at number v k (branch p below) → (k ≡ u → ⊥) → bytes_eq p.wid q.wid ≡ false
      of_other p below v k s other =
          other_text p.wid q.wid (λ same.
          let one : Some k ≡ Some u = sym s.1.0 ∙ ap number same ∙ stands.1.0 in
          let it : k ≡ u = cc in
          other it)

      -- who left was right below the number
      gone_above : (k : ℕ) → list_any (λ j. j == k) gone ≡ true → above_in (at k) ≡ u
      gone_above k leaves =
          let some : 1 ≤ times k gone = named_times k gone leaves in
          let less : times k gone ≤ times k (below_in (at u)) = s.fewer k in
          let child : Among at number u k under = among at number under u k (below_in (at u)) stands.1.1 (times_named k (below_in (at u)) (omega arith)) in
          stands_below at number child.it u k child.stands

      -- a branch below another number stands below it still
      above_stays : (b n : Branch Provision) (t v k : ℕ) → Stands at number t v n → height b < height n → (v ≡ u → ⊥) → Stands at number v k b → above_in (next k) ≡ v
      above_stays b n t v k parent low far st =
          let up : above_in (at k) ≡ v = stands_below at number b v k st in
          elim (cases_eq k u) [
            | inl it ↦ ap (λ j. above_in (next j)) it ∙ above_same ∙ sym (ap (λ j. above_in (at j)) it) ∙ up
            | inr other ↦ elim (cases_Bool (list_any (λ j. j == k) gone)) [
              | inl leaves ↦ absurd (far (sym up ∙ gone_above k leaves))
              | inr stays ↦ elim (cases_Bool (list_any (λ j. j == k) come)) [
                | inl comes ↦ absurd (elim (off k comes) [
                  | inl alone ↦ not_above at number b n t v k parent st low (sym up ∙ alone)
                  | inr over ↦ far (sym up ∙ over)
                ])
                | inr elsewhere ↦ ap above_in (r.others k other stays elsewhere) ∙ up
              ]
            ]
          ]

      here_stands : StandAll next number u list new → Stands next number (above_in (next u)) u (branch (record q { own = own }) new)
      here_stands all =
          let here : next u ≡ Some (record { provision = record q { own = own }; above = above_in (next u); below = list }) =
          r.here ∙ ap (λ v. Some (record { provision = record (provision_in (at u)) { own = own }; above = v; below = list })) (sym above_same)
          ∙ ap (λ p. Some (record { provision = record p { own = own }; above = above_in (next u); below = list })) (ap provision_in stands.0) in
          put_down next number (above_in (next u)) u (record q { own = own }) list new here stands.1.0 all

      mutual
        -- what stands, stands again with the number renewed, if those now below it stand there
        stood : (b : Branch Provision) (v k : ℕ) → Stands at number v k b → (holds q.wid b ≡ true → StandAll next number u list new) → Stands next number (above_in (next k)) k (renewed_in own new q.wid b)
        stood (branch p below) v k st there =
            let P : Bool → Type 0 = λ t. Stands next number (above_in (next k)) k (cond t (branch (record p { own = own }) new) (branch p (renewed own new q.wid below))) in
            elim (cases_eq k u) [
              | inl it ↦
                  let same : p ≡ q = of_number p below v k st it in
                  let of_it : bytes_eq p.wid q.wid ≡ true = equal_text p.wid q.wid (ap (λ (o : Provision). o.wid) same) in
                  let Q : ℕ → Type 0 = λ j. Stands next number (above_in (next j)) j (branch (record q { own = own }) new) in
                  let R : Provision → Type 0 = λ o. Stands next number (above_in (next k)) k (branch (record o { own = own }) new) in
                  subst P (sym of_it) (subst R (sym same) (subst Q (sym it) (here_stands (there (or_left _ _ of_it)))))
              | inr other ↦
                  subst P (sym (of_other p below v k st other))
                  (put_down next number (above_in (next k)) k p (below_in (at k)) (renewed own new q.wid below) (laid_on k (record { provision = p; above = v; below = below_in (at k) }) other st.0) st.1.0
                  (stood_all below (branch p below) v k (below_in (at k)) st (omega arith) other st.1.1 (λ held. there (or_right (bytes_eq p.wid q.wid) _ held))))
            ]

        stood_all : (bs : Branches Provision) (n : Branch Provision) (t v : ℕ) (ks : List ℕ) → Stands at number t v n → heights bs < height n → (v ≡ u → ⊥) → StandAll at number v ks bs
            → (any_holds q.wid bs ≡ true → StandAll next number u list new) → StandAll next number v ks (renewed own new q.wid bs)
        stood_all no_branches n t v [] parent low far st there = tt
        stood_all no_branches n t v (k ∷ ks) parent low far st there = absurd st
        stood_all (more_branches b bs) n t v [] parent low far st there = absurd st
        stood_all (more_branches b bs) n t v (k ∷ ks) parent low far st there =
            let P : ℕ → Type 0 = λ j. Stands next number j k (renewed_in own new q.wid b) in (
              subst P (above_stays b n t v k parent (omega arith) far st.0) (stood b v k st.0 (λ held. there (or_left _ _ held))),
              stood_all bs n t v ks parent (omega arith) far st.1 (λ held. there (or_right (holds q.wid b) _ held)),
            )

      -- a branch in which the number is not stands as it is, below whatever is above its number now
      pub apart_stands : (b : Branch Provision) (v k : ℕ) → Stands at number v k b → holds q.wid b ≡ false → Stands next number (above_in (next k)) k b
      apart_stands b v k st none =
          let P : Branch Provision → Type 0 = λ c. Stands next number (above_in (next k)) k c in
          subst P (same_in own new q.wid b none) (stood b v k st (λ held. absurd cc))

      pub each_still : (w : List ℕ) (ks : List ℕ) (bs : Branches Provision) → Each (Apart at number w) ks bs → any_holds q.wid bs ≡ false → Each (Apart next number w) ks bs
      each_still w [] no_branches e none = tt
      each_still w (k ∷ ks) no_branches e none = e
      each_still w [] (more_branches b bs) e none = e
      each_still w (k ∷ ks) (more_branches b bs) e none =
          ((apart_stands b (above_in (at k)) k e.0.0 (none_left (holds q.wid b) _ none), e.0.1), each_still w ks bs e.1 (none_right (holds q.wid b) _ none))

      -- who is right below the number now has it right above
      list_above : (k : ℕ) (b : Branch Provision) → Stands at number (above_in (at k)) k b → holds q.wid b ≡ false → list_any (λ j. j == k) list ≡ true → above_in (next k) ≡ u
      list_above k b st none found =
          elim (cases_Bool (list_any (λ j. j == k) come)) [
            | inl comes ↦ (let here : (x : Laid) × (at k ≡ Some x) = laid_standing at number b (above_in (at k)) k st in ap above_in (r.came k comes) ∙ above_given u (at k) here.0 here.1)
            | inr elsewhere ↦
                let some : 1 ≤ times k list = named_times k list found in
                let old : times k come ≡ 0 = none_times k come elsewhere in
                let sum : times k list + times k gone ≡ times k (below_in (at u)) + times k come = s.balance k in
                let few : times k (below_in (at u)) + times k come ≤ 1 = s.fresh k in
                let stays : list_any (λ j. j == k) gone ≡ false = times_none k gone (omega arith) in
                let child : Among at number u k under = among at number under u k (below_in (at u)) stands.1.1 (times_named k (below_in (at u)) (omega arith)) in
                ap above_in (r.others k (λ it. not_it b (above_in (at k)) k st none it) stays elsewhere) ∙ stands_below at number child.it u k child.stands
          ]
        where
          not_it : (c : Branch Provision) (v j : ℕ) → Stands at number v j c → holds q.wid c ≡ false → j ≡ u → ⊥
          not_it (branch p below) v j sc free it =
              let held : bytes_eq p.wid q.wid ≡ true = equal_text p.wid q.wid (ap (λ (o : Provision). o.wid) (of_number p below v j sc it)) in
              let never : bytes_eq p.wid q.wid ≡ false = none_left _ _ free in
              cc

      all_under : (ks : List ℕ) (bs : Branches Provision) → Each (Apart at number q.wid) ks bs → ((k : ℕ) → list_any (λ j. j == k) ks ≡ true → list_any (λ j. j == k) list ≡ true) → StandAll next number u ks bs
      all_under [] no_branches e found = tt
      all_under (k ∷ ks) no_branches e found = e
      all_under [] (more_branches b bs) e found = e
      all_under (k ∷ ks) (more_branches b bs) e found =
          let P : ℕ → Type 0 = λ v. Stands next number v k b in (
            subst P (list_above k b e.0.0 e.0.1 (found k (or_left _ _ (eq-eqb k k refl)))) (apart_stands b (above_in (at k)) k e.0.0 e.0.1),
            all_under ks bs e.1 (λ j later. found j (or_right (k == j) _ later)),
          )

      module _ (each : Each (Apart at number q.wid) list new) where
        -- those of the list stand below the number
        pub list_stands : StandAll next number u list new
        list_stands = all_under list new each (λ k found. found)

        -- and it stands with them
        pub stands_renewed : (b : Branch Provision) (v k : ℕ) → Stands at number v k b → Stands next number (above_in (next k)) k (renewed_in own new q.wid b)
        stands_renewed b v k st = stood b v k st (λ held. list_stands)

        pub it_stands : Stands next number (above_in (next u)) u (branch (record q { own = own }) new)
        it_stands = here_stands list_stands

        -- from the root down too
        pub root_renewed : (b : Branch Provision) → list_any (λ j. j == 0) come ≡ false → Stands at number 0 0 b → Stands next number 0 0 (renewed_in own new q.wid b)
        root_renewed b first st =
            let P : ℕ → Type 0 = λ v. Stands next number v 0 (renewed_in own new q.wid b) in
            let up : above_in (at 0) ≡ 0 = stands_below at number b 0 0 st in
            let here : (x : Laid) × (at 0 ≡ Some x) = laid_standing at number b 0 0 st in
            let stays : above_in (next 0) ≡ 0 = elim (cases_eq 0 u) [
              | inl it ↦ ap (λ j. above_in (next j)) it ∙ above_same ∙ sym (ap (λ j. above_in (at j)) it) ∙ up
              | inr other ↦ elim (cases_Bool (list_any (λ j. j == 0) gone)) [
                | inl leaves ↦ ap above_in (r.left 0 leaves) ∙ above_given 0 (at 0) here.0 here.1
                | inr kept ↦ ap above_in (r.others 0 other kept first) ∙ up
              ]
            ] in
            subst P stays (stands_renewed b 0 0 st)

-- a move: a number that stands is relisted, and what is below it then stands already
pub record Move (at next : ℕ → Option Laid) (number : List ℕ → Option ℕ) (u : ℕ) (own : Own) (gone come list : List ℕ) (q : Provision) (under new : Branches Provision) : Type 0 where
  pub relisted : IsRelisted at next u own gone come list
  pub swaps : Swaps at u gone come list
  pub stands : Stands at number (above_in (at u)) u (branch q under)
  pub off : (k : ℕ) → list_any (λ j. j == k) come ≡ true → (above_in (at k) ≡ k) ⊎ (above_in (at k) ≡ u)
  pub each : Each (Apart at number q.wid) list new

module _ {at next : ℕ → Option Laid} {number : List ℕ → Option ℕ} {u : ℕ} {own : Own} {gone come list : List ℕ} {q : Provision} {under new : Branches Provision}
    (m : Move at next number u own gone come list q under new) where
  -- a text is renewed
  pub text_moved : {size : ℕ} {b : Branch Provision} → is_num own.num ≡ true → list_any (λ j. j == 0) come ≡ false → Text at number size b → Text next number size (renewed_in own new q.wid b)
  text_moved {size} {b} num first t = record {
    sound = sound_after at next u own gone come list m.relisted m.swaps number size t.sound num;
    stands = root_renewed at next u own gone come list m.relisted m.swaps number q under m.stands m.off new m.each b first t.stands;
  }

  -- a text in which the number is not stays
  pub text_apart : {size : ℕ} {b : Branch Provision} → is_num own.num ≡ true → list_any (λ j. j == 0) come ≡ false → holds q.wid b ≡ false → Text at number size b → Text next number size b
  text_apart {size} {b} num first none t = let P : Branch Provision → Type 0 = λ c. Text next number size c in subst P (same_in own new q.wid b none) (text_moved num first t)

  -- the number stands with what is below it then
  pub it_moved : Stands next number (above_in (next u)) u (branch (record q { own = own }) new)
  it_moved = it_stands at next u own gone come list m.relisted m.swaps number q under m.stands m.off new m.each

  -- what the number is not in stands still
  pub apart_still : (b : Branch Provision) (v k : ℕ) → Stands at number v k b → holds q.wid b ≡ false → Stands next number (above_in (next k)) k b
  apart_still = apart_stands at next u own gone come list m.relisted m.swaps number q under m.stands m.off new

  pub all_still : (w : List ℕ) (ks : List ℕ) (bs : Branches Provision) → Each (Apart at number w) ks bs → any_holds q.wid bs ≡ false → Each (Apart next number w) ks bs
  all_still w = each_still at next u own gone come list m.relisted m.swaps number q under m.stands m.off new w
