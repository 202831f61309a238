-- Of a text that keeps the limits only the levels of both parts' children, and the new content, can be held against a join.
use Rattle.std.proofs.Common.{◌≡◌, ◌∙◌, sym, ap, refl, subst, ℕ, ◌+◌, ◌≤◌, Bool, true, false, cond, ◌||◌, max, List, [], ◌∷◌, ◌++◌, length, nat_lt, Some, None, inl, inr, arith}
use Rattle.std.specs.Str.{bytes_eq}
use Rattle.std.proofs.lemmas.Bool.{cases_Bool, cond_both, le-ltb}
use Rattle.eid_paths.specs.declared.numbering.Numbering.{Numbering}
use Rattle.act_tree.specs.Branches.{Branch, Branches, branch, no_branches, more_branches, height, heights, count, counts}
use Rattle.act_tree.specs.Changes.{has_wid, any_holds, inside_changed, changed, joined, merged, found, next_of, or_else}
use Rattle.act_tree.specs.EidLevels.{begins, own_level, beginning, all_beginning, going_on, all_going_on, alike_inside, alike_beneath, levels_on}
use Rattle.act_tree.specs.Faults.{owns, all_owns, is_long, has_long, have_long, first_fault}
use Rattle.act_tree.specs.Numbered.{are_numbered}
use Rattle.act_tree.specs.Provisions.{Provision}
use Rattle.act_tree.specs.Wids.{all_wids, is_among, one_twice}
use Rattle.act_tree.proofs.Frames.{none_left, none_right, neither}
use Rattle.act_tree.proofs.LevelsDiffer.{levels_decide}
use Rattle.act_tree.proofs.Nums.{changed_kept, merged_keeps}
use Rattle.act_tree.proofs.Texts.{same_text, equal_text}
use Rattle.textual_mods.proofs.RightBehind.{IsFirst, is_first, head_at, only_first, next_past, next_none}
use Rattle.textual_mods.proofs.Limits.{IsPlaced, is_placed, is_short, fault_by}
use Rattle.textual_mods.proofs.OnePlace.{first_of, beneath_it, behind_it, found_past, AreDistinct, are_distinct, not_changed, elsewhere, at_place}
use Rattle.act_tree.specs.declared.limits.TheConstants.{MAX_DEPTH, MAX_TEXT_BYTES}
use Rattle.act_tree.specs.declared.limits.NodeLimit.{NodeLimit}
use Rattle.act_tree.specs.NodeLimits.{most_nodes}

abbrev pub one_if : Bool → ℕ
one_if true = 1
one_if false = 0

-- how often a text stands among others
abbrev pub times : List ℕ → List (List ℕ) → ℕ
times x [] = 0
times x (w ∷ ws) = one_if (bytes_eq x w) + times x ws

pub times-append : (x : List ℕ) (vs ws : List (List ℕ)) → times x (vs ++ ws) ≡ times x vs + times x ws
times-append x [] ws = omega arith
times-append x (v ∷ vs) ws = omega (arith, times-append x vs ws)

pub none_times : (x : List ℕ) (ws : List (List ℕ)) → is_among x ws ≡ false → times x ws ≡ 0
none_times x [] none = refl
none_times x (w ∷ ws) none =
    let here : one_if (bytes_eq x w) ≡ 0 = ap one_if (none_left (bytes_eq x w) _ none) in
    let later : times x ws ≡ 0 = none_times x ws (none_right (bytes_eq x w) _ none) in
    omega arith

pub some_times : (x : List ℕ) (ws : List (List ℕ)) → is_among x ws ≡ true → 1 ≤ times x ws
some_times x [] there = absurd cc
some_times x (w ∷ ws) there =
    elim (cases_Bool (bytes_eq x w)) [
      | inl it ↦ (let here : one_if (bytes_eq x w) ≡ 1 = ap one_if it in omega arith)
      | inr other ↦
          let later : 1 ≤ times x ws = some_times x ws (sym (ap (λ t. t || is_among x ws) other) ∙ there) in
          omega arith
    ]

-- texts differ exactly where none stands more than once
pub few_once : (ws : List (List ℕ)) → ((x : List ℕ) → times x ws ≤ 1) → one_twice ws ≡ false
few_once [] few = refl
few_once (w ∷ ws) few =
    let here : one_if (bytes_eq w w) ≡ 1 = ap one_if (equal_text w w refl) in
    let most : one_if (bytes_eq w w) + times w ws ≤ 1 = few w in
    neither (is_among w ws) (one_twice ws)
    (elim (cases_Bool (is_among w ws)) [
      | inl there ↦ absurd (let more : 1 ≤ times w ws = some_times w ws there in omega arith)
      | inr none ↦ none
    ])
    (few_once ws (λ x. let all : one_if (bytes_eq x w) + times x ws ≤ 1 = few x in omega arith))

pub once_few : (ws : List (List ℕ)) (x : List ℕ) → one_twice ws ≡ false → times x ws ≤ 1
once_few [] x once = omega arith
once_few (w ∷ ws) x once =
    elim (cases_Bool (bytes_eq x w)) [
      | inl it ↦
          let here : one_if (bytes_eq x w) ≡ 1 = ap one_if it in
          let none : times x ws ≡ 0 = none_times x ws (ap (λ v. is_among v ws) (same_text x w it) ∙ none_left (is_among w ws) _ once) in
          omega arith
      | inr other ↦
          let here : one_if (bytes_eq x w) ≡ 0 = ap one_if other in
          let rest : times x ws ≤ 1 = once_few ws x (none_right (is_among w ws) _ once) in
          omega arith
    ]

module _ (n : Numbering) (x : List ℕ) where
  pub begun_joined : (t : Bool) (bs cs : Branches Provision) → times x (all_beginning n t (all_owns (joined bs cs))) ≡ times x (all_beginning n t (all_owns bs)) + times x (all_beginning n t (all_owns cs))
  begun_joined t no_branches cs = omega arith
  begun_joined t (more_branches b bs) cs =
      omega (arith, begun_joined t bs cs, times-append x (beginning n t (owns b)) (all_beginning n t (all_owns (joined bs cs))), times-append x (beginning n t (owns b)) (all_beginning n t (all_owns bs)))

  -- a join leaves levels that begin an eId out, and adds none
  begun_merged : (c : List ℕ) (t : Bool) (b : Branch Provision) (rest : Branches Provision)
      → times x (all_beginning n t (all_owns (merged c b rest))) ≤ times x (beginning n t (owns b)) + times x (all_beginning n t (all_owns rest))
  begun_merged c t b no_branches = omega (arith, times-append x (beginning n t (owns b)) [])
  begun_merged c t (branch p below) (more_branches (branch q under) rest) =
      let own : List (List ℕ) = cond (begins n t p.own) (own_level p.own ∷ []) [] in
      let next : List (List ℕ) = cond (begins n t q.own) (own_level q.own ∷ []) [] in
      let first : List (List ℕ) = all_beginning n false (all_owns below) in
      let second : List (List ℕ) = all_beginning n false (all_owns under) in
      let others : List (List ℕ) = all_beginning n t (all_owns rest) in
      let both : List (List ℕ) = all_beginning n false (all_owns (joined below under)) in
      omega (arith, begun_joined false below under, times-append x (own ++ both) others, times-append x own both, times-append x own first, times-append x (next ++ second) others, times-append x next second)

  mutual
    begun_inside : (c w : List ℕ) (t : Bool) (b : Branch Provision) → times x (beginning n t (owns (inside_changed (merged c) w b))) ≤ times x (beginning n t (owns b))
    begun_inside c w t (branch p below) =
        let own : List (List ℕ) = cond (begins n t p.own) (own_level p.own ∷ []) [] in
        omega (arith, begun_less c w false below, times-append x own (all_beginning n false (all_owns (changed (merged c) w below))), times-append x own (all_beginning n false (all_owns below)))

    begun_less : (c w : List ℕ) (t : Bool) (bs : Branches Provision) → times x (all_beginning n t (all_owns (changed (merged c) w bs))) ≤ times x (all_beginning n t (all_owns bs))
    begun_less c w t no_branches = omega arith
    begun_less c w t (more_branches b bs) =
        let inside : Branch Provision = inside_changed (merged c) w b in
        let rest : Branches Provision = changed (merged c) w bs in
        let here : times x (beginning n t (owns inside)) ≤ times x (beginning n t (owns b)) = begun_inside c w t b in
        let there : times x (all_beginning n t (all_owns rest)) ≤ times x (all_beginning n t (all_owns bs)) = begun_less c w t bs in
        let all : times x (all_beginning n t (all_owns (more_branches b bs))) ≡ times x (beginning n t (owns b)) + times x (all_beginning n t (all_owns bs)) = times-append x (beginning n t (owns b)) (all_beginning n t (all_owns bs)) in
        cond_both (has_wid w b) (merged c inside rest) (more_branches inside rest) (λ r. times x (all_beginning n t (all_owns r)) ≤ times x (all_beginning n t (all_owns (more_branches b bs))))
        (λ _. let less : times x (all_beginning n t (all_owns (merged c inside rest))) ≤ times x (beginning n t (owns inside)) + times x (all_beginning n t (all_owns rest)) = begun_merged c t inside rest in omega arith)
        (λ _. omega (arith, times-append x (beginning n t (owns inside)) (all_beginning n t (all_owns rest))))

  -- and so does it with the levels of siblings
  on_merged : (c : List ℕ) (t : Bool) (b : Branch Provision) (rest : Branches Provision)
      → times x (all_going_on n t (all_owns (merged c b rest))) ≤ times x (going_on n t (owns b)) + times x (all_going_on n t (all_owns rest))
  on_merged c t b no_branches = omega (arith, times-append x (going_on n t (owns b)) [])
  on_merged c t (branch p below) (more_branches (branch q under) rest) =
      let own : List (List ℕ) = cond (begins n t p.own) [] (own_level p.own ∷ []) in
      let next : List (List ℕ) = cond (begins n t q.own) [] (own_level q.own ∷ []) in
      let others : List (List ℕ) = all_going_on n t (all_owns rest) in
      omega (arith, times-append x own others, times-append x next others)

  on_inside : (c w : List ℕ) (t : Bool) (b : Branch Provision) → going_on n t (owns (inside_changed (merged c) w b)) ≡ going_on n t (owns b)
  on_inside c w t (branch p below) = refl

  on_less : (c w : List ℕ) (t : Bool) (bs : Branches Provision) → times x (all_going_on n t (all_owns (changed (merged c) w bs))) ≤ times x (all_going_on n t (all_owns bs))
  on_less c w t no_branches = omega arith
  on_less c w t (more_branches b bs) =
      let inside : Branch Provision = inside_changed (merged c) w b in
      let rest : Branches Provision = changed (merged c) w bs in
      let here : times x (going_on n t (owns inside)) ≡ times x (going_on n t (owns b)) = ap (times x) (on_inside c w t b) in
      let there : times x (all_going_on n t (all_owns rest)) ≤ times x (all_going_on n t (all_owns bs)) = on_less c w t bs in
      let all : times x (all_going_on n t (all_owns (more_branches b bs))) ≡ times x (going_on n t (owns b)) + times x (all_going_on n t (all_owns bs)) = times-append x (going_on n t (owns b)) (all_going_on n t (all_owns bs)) in
      cond_both (has_wid w b) (merged c inside rest) (more_branches inside rest) (λ r. times x (all_going_on n t (all_owns r)) ≤ times x (all_going_on n t (all_owns (more_branches b bs))))
      (λ _. let less : times x (all_going_on n t (all_owns (merged c inside rest))) ≤ times x (going_on n t (owns inside)) + times x (all_going_on n t (all_owns rest)) = on_merged c t inside rest in omega arith)
      (λ _. omega (arith, times-append x (going_on n t (owns inside)) (all_going_on n t (all_owns rest))))

pub heights_joined : (bs cs : Branches Provision) → heights (all_owns (joined bs cs)) ≡ max (heights (all_owns bs)) (heights (all_owns cs))
heights_joined no_branches cs = omega arith
heights_joined (more_branches b bs) cs = omega (arith, heights_joined bs cs)

pub counts_joined : (bs cs : Branches Provision) → counts (all_owns (joined bs cs)) ≡ counts (all_owns bs) + counts (all_owns cs)
counts_joined no_branches cs = omega arith
counts_joined (more_branches b bs) cs = omega (arith, counts_joined bs cs)

-- a text with a join is neither deeper nor larger
record IsNoMore (now before : Branches Provision) : Type 0 where
  pub low : heights (all_owns now) ≤ heights (all_owns before)
  pub few : counts (all_owns now) ≤ counts (all_owns before)

merged_no_more : (c : List ℕ) (b : Branch Provision) (rest : Branches Provision) → IsNoMore (merged c b rest) (more_branches b rest)
merged_no_more c b no_branches = record { low = omega arith; few = omega arith }
merged_no_more c (branch p below) (more_branches (branch q under) rest) = record { low = omega (arith, heights_joined below under); few = omega (arith, counts_joined below under) }

mutual
  low_inside : (c w : List ℕ) (b : Branch Provision) → height (owns (inside_changed (merged c) w b)) ≤ height (owns b)
  low_inside c w (branch p below) = (let less : IsNoMore (changed (merged c) w below) below = no_more c w below in let low : heights (all_owns (changed (merged c) w below)) ≤ heights (all_owns below) = less.low in omega arith)

  few_inside : (c w : List ℕ) (b : Branch Provision) → count (owns (inside_changed (merged c) w b)) ≤ count (owns b)
  few_inside c w (branch p below) = (let less : IsNoMore (changed (merged c) w below) below = no_more c w below in let few : counts (all_owns (changed (merged c) w below)) ≤ counts (all_owns below) = less.few in omega arith)

  no_more : (c w : List ℕ) (bs : Branches Provision) → IsNoMore (changed (merged c) w bs) bs
  no_more c w no_branches = record { low = omega arith; few = omega arith }
  no_more c w (more_branches b bs) =
      let inside : Branch Provision = inside_changed (merged c) w b in
      let rest : Branches Provision = changed (merged c) w bs in
      let later : IsNoMore rest bs = no_more c w bs in
      let low : heights (all_owns rest) ≤ heights (all_owns bs) = later.low in
      let few : counts (all_owns rest) ≤ counts (all_owns bs) = later.few in
      let joining : IsNoMore (merged c inside rest) (more_branches inside rest) = merged_no_more c inside rest in
      let low_join : heights (all_owns (merged c inside rest)) ≤ max (height (owns inside)) (heights (all_owns rest)) = joining.low in
      let few_join : counts (all_owns (merged c inside rest)) ≤ count (owns inside) + counts (all_owns rest) = joining.few in
      cond_both (has_wid w b) (merged c inside rest) (more_branches inside rest) (λ r. IsNoMore r (more_branches b bs))
      (λ _. record { low = omega (arith, low_inside c w b); few = omega (arith, few_inside c w b) })
      (λ _. record { low = omega (arith, low_inside c w b); few = omega (arith, few_inside c w b) })

abbrev too_long : List ℕ → Bool
too_long text = nat_lt MAX_TEXT_BYTES (length text)

alike_joined : (n : Numbering) (bs cs : Branches Provision) → alike_beneath n (all_owns bs) ≡ false → alike_beneath n (all_owns cs) ≡ false → alike_beneath n (all_owns (joined bs cs)) ≡ false
alike_joined n no_branches cs one two = two
alike_joined n (more_branches b bs) cs one two = neither _ _ (none_left (alike_inside n (owns b)) _ one) (alike_joined n bs cs (none_right (alike_inside n (owns b)) _ one) two)

pub long_joined : (bs cs : Branches Provision) → have_long (all_owns bs) ≡ false → have_long (all_owns cs) ≡ false → have_long (all_owns (joined bs cs)) ≡ false
long_joined no_branches cs one two = two
long_joined (more_branches b bs) cs one two = neither _ _ (none_left (has_long (owns b)) _ one) (long_joined bs cs (none_right (has_long (owns b)) _ one) two)

pub or_none : (s : Bool) → (s || false) ≡ s
or_none true = refl
or_none false = refl

-- what can be held against a join: two children of both parts that are alike, and a long content
record IsJoined (n : Numbering) (c : List ℕ) (both bs : Branches Provision) : Type 0 where
  pub alike : alike_beneath n (all_owns bs) ≡ one_twice (levels_on n both)
  pub long : have_long (all_owns bs) ≡ too_long c

module _ (n : Numbering) (c w : List ℕ) (p : Provision) (under : Branches Provision) (q : Provision) (deep : Branches Provision) where
  abbrev both : Branches Provision
  both = joined under deep

  -- the join where it is made
  here_joined : (r : Provision) (below rest : Branches Provision) → branch r below ≡ branch p under → alike_beneath n (all_owns (more_branches (branch r below) (more_branches (branch q deep) rest))) ≡ false
      → have_long (all_owns (more_branches (branch r below) (more_branches (branch q deep) rest))) ≡ false → IsJoined n c both (merged c (branch r below) (more_branches (branch q deep) rest))
  here_joined r below rest is unlike short =
      let same : below ≡ under = cc in
      let first : alike_inside n (owns (branch r below)) ≡ false = none_left _ _ unlike in
      let second : (alike_inside n (owns (branch q deep)) || alike_beneath n (all_owns rest)) ≡ false = none_right (alike_inside n (owns (branch r below))) _ unlike in
      let inner : alike_beneath n (all_owns (joined below deep)) ≡ false =
      alike_joined n below deep (none_right (one_twice (levels_on n below)) _ first) (none_right (one_twice (levels_on n deep)) _ (none_left _ _ second)) in
      let own_short : has_long (owns (branch r below)) ≡ false = none_left _ _ short in
      let rest_short : (has_long (owns (branch q deep)) || have_long (all_owns rest)) ≡ false = none_right (has_long (owns (branch r below))) _ short in
      let head : nat_lt MAX_TEXT_BYTES (length r.own.heading) ≡ false = none_left _ _ (none_left (is_long r.own) _ own_short) in
      let inner_short : have_long (all_owns (joined below deep)) ≡ false =
      long_joined below deep (none_right (is_long r.own) _ own_short) (none_right (is_long q.own) _ (none_left _ _ rest_short)) in
      record {
        alike = ap (λ t. (one_twice (levels_on n (joined below deep)) || t) || alike_beneath n (all_owns rest)) inner
            ∙ ap (λ t. (one_twice (levels_on n (joined below deep)) || false) || t) (none_right (alike_inside n (owns (branch q deep))) _ second)
            ∙ or_none (one_twice (levels_on n (joined below deep)) || false) ∙ or_none (one_twice (levels_on n (joined below deep)))
            ∙ ap (λ bs. one_twice (levels_on n (joined bs deep))) same;
        long = ap (λ t. ((t || too_long c) || have_long (all_owns (joined below deep))) || have_long (all_owns rest)) head
            ∙ ap (λ t. (too_long c || t) || have_long (all_owns rest)) inner_short
            ∙ ap (λ t. (too_long c || false) || t) (none_right (has_long (owns (branch q deep))) _ rest_short)
            ∙ or_none (too_long c || false) ∙ or_none (too_long c);
      }

  -- where the levels of siblings differ, they do after a join beneath
  once_on : (t : Bool) (bs : Branches Provision) → one_twice (all_going_on n t (all_owns bs)) ≡ false → one_twice (all_going_on n t (all_owns (changed (merged c) w bs))) ≡ false
  once_on t bs once =
      few_once (all_going_on n t (all_owns (changed (merged c) w bs)))
      (λ x. let most : times x (all_going_on n t (all_owns bs)) ≤ 1 = once_few (all_going_on n t (all_owns bs)) x once in omega (arith, on_less n x c w t bs))

  is_joined : (bs : Branches Provision) → one_twice (all_wids bs) ≡ false → found w bs ≡ Some (branch p under) → next_of w bs ≡ Some (branch q deep) → alike_beneath n (all_owns bs) ≡ false → have_long (all_owns bs) ≡ false
      → IsJoined n c both (changed (merged c) w bs)
  is_joined no_branches once there next unlike short = absurd cc
  is_joined (more_branches (branch r below) bs) once there next unlike short =
      let d : AreDistinct r below bs = are_distinct r below bs once in
      let P : Branches Provision → Type 0 = λ after. IsJoined n c both after in
      let inside : alike_inside n (owns (branch r below)) ≡ false = none_left _ _ unlike in
      let later : alike_beneath n (all_owns bs) ≡ false = none_right (alike_inside n (owns (branch r below))) _ unlike in
      let own_short : has_long (owns (branch r below)) ≡ false = none_left _ _ short in
      let later_short : have_long (all_owns bs) ≡ false = none_right (has_long (owns (branch r below))) _ short in
      elim (cases_Bool (bytes_eq r.wid w)) [
        | inl it ↦
            let same : r.wid ≡ w = same_text r.wid w it in
            let not_beneath : any_holds w below ≡ false = sym (ap (λ v. any_holds v below) same) ∙ d.not_beneath in
            let not_behind : any_holds w bs ≡ false = sym (ap (λ v. any_holds v bs) same) ∙ d.not_behind in
            let first : Some (branch r below) ≡ Some (branch p under) = sym (ap (λ t. or_else (cond t (Some (branch r below)) (found w below)) (found w bs)) it) ∙ there in
            let head : IsFirst (branch q deep) bs = is_first (branch q deep) bs (sym (head_at w r below bs it) ∙ next) in
            let Q : Branches Provision → Type 0 = λ cs. IsJoined n c both (merged c (branch r below) cs) in
            let after : changed (merged c) w (more_branches (branch r below) bs) ≡ merged c (branch r below) bs =
            at_place (merged c) w (branch r below) bs it
            ∙ ap (λ cs. merged c (branch r cs) (changed (merged c) w bs)) (not_changed (merged c) w below not_beneath)
            ∙ ap (merged c (branch r below)) (not_changed (merged c) w bs not_behind) in
            moved P (changed (merged c) w (more_branches (branch r below) bs)) (merged c (branch r below) bs) after
            (moved Q bs (more_branches (branch q deep) head.rest) head.is
            (here_joined r below head.rest (let one : branch r below ≡ branch p under = cc in one)
            (ap (λ cs. alike_beneath n (all_owns (more_branches (branch r below) cs))) (sym head.is) ∙ unlike)
            (ap (λ cs. have_long (all_owns (more_branches (branch r below) cs))) (sym head.is) ∙ short)))
        | inr other ↦
            let after : changed (merged c) w (more_branches (branch r below) bs) ≡ more_branches (branch r (changed (merged c) w below)) (changed (merged c) w bs) = elsewhere (merged c) w (branch r below) bs other in
            let follows : or_else (next_of w below) (next_of w bs) ≡ Some (branch q deep) = sym (next_past w r below bs other) ∙ next in
            moved P (changed (merged c) w (more_branches (branch r below) bs)) (more_branches (branch r (changed (merged c) w below)) (changed (merged c) w bs)) after
            (elim (first_of w (branch p under) below bs (sym (found_past w r below bs other) ∙ there)) [
              | beneath_it here held ↦
                  let rest : changed (merged c) w bs ≡ bs = not_changed (merged c) w bs (d.apart w held) in
                  let it : IsJoined n c both (changed (merged c) w below) =
                  is_joined below d.beneath_once here (only_first (next_of w below) (next_of w bs) (branch q deep) (next_none w bs (d.apart w held)) follows)
                  (none_right (one_twice (levels_on n below)) _ inside) (none_right (is_long r.own) _ own_short) in
                  record {
                    alike = ap (λ cs. (one_twice (levels_on n (changed (merged c) w below)) || alike_beneath n (all_owns (changed (merged c) w below))) || alike_beneath n (all_owns cs)) rest
                        ∙ ap (λ t. (t || alike_beneath n (all_owns (changed (merged c) w below))) || alike_beneath n (all_owns bs)) (once_on false below (none_left _ _ inside))
                        ∙ ap (λ t. alike_beneath n (all_owns (changed (merged c) w below)) || t) later
                        ∙ or_none (alike_beneath n (all_owns (changed (merged c) w below))) ∙ it.alike;
                    long = ap (λ cs. (is_long r.own || have_long (all_owns (changed (merged c) w below))) || have_long (all_owns cs)) rest
                        ∙ ap (λ t. (t || have_long (all_owns (changed (merged c) w below))) || have_long (all_owns bs)) (none_left _ _ own_short)
                        ∙ ap (λ t. have_long (all_owns (changed (merged c) w below)) || t) later_short
                        ∙ or_none (have_long (all_owns (changed (merged c) w below))) ∙ it.long;
                  }
              | behind_it none here ↦
                  let same : changed (merged c) w below ≡ below = not_changed (merged c) w below none in
                  let it : IsJoined n c both (changed (merged c) w bs) =
                  is_joined bs d.behind_once here (sym (ap (λ o. or_else o (next_of w bs)) (next_none w below none)) ∙ follows) later later_short in
                  record {
                    alike = ap (λ cs. (one_twice (levels_on n cs) || alike_beneath n (all_owns cs)) || alike_beneath n (all_owns (changed (merged c) w bs))) same
                        ∙ ap (λ t. t || alike_beneath n (all_owns (changed (merged c) w bs))) inside ∙ it.alike;
                    long = ap (λ cs. (is_long r.own || have_long (all_owns cs)) || have_long (all_owns (changed (merged c) w bs))) same
                        ∙ ap (λ t. t || have_long (all_owns (changed (merged c) w bs))) own_short ∙ it.long;
                  }
            ])
      ]
    where
      moved : (P : Branches Provision → Type 0) (now was : Branches Provision) → now ≡ was → P was → P now
      moved P now was same held = subst P (sym same) held

  -- the first fault of a text after a join
  pub fault_of_join : (limit : NodeLimit) (bs : Branches Provision) → are_numbered bs ≡ true → first_fault n limit (all_owns bs) ≡ None → one_twice (all_wids bs) ≡ false → found w bs ≡ Some (branch p under) → next_of w bs ≡ Some (branch q deep)
      → first_fault n limit (all_owns (changed (merged c) w bs)) ≡ fault_by (one_twice (levels_on n both)) false false (too_long c)
  fault_of_join limit bs nums none once there next =
      let after : Branches Provision = changed (merged c) w bs in
      let placed : IsPlaced n limit (all_owns bs) = is_placed n limit (all_owns bs) none in
      let low : heights (all_owns bs) ≤ MAX_DEPTH = placed.low in
      let few : counts (all_owns bs) ≤ most_nodes limit = placed.few in
      let levels : (one_twice (all_beginning n true (all_owns bs)) || alike_beneath n (all_owns bs)) ≡ false = sym (levels_decide n bs nums) ∙ placed.once in
      let it : IsJoined n c both after = is_joined bs once there next (none_right (one_twice (all_beginning n true (all_owns bs))) _ levels) (is_short n limit (all_owns bs) none) in
      let begun : one_twice (all_beginning n true (all_owns after)) ≡ false = few_once (all_beginning n true (all_owns after))
      (λ x. let most : times x (all_beginning n true (all_owns bs)) ≤ 1 = once_few (all_beginning n true (all_owns bs)) x (none_left _ _ levels) in omega (arith, begun_less n x c w true bs)) in
      let less : IsNoMore after bs = no_more c w bs in
      let lower : heights (all_owns after) ≤ heights (all_owns bs) = less.low in
      let fewer : counts (all_owns after) ≤ counts (all_owns bs) = less.few in
      ap (λ t. fault_by t (nat_lt MAX_DEPTH (heights (all_owns after))) (nat_lt (most_nodes limit) (counts (all_owns after))) (have_long (all_owns after)))
      (levels_decide n after (changed_kept (merged c) w (merged_keeps c) bs nums) ∙ ap (λ t. t || alike_beneath n (all_owns after)) begun ∙ it.alike)
      ∙ ap (λ t. fault_by (one_twice (levels_on n both)) t (nat_lt (most_nodes limit) (counts (all_owns after))) (have_long (all_owns after))) (le-ltb MAX_DEPTH (heights (all_owns after)) (omega arith))
      ∙ ap (λ t. fault_by (one_twice (levels_on n both)) false t (have_long (all_owns after))) (le-ltb (most_nodes limit) (counts (all_owns after)) (omega arith))
      ∙ ap (λ t. fault_by (one_twice (levels_on n both)) false false t) it.long
