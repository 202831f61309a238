-- Others in the place of a provision stand, in the text without it, among the children of the provision right above it.
use Rattle.std.proofs.Common.{◌≡◌, ◌∙◌, sym, ap, refl, subst, ℕ, zero, suc, true, false, ◌||◌, cond, List, ◌++◌, Option, Some, None, inl, inr}
use Rattle.std.specs.Prelude.{is_some}
use Rattle.std.specs.Str.{bytes_eq}
use Rattle.std.proofs.lemmas.Bool.{cases_Bool, cond_both}
use Rattle.act_tree.specs.Branches.{Branch, Branches, branch, no_branches, more_branches}
use Rattle.act_tree.specs.Changes.{has_wid, any_holds, inside_without, without, changed, instead, put_in, among_children, found, or_else}
use Rattle.act_tree.specs.Provisions.{Provision}
use Rattle.act_tree.specs.Wids.{wids, all_wids, one_twice}
use Rattle.act_tree.proofs.ChangeLaws.{same_without}
use Rattle.act_tree.proofs.Frames.{or_left, or_right, none_left, none_right}
use Rattle.act_tree.proofs.Texts.{same_text}
use Rattle.textual_mods.proofs.OnePlace.{AreDistinct, are_distinct, all_among, held_found, not_changed, passed, at_place, elsewhere, not_at, not_before, first_found, found_past, first_of, beneath_it, behind_it}
use Rattle.textual_mods.proofs.Sublists.{IsPart, no_texts, with, part-append, part_behind, not_among, part_once}

-- the provision of a wId stands behind so many of these
abbrev pub ChildAt : List ℕ → ℕ → Branches Provision → Type 0
ChildAt w place no_branches = ⊥
ChildAt w zero (more_branches b bs) = has_wid w b ≡ true
ChildAt w (suc place) (more_branches b bs) = ChildAt w place bs

pub held_child : (w : List ℕ) (place : ℕ) (bs : Branches Provision) → ChildAt w place bs → any_holds w bs ≡ true
held_child w place no_branches child = absurd child
held_child w zero (more_branches (branch q below) bs) child = or_left _ _ (or_left _ _ child)
held_child w (suc place) (more_branches (branch q below) bs) child = or_right (bytes_eq q.wid w || any_holds w below) _ (held_child w place bs child)

mutual
  wids_inside : (w : List ℕ) (b : Branch Provision) → IsPart (wids (inside_without w b)) (wids b)
  wids_inside w (branch p below) = with p.wid _ _ (wids_part w below)

  wids_part : (w : List ℕ) (bs : Branches Provision) → IsPart (all_wids (without w bs)) (all_wids bs)
  wids_part w no_branches = no_texts
  wids_part w (more_branches b bs) =
      cond_both (has_wid w b) (without w bs) (more_branches (inside_without w b) (without w bs)) (λ r. IsPart (all_wids r) (wids b ++ all_wids bs))
      (λ _. part_behind (wids b) _ _ (wids_part w bs))
      (λ _. part-append _ _ _ _ (wids_inside w b) (wids_part w bs))

-- wIds that differ do so without some of them
pub differ_without : (w : List ℕ) (bs : Branches Provision) → one_twice (all_wids bs) ≡ false → one_twice (all_wids (without w bs)) ≡ false
differ_without w bs once = part_once _ _ (wids_part w bs) once

none_without : (v w : List ℕ) (bs : Branches Provision) → any_holds v bs ≡ false → any_holds v (without w bs) ≡ false
none_without v w bs none = all_among v (without w bs) ∙ not_among v _ _ (wids_part w bs) (sym (all_among v bs) ∙ none)

-- a provision of another wId stays
pub past_without : (w : List ℕ) (q : Provision) (below bs : Branches Provision) → bytes_eq q.wid w ≡ false → without w (more_branches (branch q below) bs) ≡ more_branches (branch q (without w below)) (without w bs)
past_without w q below bs other = ap (λ t. cond t (without w bs) (more_branches (branch q (without w below)) (without w bs))) other

-- what stands beneath what is found is held
held_inside : (w v : List ℕ) (p : Provision) (under bs : Branches Provision) → any_holds w under ≡ true → found v bs ≡ Some (branch p under) → any_holds w bs ≡ true
held_inside w v p under no_branches held there = absurd cc
held_inside w v p under (more_branches (branch q below) bs) held there =
    elim (cases_Bool (bytes_eq q.wid v)) [
      | inl it ↦
          let one : Some (branch q below) ≡ Some (branch p under) = sym (first_found v q below bs it) ∙ there in
          let is : below ≡ under = cc in
          or_left _ _ (or_right (bytes_eq q.wid w) _ (ap (any_holds w) is ∙ held))
      | inr other ↦ elim (first_of v (branch p under) below bs (sym (found_past v q below bs other) ∙ there)) [
        | beneath_it here some ↦ or_left _ _ (or_right (bytes_eq q.wid w) _ (held_inside w v p under below held here))
        | behind_it none here ↦ or_right (bytes_eq q.wid w || any_holds w below) _ (held_inside w v p under bs held here)
      ]
    ]

none_found : (v : List ℕ) (bs : Branches Provision) → any_holds v bs ≡ false → found v bs ≡ None
none_found v bs none = by (found v bs) refl
  where
    by : (o : Option (Branch Provision)) → found v bs ≡ o → found v bs ≡ None
    by None is = is
    by (Some b) is = absurd (let never : true ≡ false = sym (ap is_some is) ∙ held_found v bs ∙ none in cc)

module _ (w : List ℕ) (new : Branches Provision) where
  -- side by side with what stands there
  pub at_children : (place : ℕ) (bs : Branches Provision) → one_twice (all_wids bs) ≡ false → ChildAt w place bs → changed (instead new) w bs ≡ put_in place new (without w bs)
  at_children place no_branches once child = absurd child
  at_children zero (more_branches (branch q below) bs) once child =
      let d : AreDistinct q below bs = are_distinct q below bs once in
      let none : any_holds w bs ≡ false = sym (ap (λ v. any_holds v bs) (same_text q.wid w child)) ∙ d.not_behind in
      at_place (instead new) w (branch q below) bs child
      ∙ ap (put_in zero new) (not_changed (instead new) w bs none ∙ sym (same_without w bs none)
      ∙ sym (ap (λ t. cond t (without w bs) (more_branches (branch q (without w below)) (without w bs))) child))
  at_children (suc place) (more_branches (branch q below) bs) once child =
      let d : AreDistinct q below bs = are_distinct q below bs once in
      let none = not_before q below bs d w (held_child w place bs child) in
      let under : any_holds w below ≡ false = none_right (bytes_eq q.wid w) _ none in
      passed (instead new) w (branch q below) bs none
      ∙ ap (more_branches (branch q below)) (at_children place bs d.behind_once child)
      ∙ sym (ap (put_in (suc place) new) (past_without w q below bs (none_left _ _ none) ∙ ap (λ c. more_branches (branch q c) (without w bs)) (same_without w below under)))

  module _ (v : List ℕ) (place : ℕ) (p : Provision) (under : Branches Provision) (child : ChildAt w place under) where
    -- the provision right above stays, and others stand among its children
    pub record IsPutInstead (bs : Branches Provision) : Type 0 where
      pub made : changed (instead new) w bs ≡ changed (among_children place new) v (without w bs)
      pub there : found v (without w bs) ≡ Some (branch p (without w under))

    abbrev step : Branches Provision → Branches Provision
    step bs = changed (among_children place new) v bs

    apart : (q : Provision) (below bs : Branches Provision) → bytes_eq q.wid v ≡ false → step (more_branches (branch q below) bs) ≡ more_branches (branch q (step below)) (step bs)
    apart q below bs other = elsewhere (among_children place new) v (branch q below) bs other

    pub put_instead : (bs : Branches Provision) → one_twice (all_wids bs) ≡ false → found v bs ≡ Some (branch p under) → IsPutInstead bs
    put_instead no_branches once is = absurd cc
    put_instead (more_branches (branch q below) bs) once is =
        let d : AreDistinct q below bs = are_distinct q below bs once in
        elim (cases_Bool (bytes_eq q.wid v)) [
          | inl it ↦
              let same : q.wid ≡ v = same_text q.wid v it in
              let one : Some (branch q below) ≡ Some (branch p under) = sym (first_found v q below bs it) ∙ is in
              let it_is : branch q below ≡ branch p under = cc in
              let kids : under ≡ below = cc in
              let here : ChildAt w place below = subst (ChildAt w place) kids child in
              let held : any_holds w below ≡ true = held_child w place below here in
              let other : bytes_eq q.wid w ≡ false = not_at q below bs d w held in
              let far : any_holds w bs ≡ false = d.apart w held in
              let none : any_holds v below ≡ false = sym (ap (λ u. any_holds u below) same) ∙ d.not_beneath in
              let past : any_holds v bs ≡ false = sym (ap (λ u. any_holds u bs) same) ∙ d.not_behind in
              record {
                made = elsewhere (instead new) w (branch q below) bs other
                    ∙ ap (λ c. more_branches (branch q c) (changed (instead new) w bs)) (at_children place below d.beneath_once here)
                    ∙ ap (more_branches (branch q (put_in place new (without w below)))) (not_changed (instead new) w bs far)
                    ∙ sym (ap step (past_without w q below bs other ∙ ap (more_branches (branch q (without w below))) (same_without w bs far))
                    ∙ at_place (among_children place new) v (branch q (without w below)) bs it
                    ∙ ap (λ c. more_branches (branch q (put_in place new c)) (step bs)) (not_changed (among_children place new) v (without w below) (none_without v w below none))
                    ∙ ap (more_branches (branch q (put_in place new (without w below)))) (not_changed (among_children place new) v bs past));
                there = ap (found v) (past_without w q below bs other) ∙ first_found v q (without w below) (without w bs) it ∙ ap (λ b. Some (inside_without w b)) it_is;
              }
          | inr else_where ↦ elim (first_of v (branch p under) below bs (sym (found_past v q below bs else_where) ∙ is)) [
            | beneath_it here some ↦
                let held : any_holds w below ≡ true = held_inside w v p under below (held_child w place under child) here in
                let other : bytes_eq q.wid w ≡ false = not_at q below bs d w held in
                let far : any_holds w bs ≡ false = d.apart w held in
                let r : IsPutInstead below = put_instead below d.beneath_once here in
                record {
                  made = elsewhere (instead new) w (branch q below) bs other
                      ∙ ap (λ c. more_branches (branch q c) (changed (instead new) w bs)) r.made
                      ∙ ap (more_branches (branch q (step (without w below)))) (not_changed (instead new) w bs far)
                      ∙ sym (ap step (past_without w q below bs other ∙ ap (more_branches (branch q (without w below))) (same_without w bs far))
                      ∙ apart q (without w below) bs else_where
                      ∙ ap (more_branches (branch q (step (without w below)))) (not_changed (among_children place new) v bs (d.apart v some)));
                  there = ap (found v) (past_without w q below bs other) ∙ found_past v q (without w below) (without w bs) else_where ∙ ap (λ o. or_else o (found v (without w bs))) r.there;
                }
            | behind_it none here ↦
                let held : any_holds w bs ≡ true = held_inside w v p under bs (held_child w place under child) here in
                let before = not_before q below bs d w held in
                let other : bytes_eq q.wid w ≡ false = none_left _ _ before in
                let clear : any_holds w below ≡ false = none_right (bytes_eq q.wid w) _ before in
                let r : IsPutInstead bs = put_instead bs d.behind_once here in
                let stays : without w (more_branches (branch q below) bs) ≡ more_branches (branch q below) (without w bs) = past_without w q below bs other ∙ ap (λ c. more_branches (branch q c) (without w bs)) (same_without w below clear) in
                record {
                  made = passed (instead new) w (branch q below) bs before
                      ∙ ap (more_branches (branch q below)) r.made
                      ∙ sym (ap step stays ∙ apart q below (without w bs) else_where ∙ ap (λ c. more_branches (branch q c) (step (without w bs))) (not_changed (among_children place new) v below none));
                  there = ap (found v) stays ∙ found_past v q below (without w bs) else_where ∙ ap (λ o. or_else o (found v (without w bs))) (none_found v below none) ∙ r.there;
                }
          ]
        ]
