-- The wIds that an edit leaves: those that were there, but for those that go with it, in their order.
use Rattle.std.proofs.Common.{◌≡◌, ◌∙◌, sym, ap, refl, subst, ℕ, Bool, true, false, cond, not, ◌||◌, List, [], ◌∷◌, ◌++◌, append_assoc, Option, Some, None, ◌⊎◌, inl, inr}
use Rattle.std.specs.Prelude.{is_some, Result, Ok, Err}
use Rattle.std.specs.List.{filter, list_any}
use Rattle.std.specs.Str.{bytes_eq}
use Rattle.std.proofs.lemmas.Bool.{cases_Bool, cond_both, and_parts}
use Rattle.std.proofs.lemmas.Bool.Decides.{Decides-eqb}
use Rattle.std.proofs.lemmas.List.{append-nil}
use Rattle.std.proofs.lemmas.List.Elements.{filter-append}
use Rattle.std.proofs.lemmas.List.Folds.{list_any-append}
use Rattle.std.proofs.lemmas.Map.Views.{any-filter_same}
use Rattle.std.proofs.lemmas.Slice.Eq.{starts_is}
use Rattle.desk_base.specs.declared.id.Id.{Id}
use Rattle.eid_paths.specs.Levels.{level_text}
use Rattle.act_tree.specs.Branches.{Branch, Branches, branch, no_branches, more_branches, branches_of}
use Rattle.act_tree.specs.Brought.{bringer, brought, has_brought, second_part}
use Rattle.act_tree.specs.Changes.{Step, has_wid, any_holds, is_in, removed, inside_changed, changed, joined, first, behind, instead, before, after, put_in, among_children, parted, merged, substituted, grafted, renumbered, root_wid, found, next_of}
use Rattle.act_tree.specs.Provisions.{Own, Provision}
use Rattle.act_tree.specs.Wids.{wids, all_wids, is_among, one_twice}
use Rattle.act_tree.specs.declared.cause.Cause.{Cause}
use Rattle.act_tree.proofs.ChangeLaws.{all_wids_renumbered, all_wids_changed}
use Rattle.act_tree.proofs.Frames.{or_left, or_right, none_left, none_right, Apart, twice_apart}
use Rattle.act_tree.proofs.Texts.{same_text}
use Rattle.textual_mods.specs.Edits.{edited}
use Rattle.textual_mods.specs.Joins.{join_of_kind, join_with_next, join_of}
use Rattle.edit_laws.specs.Laws.{is_brought_by, wids_beneath, wids_at, wids_taken}
use Rattle.textual_mods.specs.Splits.{cut_of, split_along, split_of}
use Rattle.textual_mods.specs.StructureEdits.{is_anchor, placed}
use Rattle.textual_mods.specs.Targets.{provision_named, children_named}
use Rattle.textual_mods.specs.TextEdits.{content_set, content_changed}
use Rattle.textual_mods.specs.declared.edit.Pos.{Pos}
use Rattle.textual_mods.specs.declared.edit.Pos.TheVariants as stands
use Rattle.textual_mods.specs.declared.edit.SplitAt.{SplitAt}
use Rattle.textual_mods.specs.declared.edit.TextualMod.{TextualMod}
use Rattle.textual_mods.specs.declared.edit.TextualMod.TheVariants.{Repeal, SubstituteNodes, SubstituteText, InsertNodes, InsertText, Renumber, Split, Join}
use Rattle.textual_mods.specs.declared.splitting.Cut.{Cut}
use Rattle.textual_mods.proofs.Behind.{brought_behind, all_none}
use Rattle.edit_laws.proofs.Held.{first_and_behind, fails_there, is_named}
use Rattle.edit_laws.proofs.JoinChange.{next_followed, own_apart}
use Rattle.edit_laws.proofs.OneChange.{taken_away}
use Rattle.edit_laws.proofs.AtOnePlace.{IsOnly, Alone, one_place}
use Rattle.textual_mods.proofs.OnePlace.{not_changed, elsewhere, held_found, AreDistinct, are_distinct, found_past, beneath_it, behind_it, first_of}
use Rattle.edit_laws.proofs.OneRestating.{first_of_them}
use Rattle.edit_laws.proofs.Swapping.{IsBefore, Followed, always_followed, Makes, made_there}

-- lists
filter_same : (p q : List ℕ → Bool) (ws : List (List ℕ)) → ((w : List ℕ) → is_among w ws ≡ true → p w ≡ q w) → filter p ws ≡ filter q ws
filter_same p q [] same = refl
filter_same p q (w ∷ ws) same =
    ap (λ t. cond t (w ∷ filter p ws) (filter p ws)) (same w (first_of_them w ws))
    ∙ ap (λ rest. cond (q w) (w ∷ rest) rest) (filter_same p q ws (λ v among. same v (or_right (bytes_eq v w) _ among)))

filter_nothing : (p : List ℕ → Bool) (ws : List (List ℕ)) → list_any p ws ≡ false → filter p ws ≡ []
filter_nothing p [] none = refl
filter_nothing p (w ∷ ws) none = ap (λ t. cond t (w ∷ filter p ws) (filter p ws)) (none_left (p w) _ none) ∙ filter_nothing p ws (none_right (p w) _ none)

-- those that are none of some texts
abbrev none_of : List (List ℕ) → List ℕ → Bool
none_of vs w = not (is_among w vs)

none_is_left : (vs ws : List (List ℕ)) → ((w : List ℕ) → is_among w ws ≡ true → is_among w vs ≡ true) → filter (none_of vs) ws ≡ []
none_is_left vs [] all = refl
none_is_left vs (w ∷ ws) all =
    ap (λ t. cond (not t) (w ∷ filter (none_of vs) ws) (filter (none_of vs) ws)) (all w (first_of_them w ws)) ∙ none_is_left vs ws (λ v among. all v (or_right (bytes_eq v w) _ among))

all_joined : (xs ys : Branches Provision) → all_wids (joined xs ys) ≡ all_wids xs ++ all_wids ys
all_joined no_branches ys = refl
all_joined (more_branches b xs) ys = ap (λ ws. wids b ++ ws) (all_joined xs ys) ∙ sym (append_assoc (wids b) (all_wids xs) (all_wids ys))

first_and_rest : (n : ℕ) (bs : Branches Provision) → all_wids (first n bs) ++ all_wids (behind n bs) ≡ all_wids bs
first_and_rest n bs = sym (all_joined (first n bs) (behind n bs)) ∙ ap all_wids (first_and_behind n bs)

-- some texts have come in the place of others
record IsAround (old new texts others : List (List ℕ)) : Type 0 where
  front : List (List ℕ)
  back : List (List ℕ)
  old_is : old ≡ front ++ (texts ++ back)
  new_is : new ≡ front ++ (others ++ back)

-- no text behind others has this one
none_far : (v : List ℕ) (near far : Branches Provision) → any_holds v (joined near far) ≡ false → any_holds v far ≡ false
none_far v no_branches far none = none
none_far v (more_branches b near) far none = none_far v near far (none_right _ _ none)

regroup : (front texts back more : List (List ℕ)) → (front ++ (texts ++ back)) ++ more ≡ front ++ (texts ++ (back ++ more))
regroup front texts back more = append_assoc front (texts ++ back) more ∙ ap (λ ws. front ++ ws) (append_assoc texts back more)

module _ (step : Step) (v : List ℕ) (at : Branch Provision) (near made : Branches Provision) (makes : Makes step at near made) (not_own : any_holds v near ≡ false) where
  around : (bs : Branches Provision) → one_twice (all_wids bs) ≡ false → found v bs ≡ Some at → Followed v near bs
      → IsAround (all_wids bs) (all_wids (changed step v bs)) (wids at ++ all_wids near) (all_wids made)
  around no_branches once is followed = absurd cc
  around (more_branches (branch p below) bs) once is followed =
      let d : AreDistinct p below bs = are_distinct p below bs once in
      elim (cases_Bool (bytes_eq p.wid v)) [
        | inl it ↦
            let alone : Alone v at (more_branches (branch p below) bs) = one_place v at (more_branches (branch p below) bs) once is in
            let only : IsOnly v at (branch p below) bs = alone.0 it in
            let follows : IsBefore near bs = followed.0 it in
            let far : Branches Provision = follows.far in
            record {
              front = [];
              back = all_wids far;
              old_is =
                  ap (λ cs. wids (branch p below) ++ all_wids cs) follows.is ∙ ap (λ ws. wids (branch p below) ++ ws) (all_joined near far)
                  ∙ sym (append_assoc (wids (branch p below)) (all_wids near) (all_wids far)) ∙ ap (λ b. (wids b ++ all_wids near) ++ all_wids far) only.is;
              new_is =
                  ap (λ cs. all_wids (changed step v (more_branches (branch p below) cs))) follows.is
                  ∙ ap all_wids (made_there step v at (branch p below) near made far makes it only.is only.beneath not_own) ∙ all_joined made (changed step v far)
                  ∙ ap (λ cs. all_wids made ++ all_wids cs) (not_changed step v far (none_far v near far (ap (any_holds v) (sym follows.is) ∙ only.behind)));
            }
        | inr other ↦ elim (first_of v at below bs (sym (found_past v p below bs other) ∙ is)) [
          | beneath_it here held ↦
              let r : IsAround (all_wids below) (all_wids (changed step v below)) (wids at ++ all_wids near) (all_wids made) = around below d.beneath_once here followed.1.0 in
              record {
                front = p.wid ∷ r.front;
                back = r.back ++ all_wids bs;
                old_is = ap (λ ws. p.wid ∷ (ws ++ all_wids bs)) r.old_is ∙ ap (λ ws. p.wid ∷ ws) (regroup r.front (wids at ++ all_wids near) r.back (all_wids bs));
                new_is =
                    ap all_wids (elsewhere step v (branch p below) bs other) ∙ ap (λ cs. (p.wid ∷ all_wids (changed step v below)) ++ all_wids cs) (not_changed step v bs (d.apart v held))
                    ∙ ap (λ ws. p.wid ∷ (ws ++ all_wids bs)) r.new_is ∙ ap (λ ws. p.wid ∷ ws) (regroup r.front (all_wids made) r.back (all_wids bs));
              }
          | behind_it none later ↦
              let r : IsAround (all_wids bs) (all_wids (changed step v bs)) (wids at ++ all_wids near) (all_wids made) = around bs d.behind_once later followed.1.1 in
              record {
                front = wids (branch p below) ++ r.front;
                back = r.back;
                old_is = ap (λ ws. wids (branch p below) ++ ws) r.old_is ∙ sym (append_assoc (wids (branch p below)) r.front ((wids at ++ all_wids near) ++ r.back));
                new_is =
                    ap all_wids (elsewhere step v (branch p below) bs other) ∙ ap (λ cs. (p.wid ∷ all_wids cs) ++ all_wids (changed step v bs)) (not_changed step v below none)
                    ∙ ap (λ ws. wids (branch p below) ++ ws) r.new_is ∙ sym (append_assoc (wids (branch p below)) r.front (all_wids made ++ r.back));
              }
        ]
      ]

-- what is filtered out of both, where what was there passes both but for what went
filters_around : (keep stay : List ℕ → Bool) (old new texts others : List (List ℕ)) → IsAround old new texts others → one_twice old ≡ false → ((w : List ℕ) → is_among w old ≡ true → keep w ≡ true)
    → ((w : List ℕ) → is_among w texts ≡ false → stay w ≡ true)
    → (one_twice texts ≡ false → ((w : List ℕ) → is_among w texts ≡ true → keep w ≡ true) → filter keep others ≡ filter stay texts) → filter keep new ≡ filter stay old
filters_around keep stay old new texts others r once kept stays same =
    ap (filter keep) r.new_is ∙ filter-append keep r.front (others ++ r.back) ∙ ap (λ ws. filter keep r.front ++ ws) (filter-append keep others r.back)
    ∙ ap (λ ws. ws ++ (filter keep others ++ filter keep r.back)) (filter_same keep stay r.front (λ w among. kept_there w (or_left _ _ among) ∙ sym (stays w (in_front w among))))
    ∙ ap (λ ws. filter stay r.front ++ (ws ++ filter keep r.back)) (same middle.first (λ w among. kept_there w (or_right (is_among w r.front) _ (list_any-append (bytes_eq w) texts r.back ∙ or_left _ _ among))))
    ∙ ap (λ ws. filter stay r.front ++ (filter stay texts ++ ws))
    (filter_same keep stay r.back (λ w among. kept_there w (or_right (is_among w r.front) _ (list_any-append (bytes_eq w) texts r.back ∙ or_right (is_among w texts) _ among)) ∙ sym (stays w (in_back w among (cases_Bool (is_among w texts))))))
    ∙ sym (ap (filter stay) r.old_is ∙ filter-append stay r.front (texts ++ r.back) ∙ ap (λ ws. filter stay r.front ++ ws) (filter-append stay texts r.back))
  where
    whole : Apart r.front (texts ++ r.back)
    whole = twice_apart r.front (texts ++ r.back) (ap one_twice (sym r.old_is) ∙ once)

    middle : Apart texts r.back
    middle = twice_apart texts r.back whole.second

    kept_there : (w : List ℕ) → (is_among w r.front || is_among w (texts ++ r.back)) ≡ true → keep w ≡ true
    kept_there w there = kept w (ap (is_among w) r.old_is ∙ list_any-append (bytes_eq w) r.front (texts ++ r.back) ∙ there)

    in_front : (w : List ℕ) → is_among w r.front ≡ true → is_among w texts ≡ false
    in_front w among = none_left (is_among w texts) _ (sym (list_any-append (bytes_eq w) texts r.back) ∙ whole.between w among)

    in_back : (w : List ℕ) → is_among w r.back ≡ true → (is_among w texts ≡ true) ⊎ (is_among w texts ≡ false) → is_among w texts ≡ false
    in_back w among (inl both) = absurd (let never : true ≡ false = sym among ∙ middle.between w both in cc)
    in_back w among (inr none) = none

module _ (by : Id) (body : Branches Provision) (once : one_twice (all_wids body) ≡ false) (fresh : has_brought by body ≡ false) where
  abbrev old : List ℕ → Bool
  old w = not (is_brought_by by w)

  is_old : (w : List ℕ) → is_among w (all_wids body) ≡ true → old w ≡ true
  is_old w there = ap not (fails_there (is_brought_by by) w (all_wids body) fresh there)

  new_is_not : (w rest : List ℕ) → w ≡ bringer by ++ 95 ∷ 95 ∷ rest → old w ≡ false
  new_is_not w rest is = ap not ((starts_is Decides-eqb w (bringer by ++ 95 ∷ 95 ∷ []) _ refl).1 rest (is ∙ sym (append_assoc (bringer by) (95 ∷ 95 ∷ []) rest)))

  none_old : (new : List (Branch Own)) → filter old (all_wids (brought by (branches_of new))) ≡ []
  none_old new =
      filter_nothing old (all_wids (brought by (branches_of new)))
      (all_none old (brought by (branches_of new)) (brought_behind by (λ w. old w ≡ false) (λ w here. new_is_not w here.0 here.1) (branches_of new)))

  -- an edit with which these go leaves the others
  abbrev Leaves : List (List ℕ) → Branches Provision → Type 0
  Leaves taken x = filter old (all_wids x) ≡ filter (none_of taken) (all_wids body)

  all_stay : Leaves [] body
  all_stay = filter_same old (none_of []) (all_wids body) (λ w there. is_old w there)

  module _ (step : Step) (w : List ℕ) (steady : (b : Branch Provision) (rest : Branches Provision) → filter old (all_wids (step b rest)) ≡ filter old (wids b ++ all_wids rest)) where
    mutual
      left_inside : (b : Branch Provision) → filter old (wids (inside_changed step w b)) ≡ filter old (wids b)
      left_inside (branch p below) = ap (λ ws. cond (old p.wid) (p.wid ∷ ws) ws) (left_changed below)

      left_changed : (bs : Branches Provision) → filter old (all_wids (changed step w bs)) ≡ filter old (all_wids bs)
      left_changed no_branches = refl
      left_changed (more_branches b bs) =
          let c : Branch Provision = inside_changed step w b in
          let rest : Branches Provision = changed step w bs in
          let same : filter old (wids c ++ all_wids rest) ≡ filter old (wids b ++ all_wids bs) =
          filter-append old (wids c) (all_wids rest) ∙ ap (λ ws. ws ++ filter old (all_wids rest)) (left_inside b) ∙ ap (λ ws. filter old (wids b) ++ ws) (left_changed bs)
          ∙ sym (filter-append old (wids b) (all_wids bs)) in
          cond_both (has_wid w b) (step c rest) (more_branches c rest) (λ left. filter old (all_wids left) ≡ filter old (wids b ++ all_wids bs)) (λ _. steady c rest ∙ same) (λ _. same)

    steps : Leaves [] (changed step w body)
    steps = left_changed body ∙ all_stay

  module _ (new : Branches Provision) (none : filter old (all_wids new) ≡ []) where
    skipped : (ws : List (List ℕ)) → filter old (all_wids new ++ ws) ≡ filter old ws
    skipped ws = filter-append old (all_wids new) ws ∙ ap (λ xs. xs ++ filter old ws) none

    put : (n : ℕ) (below : Branches Provision) (ws : List (List ℕ)) → filter old (all_wids (put_in n new below) ++ ws) ≡ filter old (all_wids below ++ ws)
    put n below ws =
        let front : List (List ℕ) = all_wids (first n below) in
        let back : List (List ℕ) = all_wids (behind n below) in
        ap (λ xs. filter old (xs ++ ws)) (all_joined (first n below) (joined new (behind n below)) ∙ ap (λ xs. front ++ xs) (all_joined new (behind n below)))
        ∙ ap (filter old) (regroup front (all_wids new) back ws)
        ∙ filter-append old front (all_wids new ++ (back ++ ws)) ∙ ap (λ xs. filter old front ++ xs) (skipped (back ++ ws)) ∙ sym (filter-append old front (back ++ ws))
        ∙ ap (filter old) (sym (append_assoc front back ws) ∙ ap (λ xs. xs ++ ws) (first_and_rest n below))

    among_steady : (n : ℕ) (b : Branch Provision) (rest : Branches Provision) → filter old (all_wids (among_children n new b rest)) ≡ filter old (wids b ++ all_wids rest)
    among_steady n (branch p below) rest = ap (λ ws. cond (old p.wid) (p.wid ∷ ws) ws) (put n below (all_wids rest))

    grafting : (w : List ℕ) (n : ℕ) → Leaves [] (grafted w n new body)
    grafting w n =
        cond_both (bytes_eq w root_wid) (put_in n new body) (changed (among_children n new) w body) (Leaves [])
        (λ _. ap (filter old) (sym (append-nil (all_wids (put_in n new body)))) ∙ put n body [] ∙ ap (filter old) (append-nil (all_wids body)) ∙ all_stay)
        (λ _. steps (among_children n new) w (among_steady n))

    placing : (pos : Pos) (w : List ℕ) → Leaves [] (placed pos w new body)
    placing stands.Before w = steps (before new) w (λ b rest. ap (filter old) (all_joined new (more_branches b rest)) ∙ skipped (wids b ++ all_wids rest))
    placing stands.After w =
        steps (after new) w (λ b rest.
        ap (λ ws. filter old (wids b ++ ws)) (all_joined new rest) ∙ filter-append old (wids b) (all_wids new ++ all_wids rest) ∙ ap (λ ws. filter old (wids b) ++ ws) (skipped (all_wids rest))
        ∙ sym (filter-append old (wids b) (all_wids rest)))
    placing stands.Start w = grafting w 0
    placing stands.End w = grafting w (children_named w body)

    taking : (w : List ℕ) → is_in w body ≡ true → Leaves (wids_at body w) (substituted w new body)
    taking w there = by_root (bytes_eq w root_wid) refl
      where
        by_found : bytes_eq w root_wid ≡ false → (o : Option (Branch Provision)) → found w body ≡ o → Leaves (wids_beneath o) (changed (instead new) w body)
        by_found other None is =
            absurd (let never : true ≡ false = sym there ∙ ap (λ t. t || any_holds w body) other ∙ sym (held_found w body) ∙ ap is_some is in cc)
        by_found other (Some at) is =
            filters_around old (none_of (wids at)) (all_wids body) (all_wids (changed (instead new) w body)) (wids at ++ []) (all_wids new)
            (around (instead new) w at no_branches new (λ far. refl) refl body once is (always_followed w body)) once is_old
            (λ v none. ap not (sym (ap (is_among v) (append-nil (wids at))) ∙ none))
            (λ _ _. none ∙ sym (none_is_left (wids at) (wids at ++ []) (λ v among. sym (ap (is_among v) (append-nil (wids at))) ∙ among)))

        by_root : (t : Bool) → bytes_eq w root_wid ≡ t → Leaves (cond t (all_wids body) (wids_beneath (found w body))) (cond t new (changed (instead new) w body))
        by_root true root = none ∙ sym (none_is_left (all_wids body) (all_wids body) (λ v among. among))
        by_root false other = by_found other (found w body) refl

  parted_steady : (n : ℕ) (head : List ℕ) (second : Provision) → old second.wid ≡ false → (b : Branch Provision) (rest : Branches Provision)
      → filter old (all_wids (parted n head second b rest)) ≡ filter old (wids b ++ all_wids rest)
  parted_steady n head second none (branch p below) rest =
      let front : List (List ℕ) = all_wids (first n below) in
      let back : List (List ℕ) = all_wids (behind n below) in
      ap (λ ws. cond (old p.wid) (p.wid ∷ ws) ws)
      (filter-append old front (second.wid ∷ (back ++ all_wids rest))
      ∙ ap (λ t. filter old front ++ cond t (second.wid ∷ filter old (back ++ all_wids rest)) (filter old (back ++ all_wids rest))) none
      ∙ sym (filter-append old front (back ++ all_wids rest))
      ∙ ap (filter old) (sym (append_assoc front back (all_wids rest)) ∙ ap (λ xs. xs ++ all_wids rest) (first_and_rest n below)))

  joining : (w second content : List ℕ) (p q : Provision) (under deep : Branches Provision) → found w body ≡ Some (branch p under) → next_of w body ≡ Some (branch q deep) → bytes_eq q.wid second ≡ true
      → Leaves (second ∷ []) (changed (merged content) w body)
  joining w second content p q under deep is next of_second =
      filters_around old (none_of (second ∷ [])) (all_wids body) (all_wids (changed (merged content) w body)) texts (all_wids (more_branches taken no_branches))
      (around (merged content) w (branch p under) near (more_branches taken no_branches) (λ far. refl) not_own body once is followed) once is_old
      (λ v none. ap (λ u. not (bytes_eq v u || false)) (sym (same_text q.wid second of_second))
      ∙ ap (λ t. not (t || false)) (none_left (bytes_eq v q.wid) _ (none_right (is_among v (wids (branch p under))) _ (sym (list_any-append (bytes_eq v) (wids (branch p under)) (all_wids near)) ∙ none))))
      both
    where
      near : Branches Provision
      near = more_branches (branch q deep) no_branches

      taken : Branch Provision
      taken = branch (record p { own = record p.own { content = content; refs = p.own.refs ++ q.own.refs } }) (joined under deep)

      texts : List (List ℕ)
      texts = wids (branch p under) ++ all_wids near

      followed : Followed w near body
      followed = next_followed w (branch p under) (branch q deep) body once is next

      not_own : any_holds w near ≡ false
      not_own = own_apart w (branch p under) near body (sym (held_found w body) ∙ ap is_some is) (one_place w (branch p under) body once is) followed

      other_than : (v : List ℕ) → (bytes_eq v q.wid ≡ true → ⊥) → none_of (second ∷ []) v ≡ true
      other_than v other =
          elim (cases_Bool (bytes_eq v second)) [
            | inl it ↦ absurd (other (ap (bytes_eq v) (same_text q.wid second of_second) ∙ it))
            | inr none ↦ ap (λ t. not (t || false)) none
          ]

      both : one_twice texts ≡ false → ((v : List ℕ) → is_among v texts ≡ true → old v ≡ true) → filter old (all_wids (more_branches taken no_branches)) ≡ filter (none_of (second ∷ [])) texts
      both single kept =
          let parts : Apart (wids (branch p under)) (all_wids near) = twice_apart (wids (branch p under)) (all_wids near) single in
          let there : (v : List ℕ) → (is_among v (wids (branch p under)) || is_among v (all_wids near)) ≡ true → old v ≡ true =
          λ v among. kept v (list_any-append (bytes_eq v) (wids (branch p under)) (all_wids near) ∙ among) in
          let near_is : (v : List ℕ) → is_among v (all_wids near) ≡ (bytes_eq v q.wid || is_among v (all_wids deep)) =
          λ v. ap (λ ws. bytes_eq v q.wid || is_among v ws) (append-nil (all_wids deep)) in
          ap (λ ws. filter old (p.wid ∷ ws)) (append-nil (all_wids (joined under deep)) ∙ all_joined under deep)
          ∙ filter-append old (wids (branch p under)) (all_wids deep)
          ∙ ap (λ ws. ws ++ filter old (all_wids deep))
          (filter_same old (none_of (second ∷ [])) (wids (branch p under)) (λ v among.
          there v (or_left _ _ among)
          ∙ sym (other_than v (λ same. let never : true ≡ false = sym (or_left (bytes_eq v q.wid) (is_among v (all_wids deep)) same) ∙ sym (near_is v) ∙ parts.between v among in absurd cc))))
          ∙ ap (λ ws. filter (none_of (second ∷ [])) (wids (branch p under)) ++ ws)
          (filter_same old (none_of (second ∷ [])) (all_wids deep) (λ v among.
          there v (or_right (is_among v (wids (branch p under))) _ (near_is v ∙ or_right (bytes_eq v q.wid) _ among))
          ∙ sym (other_than v (λ same.
          let twice : is_among q.wid (all_wids deep) ≡ false = sym (ap (is_among q.wid) (append-nil (all_wids deep))) ∙ none_left (is_among q.wid (all_wids deep ++ [])) _ parts.second in
          let never : true ≡ false = sym among ∙ ap (λ u. is_among u (all_wids deep)) (same_text v q.wid same) ∙ twice in
          absurd cc))))
          ∙ ap (λ ws. filter (none_of (second ∷ [])) (wids (branch p under)) ++ ws)
          (sym (ap (λ t. cond (not (t || false)) (q.wid ∷ filter (none_of (second ∷ [])) (all_wids deep)) (filter (none_of (second ∷ [])) (all_wids deep))) of_second)
          ∙ ap (λ ws. filter (none_of (second ∷ [])) (q.wid ∷ ws)) (sym (append-nil (all_wids deep))))
          ∙ sym (filter-append (none_of (second ∷ [])) (wids (branch p under)) (all_wids near))

  -- so it is of what an edit makes, if it makes something
  abbrev pub OkLeaves : List (List ℕ) → Result (Branches Provision) Cause → Type 0
  OkLeaves taken (Ok x) = Leaves taken x
  OkLeaves taken (Err cause) = Unit {0}

  tested : (taken : List (List ℕ)) (t : Bool) (x : Branches Provision) (cause : Cause) → (t ≡ true → Leaves taken x) → OkLeaves taken (cond t (Ok x) (Err cause))
  tested taken true x cause leaves = leaves refl
  tested taken false x cause leaves = tt

  content_leaves : (missing : Cause) (change : List ℕ → Option (List ℕ)) (w : List ℕ) (o : Option (Branch Provision)) → OkLeaves [] (content_changed missing change w o body)
  content_leaves missing change w None = tt
  content_leaves missing change w (Some (branch p below)) = set (change p.own.content)
    where
      set : (content : Option (List ℕ)) → OkLeaves [] (content_set w content body)
      set None = tt
      set (Some content) = ap (filter old) (all_wids_changed content w body) ∙ all_stay

  split_leaves : (w : List ℕ) (at : SplitAt) (num heading : List ℕ) (o : Option (Branch Provision)) → OkLeaves [] (split_of by w at num heading o body)
  split_leaves w at num heading None = tt
  split_leaves w at num heading (Some (branch p below)) = along (cut_of at p.own.content below)
    where
      along : (cut : Result Cut Cause) → OkLeaves [] (split_along by w num heading p cut body)
      along (Err cause) = tt
      along (Ok cut) =
          let second : Provision = second_part by p.own.element num heading cut.tail in
          steps (parted cut.children cut.head second) w (parted_steady cut.children cut.head second (new_is_not second.wid (level_text p.own.element num) refl))

  join_leaves : (w second separator : List ℕ) (o x : Option (Branch Provision)) → provision_named w body ≡ o → OkLeaves (second ∷ []) (join_of w second separator o x body)
  join_leaves w second separator None x is = tt
  join_leaves w second separator (Some b) None is = tt
  join_leaves w second separator (Some (branch p under)) (Some c) is = with_next (next_of w body) refl
    where
      of_second : (t : Bool) (r : Result (Branches Provision) Cause) (cause : Cause) → (t ≡ true → OkLeaves (second ∷ []) r) → OkLeaves (second ∷ []) (cond t r (Err cause))
      of_second true r cause leaves = leaves refl
      of_second false r cause leaves = tt

      with_next : (next : Option (Branch Provision)) → next_of w body ≡ next → OkLeaves (second ∷ []) (join_with_next w second separator p next body)
      with_next None next = tt
      with_next (Some (branch q deep)) next =
          of_second (bytes_eq q.wid second) (join_of_kind w separator p q body) _
          (λ it. tested (second ∷ []) _ _ _ (λ alike. joining w second _ p q under deep (is_named w body (branch p under) is).found_is next it))

  pub edit_leaves : (edit : TextualMod) → OkLeaves (wids_taken body edit) (edited by edit body)
  edit_leaves (Repeal w) =
      tested (wids_at body w) (is_in w body) (removed w body) _
      (λ there. ap (λ cs. filter old (all_wids (cond (bytes_eq w root_wid) no_branches cs))) (taken_away w body) ∙ taking no_branches refl w there)
  edit_leaves (SubstituteNodes w new) =
      tested (wids_at body w) (is_in w body) (substituted w (brought by (branches_of new)) body) _ (taking (brought by (branches_of new)) (none_old new) w)
  edit_leaves (SubstituteText w spot new) = content_leaves _ _ w (provision_named w body)
  edit_leaves (InsertNodes w pos new) =
      tested [] (is_anchor pos w body) (placed pos w (brought by (branches_of new)) body) _ (λ _. placing (brought by (branches_of new)) (none_old new) pos w)
  edit_leaves (InsertText w at new) = content_leaves _ _ w (provision_named w body)
  edit_leaves (Renumber pairs) = tested [] _ (renumbered pairs body) _ (λ _. ap (filter old) (all_wids_renumbered pairs body) ∙ all_stay)
  edit_leaves (Split w at num heading) = split_leaves w at num heading (provision_named w body)
  edit_leaves (Join w second separator) = join_leaves w second separator (provision_named w body) (provision_named second body) refl

  -- a wId that does not go is still there
  pub left_there : (edit : TextualMod) (x : Branches Provision) → edited by edit body ≡ Ok x → (w : List ℕ) → is_among w (all_wids body) ≡ true → is_among w (wids_taken body edit) ≡ false → is_among w (all_wids x) ≡ true
  left_there edit x made w there none =
      let P : Result (Branches Provision) Cause → Type 0 = OkLeaves (wids_taken body edit) in
      let leaves : Leaves (wids_taken body edit) x = subst P made (edit_leaves edit) in
      (and_parts (old w) (is_among w (all_wids x))
      (sym (any-filter_same (bytes_eq w) old (old w) (λ v same. ap old (sym (same_text w v same))) (all_wids x)) ∙ ap (is_among w) leaves
      ∙ any-filter_same (bytes_eq w) (none_of (wids_taken body edit)) true (λ v same. ap (none_of (wids_taken body edit)) (sym (same_text w v same)) ∙ ap not none) (all_wids body) ∙ there)).1
