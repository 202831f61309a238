-- Two edits of which neither touches anything that the other touches give one text in either order.
use Rattle.std.proofs.Common.{◌≡◌, ◌∙◌, sym, ap, refl, subst, ℕ, Bool, true, false, cond, ◌||◌, ◌&&◌, List, [], ◌∷◌, ◌++◌, Some, option_map, inl, inr}
use Rattle.std.specs.Prelude.{is_some, Result, Ok}
use Rattle.std.specs.List.{list_all}
use Rattle.std.specs.Str.{bytes_eq}
use Rattle.std.proofs.lemmas.Bool.{and_parts, or_cases}
use Rattle.desk_base.specs.declared.id.Id.{Id}
use Rattle.act_tree.specs.Branches.{Branch, Branches, branch, no_branches, more_branches}
use Rattle.act_tree.specs.Brought.{bringer, has_brought}
use Rattle.act_tree.specs.Changes.{Step, has_wid, holds, any_holds, changed, joined, found, head_of, next_of, or_else}
use Rattle.act_tree.specs.Provisions.{Provision}
use Rattle.act_tree.specs.Wids.{all_wids, is_among, one_twice}
use Rattle.act_tree.specs.declared.cause.Cause.{Cause}
use Rattle.act_tree.specs.declared.cause.Cause.TheVariants.{TargetMissing, AnchorMissing}
use Rattle.act_tree.proofs.Frames.{or_left, or_right}
use Rattle.act_tree.proofs.Renumbering.{none_renumbered}
use Rattle.act_tree.proofs.Texts.{same_text, equal_text, other_text, bytes_eq_sym}
use Rattle.textual_mods.specs.Edits.{edited}
use Rattle.edit_laws.specs.Laws.{named_by, stand_apart, edits_apart, Touch, a_content, a_num, a_place, of_itself, all_beneath, touch_of, moves, takes_in, are_unmixed, touch_apart, wids_beneath, wids_at, wids_taken, LooksAtNoSibling, made_of}
use Rattle.textual_mods.specs.Targets.{provision_named}
use Rattle.textual_mods.specs.TextEdits.{with_spot, with_text}
use Rattle.textual_mods.specs.declared.edit.TextualMod.{TextualMod}
use Rattle.textual_mods.specs.declared.edit.TextualMod.TheVariants.{Repeal, SubstituteNodes, SubstituteText, InsertNodes, InsertText, Renumber, Split, Join}
use Rattle.textual_mods.proofs.Behind.{IsBehind}
use Rattle.edit_laws.proofs.EditsRestated.{Likewise, edit_likewise}
use Rattle.edit_laws.proofs.Held.{new_differs, IsNamed, named_as, is_held, IsOff, is_off, off_back, apart_unmixed, none_beneath, none_taken, not_itself}
use Rattle.edit_laws.proofs.JoinChange.{join_change}
use Rattle.edit_laws.proofs.OneChange.{IsClear, ReadsSame, IsFree, IsChange, repeal_change, substitution_change, insertion_change, split_change}
use Rattle.edit_laws.proofs.AtOnePlace.{one_place}
use Rattle.textual_mods.proofs.OnePlace.{held_among, all_among, held_found, first_found}
use Rattle.edit_laws.proofs.OneRestating.{IsRestating, AreSaid, first_of_them, text_restating, nums_restating, content_still, gives_both}
use Rattle.edit_laws.proofs.Readers.{found_reads, next_reads, read_still}
use Rattle.edit_laws.proofs.Restating.{Saying, as_it_was, inside_restated, restated, content_at, restated_both, some_mapped, content_of, found_restated, found_has, content_is_there, content_found}
use Rattle.edit_laws.proofs.Swapping.{always_followed, IsApart, swapped}
use Rattle.edit_laws.proofs.WidsLeft.{left_there}

-- what an edit does: one change, or other contents and nums
pub data IsForm (by : Id) (edit : TextualMod) (body : Branches Provision) : Type 0 where
  one_change : moves (touch_of edit) ≡ true → IsChange by edit body → IsForm by edit body
  other_texts : IsRestating by edit body → IsForm by edit body

-- what an edit names is there
abbrev AreNamed : TextualMod → Branches Provision → Type 0
AreNamed edit body = (v : List ℕ) → is_among v (named_by edit) ≡ true → (b : Branch Provision) × IsNamed v body b

form_of : (by : Id) (edit : TextualMod) (body x : Branches Provision) → one_twice (all_wids body) ≡ false → has_brought by body ≡ false → AreNamed edit body → edited by edit body ≡ Ok x → IsForm by edit body
form_of by (Repeal w) body x once fresh named made = of_it (named w (first_of_them w []))
  where
    of_it : (b : Branch Provision) × IsNamed w body b → IsForm by (Repeal w) body
    of_it (branch p under, is) = one_change refl (repeal_change by body fresh w p under is)
form_of by (SubstituteNodes w new) body x once fresh named made = of_it (named w (first_of_them w []))
  where
    of_it : (b : Branch Provision) × IsNamed w body b → IsForm by (SubstituteNodes w new) body
    of_it (branch p under, is) = one_change refl (substitution_change by body fresh w p under is new)
form_of by (SubstituteText w spot new) body x once fresh named made = of_it (named w (first_of_them w []))
  where
    of_it : (b : Branch Provision) × IsNamed w body b → IsForm by (SubstituteText w spot new) body
    of_it (branch p under, is) = other_texts (text_restating by (SubstituteText w spot new) body w p under is TargetMissing (with_spot spot new) refl refl (λ other. refl) x made)
form_of by (InsertNodes w pos new) body x once fresh named made = of_it (named w (first_of_them w []))
  where
    of_it : (b : Branch Provision) × IsNamed w body b → IsForm by (InsertNodes w pos new) body
    of_it (branch p under, is) = one_change refl (insertion_change by body fresh w p under is pos new)
form_of by (InsertText w at new) body x once fresh named made = of_it (named w (first_of_them w []))
  where
    of_it : (b : Branch Provision) × IsNamed w body b → IsForm by (InsertText w at new) body
    of_it (branch p under, is) = other_texts (text_restating by (InsertText w at new) body w p under is AnchorMissing (with_text at new) refl refl (λ other. refl) x made)
form_of by (Renumber pairs) body x once fresh named made = other_texts (nums_restating by pairs body named)
form_of by (Split w at num heading) body x once fresh named made = of_it (named w (first_of_them w []))
  where
    of_it : (b : Branch Provision) × IsNamed w body b → IsForm by (Split w at num heading) body
    of_it (branch p under, is) = one_change refl (split_change by body fresh w p under is at num heading x made)
form_of by (Join w second separator) body x once fresh named made = of_it (named w (first_of_them w (second ∷ []))) (named second (or_right (bytes_eq second w) _ (first_of_them second [])))
  where
    of_it : (b : Branch Provision) × IsNamed w body b → (c : Branch Provision) × IsNamed second body c → IsForm by (Join w second separator) body
    of_it (branch p under, is) (c, second_is) = one_change refl (join_change by body once w second separator p under c is second_is x made)

-- of none of the provisions that one names anything is touched that the other touches
abbrev pub AreOff : Branches Provision → TextualMod → TextualMod → Type 0
AreOff body one other = (v u : List ℕ) → is_among v (named_by one) ≡ true → is_among u (named_by other) ≡ true → IsOff (touch_of one) (touch_of other) body v u

all_of_them : (test : List ℕ → Bool) (ws : List (List ℕ)) → list_all test ws ≡ true → (w : List ℕ) → is_among w ws ≡ true → test w ≡ true
all_of_them test [] all w found = absurd cc
all_of_them test (v ∷ ws) all w found =
    let t = and_parts (test v) (list_all test ws) all in
    elim (or_cases (bytes_eq w v) (is_among w ws) found) [
      | inl same ↦ ap test (same_text w v same) ∙ t.0
      | inr later ↦ all_of_them test ws t.1 w later
    ]

all_weaker : (test weaker : List ℕ → Bool) → ((w : List ℕ) → test w ≡ true → weaker w ≡ true) → (ws : List (List ℕ)) → list_all test ws ≡ true → list_all weaker ws ≡ true
all_weaker test weaker less [] all = refl
all_weaker test weaker less (w ∷ ws) all =
    let t = and_parts (test w) (list_all test ws) all in
    ap (λ s. s && list_all weaker ws) (less w t.0) ∙ all_weaker test weaker less ws t.1

abbrev unmixed : Branches Provision → TextualMod → TextualMod → List ℕ → List ℕ → Bool
unmixed body one other v w = are_unmixed (touch_of one) (touch_of other) (provision_named v body) (provision_named w body)

-- edits of provisions that stand apart touch nothing together
pub apart_touch : (body : Branches Provision) (one other : TextualMod) → edits_apart body one other ≡ true → touch_apart body one other ≡ true
apart_touch body one other told =
    all_weaker (λ v. list_all (stand_apart body v) (named_by other)) (λ v. list_all (unmixed body one other v) (named_by other))
    (λ v all. all_weaker (stand_apart body v) (unmixed body one other v) (λ w apart. apart_unmixed (touch_of one) (touch_of other) (provision_named v body) (provision_named w body) apart) (named_by other) all) (named_by one) told

are_off : (body : Branches Provision) (one other : TextualMod) → one_twice (all_wids body) ≡ false → touch_apart body one other ≡ true → AreOff body one other
are_off body one other once told v u named other_named =
    is_off (touch_of one) (touch_of other) body v u once (all_of_them (unmixed body one other v) (named_by other) (all_of_them (λ x. list_all (unmixed body one other x) (named_by other)) (named_by one) told v named) u other_named)

off_too : (body : Branches Provision) (one other : TextualMod) → AreOff body one other → AreOff body other one
off_too body one other off v u named other_named = off_back (touch_of one) (touch_of other) body u v (off u v other_named named)

-- a wId that another edit names is clear of an edit
clear_of : (body : Branches Provision) (one other : TextualMod) → AreOff body one other → moves (touch_of one) ≡ true → moves (touch_of other) ≡ true → (v u : List ℕ) → is_among v (named_by one) ≡ true → is_among u (named_by other) ≡ true
    → IsClear one body u
clear_of body one other off moving other_moving v u named other_named =
    let place : IsOff (touch_of one) (touch_of other) body v u = off v u named other_named in
    record {
      there = is_held u body place.other place.other_named.found_is;
      not_in = λ w b w_named is.
          let there : IsOff (touch_of one) (touch_of other) body w u = off w u w_named other_named in
          let same : Some b ≡ Some there.one = sym is ∙ there.one_named.found_is in
          let same_branch : b ≡ there.one = cc in
          ap (holds u) same_branch ∙ none_beneath (touch_of one) (touch_of other) u there.one moving other_moving there.not_in_one;
    }

-- a change, as it stands to a wId that is clear of it
apart_from : (by : Id) (body : Branches Provision) (once : one_twice (all_wids body) ≡ false) (edit : TextualMod) (c : IsChange by edit body) (u : List ℕ) → IsClear edit body u
    → IsApart c.step c.place u c.at c.near c.made body
apart_from by body once edit c u clear =
    let free : IsFree u c.at c.near c.made = c.free u clear in
    record {
      makes = c.makes;
      not_in = free.not_in;
      not_near = free.not_near;
      not_made = free.not_made;
      not_own = c.not_own;
      alone = one_place c.place c.at body once c.found_is;
      followed = c.followed;
    }

-- at a provision of the wId nothing behind it bears on what is found, nor, if its next sibling is known, on the next
found_steady : (v : List ℕ) (a : Branch Provision) → has_wid v a ≡ true → (xs ys : Branches Provision) → found v (more_branches a xs) ≡ found v (more_branches a ys)
found_steady v (branch p below) it xs ys = first_found v p below xs it ∙ sym (first_found v p below ys it)

next_at : (v : List ℕ) (a : Branch Provision) → has_wid v a ≡ true → (xs : Branches Provision) → next_of v (more_branches a xs) ≡ head_of xs
next_at v (branch p below) it xs = ap (λ t. cond t (head_of xs) (or_else (next_of v below) (next_of v xs))) it

next_steady : (v : List ℕ) (a b : Branch Provision) (near rest : Branches Provision) → has_wid v a ≡ true → near ≡ more_branches b rest → (xs ys : Branches Provision)
    → next_of v (more_branches a (joined near xs)) ≡ next_of v (more_branches a (joined near ys))
next_steady v a b near rest it is xs ys =
    next_at v a it (joined near xs) ∙ ap (λ n. head_of (joined n xs)) is ∙ sym (next_at v a it (joined near ys) ∙ ap (λ n. head_of (joined n ys)) is)

-- two edits of a text, each made in the text and in what the other makes of it, with one outcome
pub record IsSwapped (by other : Id) (one two : TextualMod) (x u : Branches Provision) : Type 0 where
  pub both : Branches Provision
  pub second : edited other two x ≡ Ok both
  pub first : edited by one u ≡ Ok both

unless : (t : Bool) → (t ≡ true → ⊥) → t ≡ false
unless true never = absurd (never refl)
unless false never = refl

differs : (v w : List ℕ) (b : Branch Provision) → has_wid w b ≡ true → has_wid v b ≡ false → bytes_eq v w ≡ false
differs v w (branch p below) it none = ap (bytes_eq v) (sym (same_text p.wid w it)) ∙ bytes_eq_sym v p.wid ∙ none

module _ (body : Branches Provision) (once : one_twice (all_wids body) ≡ false) where
  -- what an edit reads is the same after a change of another
  reads_still : (by other : Id) (one two : TextualMod) → AreOff body one two → moves (touch_of one) ≡ true → moves (touch_of two) ≡ true → (c : IsChange by one body) (d : IsChange other two body)
      → ReadsSame two d.near body (changed c.step c.place body) d.place
  reads_still by other one two off moving other_moving c d =
      record {
        same = λ u named.
            let place : IsOff (touch_of one) (touch_of two) body c.place u = off c.place u c.named named in
            let back : holds c.place place.other ≡ false = none_beneath (touch_of two) (touch_of one) c.place place.other other_moving moving place.not_in_other in
            read_still (found u) u (found_reads u) c.step c.place place.other c.at no_branches c.near c.made
            (found_steady u place.other (found_has u place.other body place.other_named.found_is)) back refl body
            (one_place u place.other body once place.other_named.found_is) (always_followed u body)
            (apart_from by body once one c u (clear_of body one two off moving other_moving c.place u c.named named));
        next = λ b rest is.
            let free : IsFree c.place d.at d.near d.made = d.free c.place (clear_of body two one (off_too body one two off) other_moving moving d.place c.place d.named c.named) in
            read_still (next_of d.place) d.place (next_reads d.place) c.step c.place d.at c.at d.near c.near c.made
            (next_steady d.place d.at b d.near rest (found_has d.place d.at body d.found_is) is) free.not_in free.not_near body
            (one_place d.place d.at body once d.found_is) d.followed
            (apart_from by body once one c d.place (clear_of body one two off moving other_moving c.place d.place c.named d.named));
      }

  reads_itself : (edit : TextualMod) (near : Branches Provision) (v : List ℕ) → ReadsSame edit near body body v
  reads_itself edit near v = record { same = λ u named. refl; next = λ b rest is. refl }

  result_is : (by : Id) (edit : TextualMod) (c : IsChange by edit body) (x : Branches Provision) → edited by edit body ≡ Ok x → changed c.step c.place body ≡ x
  result_is by edit c x made =
      let same : Ok (changed c.step c.place body) ≡ Ok x = sym (c.is body (reads_itself edit c.near c.place)) ∙ made in
      cc

  changes_swapped : (by other : Id) (one two : TextualMod) → AreOff body one two → moves (touch_of one) ≡ true → moves (touch_of two) ≡ true → IsChange by one body → IsChange other two body
      → (x u : Branches Provision) → edited by one body ≡ Ok x → edited other two body ≡ Ok u → IsSwapped by other one two x u
  changes_swapped by other one two off moving other_moving c d x u made other_made =
      let x_is : changed c.step c.place body ≡ x = result_is by one c x made in
      let u_is : changed d.step d.place body ≡ u = result_is other two d u other_made in
      record {
        both = changed d.step d.place (changed c.step c.place body);
        second = ap (edited other two) (sym x_is) ∙ d.is (changed c.step c.place body) (reads_still by other one two off moving other_moving c d);
        first =
            ap (edited by one) (sym u_is) ∙ c.is (changed d.step d.place body) (reads_still other by two one (off_too body one two off) other_moving moving d c)
            ∙ ap Ok (swapped c.step d.step c.place d.place c.at d.at c.near c.made d.near d.made body
            (apart_from by body once one c d.place (clear_of body one two off moving other_moving c.place d.place c.named d.named))
            (apart_from other body once two d c.place (clear_of body two one (off_too body one two off) other_moving moving d.place c.place d.named c.named)));
      }

  texts_are : (by : Id) (edit : TextualMod) → AreNamed edit body → (r : IsRestating by edit body) (x : Branches Provision) → edited by edit body ≡ Ok x → restated r.content r.num body ≡ x
  texts_are by edit named r x made =
      let same : Ok (restated r.content r.num body) ≡ Ok x =
      sym (r.is body (record { there = λ w among. ap is_some (named w among).1.found_is; content = λ w among. refl })) ∙ made in
      cc

  gone_apart : (t : Touch) (w v : List ℕ) → IsOff all_beneath t body w v → is_among v (wids_at body w) ≡ false
  gone_apart t w v place =
      ap (λ s. is_among v (cond s (all_wids body) (wids_beneath (found w body)))) place.one_named.other ∙ ap (λ o. is_among v (wids_beneath o)) place.one_named.found_is
      ∙ sym (held_among v place.one) ∙ none_taken t v place.one place.not_in_one

  -- what another edit names does not go with an edit
  not_taken : (one two : TextualMod) → AreOff body one two → (v : List ℕ) → is_among v (named_by two) ≡ true → is_among v (wids_taken body one) ≡ false
  not_taken (Repeal w) two off v named = gone_apart (touch_of two) w v (off w v (first_of_them w []) named)
  not_taken (SubstituteNodes w new) two off v named = gone_apart (touch_of two) w v (off w v (first_of_them w []) named)
  not_taken (Join w second separator) two off v named =
      let place : IsOff of_itself (touch_of two) body second v = off second v (or_right (bytes_eq second w) _ (first_of_them second [])) named in
      ap (λ t. t || false) (differs v second place.one (found_has second place.one body place.one_named.found_is) (not_itself (touch_of two) v place.one place.not_in_one))
  not_taken (SubstituteText w spot new) two off v named = refl
  not_taken (InsertNodes w pos new) two off v named = refl
  not_taken (InsertText w at new) two off v named = refl
  not_taken (Renumber pairs) two off v named = refl
  not_taken (Split w at num heading) two off v named = refl

  change_and_texts : (by other : Id) (one two : TextualMod) → has_brought by body ≡ false → AreOff body one two → moves (touch_of one) ≡ true → AreNamed two body → IsRestating other two body
      → (x u : Branches Provision) → edited by one body ≡ Ok x → edited other two body ≡ Ok u → IsSwapped by other one two x u
  change_and_texts by other one two fresh off moving named r x u made other_made =
      let u_is : restated r.content r.num body ≡ u = texts_are other two named r u other_made in
      record {
        both = restated r.content r.num x;
        second = r.is x (record {
          there = λ w among. held_found w x ∙ held_there w among;
          content = λ w among.
              let it : (b : Branch Provision) × IsNamed w body b = named w (r.of_contents w among).1 in
              content_there w among it.0 it.1.found_is;
        });
        first = ap (edited by one) (sym u_is) ∙ made_too r.content r.num r.content_kept r.num_kept;
      }
    where
      not_new : (w : List ℕ) → IsBehind (bringer by) w → is_among w (named_by two) ≡ true → ⊥
      not_new w here among =
          absurd (let never : true ≡ false =
          sym (equal_text (bringer by ++ 95 ∷ 95 ∷ here.0) w (sym here.1)) ∙ new_differs by body w here.0 fresh (is_held w body (named w among).0 (named w among).1.found_is) in cc)

      not_read : (w : List ℕ) → touch_of one ≡ of_itself → is_among w (named_by one) ≡ true → is_among w r.contents ≡ true → ⊥
      not_read w own among given =
          let place : IsOff (touch_of one) (touch_of two) body w w = off w w among (r.of_contents w given).1 in
          absurd (let never : true ≡ false =
          sym (found_has w place.one body place.one_named.found_is) ∙ not_itself (touch_of two) w place.one (ap (λ t. takes_in t (touch_of two) place.one w) (sym own) ∙ place.not_in_one) in cc)

      made_too : (content num : Saying) → ((w text : List ℕ) → is_among w r.contents ≡ false → content w text ≡ text) → ((w text : List ℕ) → is_among w r.nums ≡ false → num w text ≡ text)
          → edited by one (restated content num body) ≡ Ok (restated content num x)
      made_too content num content_kept num_kept =
          let P : Result (Branches Provision) Cause → Type 0 = λ result. Likewise content num result (edited by one (restated content num body)) in
          subst P made (edit_likewise content num by body
          (λ w here text. (
            content_kept w text (unless (is_among w r.contents) (λ given. not_new w here (r.of_contents w given).1)),
            num_kept w text (unless (is_among w r.nums) (λ given. not_new w here (r.of_nums w given).1)),
          ))
          one moving (λ own w among text. content_kept w text (unless (is_among w r.contents) (not_read w own among))))

      held_there : (w : List ℕ) → is_among w (named_by two) ≡ true → any_holds w x ≡ true
      held_there w among =
          all_among w x ∙ left_there by body once fresh one x made w (sym (all_among w body) ∙ is_held w body (named w among).0 (named w among).1.found_is) (not_taken one two off w among)

      content_there : (w : List ℕ) → is_among w r.contents ≡ true → (b : Branch Provision) → found w body ≡ Some b → option_map content_of (found w x) ≡ option_map content_of (found w body)
      content_there w among (branch p under) is =
          let again : restated (content_at w p.own.content) as_it_was body ≡ body = content_is_there w p under body (one_place w (branch p under) body once is) in
          let same : Ok (restated (content_at w p.own.content) as_it_was x) ≡ Ok x =
          sym (made_too (content_at w p.own.content) as_it_was
          (λ v text none. ap (λ t. cond t p.own.content text) (other_text v w (λ it. absurd (let never : true ≡ false = sym among ∙ ap (λ k. is_among k r.contents) (sym it) ∙ none in cc))))
          (λ v text none. refl))
          ∙ ap (edited by one) again ∙ made in
          content_found w p.own.content x (let one : restated (content_at w p.own.content) as_it_was x ≡ x = cc in one) (held_there w (r.of_contents w among).1) ∙ sym (ap (option_map content_of) is)

  -- of no provision is the same touched by both
  not_both : (t : Touch) (one two : TextualMod) → AreOff body one two → touch_of one ≡ t → touch_of two ≡ t → (v : List ℕ) → is_among v (named_by one) ≡ true → is_among v (named_by two) ≡ true → ⊥
  not_both t one two off one_is two_is v named other_named =
      let place : IsOff (touch_of one) (touch_of two) body v v = off v v named other_named in
      touched t place.one (found_has v place.one body place.one_named.found_is)
      (ap (λ x. takes_in x t place.one v) (sym one_is) ∙ ap (λ x. takes_in (touch_of one) x place.one v) (sym two_is) ∙ place.not_in_one)
    where
      touched : (s : Touch) (b : Branch Provision) → has_wid v b ≡ true → takes_in s s b v ≡ false → ⊥
      touched a_content b it none = absurd (let never : true ≡ false = sym it ∙ none in cc)
      touched a_num b it none = absurd (let never : true ≡ false = sym it ∙ none in cc)
      touched a_place (branch p below) it none = absurd (let never : true ≡ false = sym (or_left _ (any_holds v below) it) ∙ none in cc)
      touched of_itself (branch p below) it none = absurd (let never : true ≡ false = sym (or_left _ (any_holds v below) it) ∙ none in cc)
      touched all_beneath (branch p below) it none = absurd (let never : true ≡ false = sym (or_left _ (any_holds v below) it) ∙ none in cc)

  texts_swapped : (by other : Id) (one two : TextualMod) → AreOff body one two → AreNamed one body → AreNamed two body → IsRestating by one body → IsRestating other two body
      → (x u : Branches Provision) → edited by one body ≡ Ok x → edited other two body ≡ Ok u → IsSwapped by other one two x u
  texts_swapped by other one two off named other_named r s x u made other_made =
      let x_is : restated r.content r.num body ≡ x = texts_are by one named r x made in
      let u_is : restated s.content s.num body ≡ u = texts_are other two other_named s u other_made in
      record {
        both = restated s.content s.num (restated r.content r.num body);
        second = ap (edited other two) (sym x_is) ∙ s.is (restated r.content r.num body) (said_too by other one two other_named r s contents_back);
        first =
            ap (edited by one) (sym u_is) ∙ r.is (restated s.content s.num body) (said_too other by two one named s r contents_apart)
            ∙ ap Ok (restated_both r.content r.num s.content s.num (gives_both r.content s.content r.contents s.contents r.content_kept s.content_kept contents_apart)
            (gives_both r.num s.num r.nums s.nums r.num_kept s.num_kept nums_apart) body);
      }
    where
      contents_apart : (w : List ℕ) → is_among w r.contents ≡ true → is_among w s.contents ≡ false
      contents_apart w it = unless (is_among w s.contents) (λ both. not_both a_content one two off (r.of_contents w it).0 (s.of_contents w both).0 w (r.of_contents w it).1 (s.of_contents w both).1)

      contents_back : (w : List ℕ) → is_among w s.contents ≡ true → is_among w r.contents ≡ false
      contents_back w it = unless (is_among w r.contents) (λ both. not_both a_content one two off (r.of_contents w both).0 (s.of_contents w it).0 w (r.of_contents w both).1 (s.of_contents w it).1)

      nums_apart : (w : List ℕ) → is_among w r.nums ≡ true → is_among w s.nums ≡ false
      nums_apart w it = unless (is_among w s.nums) (λ both. not_both a_num one two off (r.of_nums w it).0 (s.of_nums w both).0 w (r.of_nums w it).1 (s.of_nums w both).1)

      said_too : (by other : Id) (one two : TextualMod) → AreNamed two body → (r : IsRestating by one body) (s : IsRestating other two body) → ((w : List ℕ) → is_among w s.contents ≡ true → is_among w r.contents ≡ false)
          → AreSaid two s.contents body (restated r.content r.num body)
      said_too by other one two named r s apart =
          record {
            there = λ w among. ap is_some (found_restated r.content r.num w body) ∙ some_mapped (inside_restated r.content r.num) (found w body) ∙ ap is_some (named w among).1.found_is;
            content = λ w among.
                let it : (b : Branch Provision) × IsNamed w body b = named w (s.of_contents w among).1 in
                content_still r.content r.num w body it.0 it.1.found_is (λ text. r.content_kept w text (apart w among));
          }

swapped_back : (by other : Id) (one two : TextualMod) (x u : Branches Provision) → IsSwapped other by two one u x → IsSwapped by other one two x u
swapped_back by other one two x u s = record { both = s.both; second = s.first; first = s.second }

-- an edit that names nothing changes nothing
names_nothing : (by : Id) (edit : TextualMod) → named_by edit ≡ [] → (z : Branches Provision) → edited by edit z ≡ Ok z
names_nothing by (Repeal w) none z = absurd cc
names_nothing by (SubstituteNodes w new) none z = absurd cc
names_nothing by (SubstituteText w spot new) none z = absurd cc
names_nothing by (InsertNodes w pos new) none z = absurd cc
names_nothing by (InsertText w at new) none z = absurd cc
names_nothing by (Renumber []) none z = ap Ok (none_renumbered z)
names_nothing by (Renumber (pair ∷ pairs)) none z = absurd cc
names_nothing by (Split w at num heading) none z = absurd cc
names_nothing by (Join w second separator) none z = absurd cc

-- each of the two is made in what the other makes of the text, and both give one text
pub edits_swapped : (by other : Id) (one two : TextualMod) (body : Branches Provision) → one_twice (all_wids body) ≡ false → has_brought by body ≡ false → has_brought other body ≡ false
    → touch_apart body one two ≡ true → (x u : Branches Provision) → edited by one body ≡ Ok x → edited other two body ≡ Ok u → IsSwapped by other one two x u
edits_swapped by other one two body once fresh other_fresh told x u made other_made = by_names (named_by one) (named_by two) refl refl
  where
    off : AreOff body one two
    off = are_off body one two once told

    of_forms : AreNamed one body → AreNamed two body → IsForm by one body → IsForm other two body → IsSwapped by other one two x u
    of_forms one_named two_named (one_change moving c) (one_change other_moving d) = changes_swapped body once by other one two off moving other_moving c d x u made other_made
    of_forms one_named two_named (one_change moving c) (other_texts r) = change_and_texts body once by other one two fresh off moving two_named r x u made other_made
    of_forms one_named two_named (other_texts r) (one_change moving d) =
        swapped_back by other one two x u (change_and_texts body once other by two one other_fresh (off_too body one two off) moving one_named r u x other_made made)
    of_forms one_named two_named (other_texts r) (other_texts s) = texts_swapped body once by other one two off one_named two_named r s x u made other_made

    by_names : (vs us : List (List ℕ)) → named_by one ≡ vs → named_by two ≡ us → IsSwapped by other one two x u
    by_names [] us none other_names =
        let x_is : Ok x ≡ Ok body = sym made ∙ names_nothing by one none body in
        let same : x ≡ body = cc in
        record { both = u; second = ap (edited other two) same ∙ other_made; first = names_nothing by one none u }
    by_names (v ∷ vs) [] names none =
        let u_is : Ok u ≡ Ok body = sym other_made ∙ names_nothing other two none body in
        let same : u ≡ body = cc in
        record { both = x; second = names_nothing other two none x; first = ap (edited by one) same ∙ made }
    by_names (v ∷ vs) (w ∷ ws) names other_names =
        let v_named : is_among v (named_by one) ≡ true = ap (is_among v) names ∙ first_of_them v vs in
        let w_named : is_among w (named_by two) ≡ true = ap (is_among w) other_names ∙ first_of_them w ws in
        let one_named : AreNamed one body = λ k named. (let place : IsOff (touch_of one) (touch_of two) body k w = off k w named w_named in (place.one, place.one_named)) in
        let two_named : AreNamed two body = λ k named. (let place : IsOff (touch_of one) (touch_of two) body v k = off v k v_named named in (place.other, place.other_named)) in
        of_forms one_named two_named (form_of by one body x once fresh one_named made) (form_of other two body u once other_fresh two_named other_made)

-- two changes that look at no sibling, at provisions that stand apart
pub changes_apart : (one two : Step) (body : Branches Provision) (v w : List ℕ) → one_twice (all_wids body) ≡ false → stand_apart body v w ≡ true → LooksAtNoSibling one → LooksAtNoSibling two
    → any_holds w (made_of one (provision_named v body)) ≡ false → any_holds v (made_of two (provision_named w body)) ≡ false → changed one v (changed two w body) ≡ changed two w (changed one v body)
changes_apart one two body v w once told own other_own none other_none =
    let off : IsOff all_beneath all_beneath body v w = is_off all_beneath all_beneath body v w once (apart_unmixed all_beneath all_beneath (provision_named v body) (provision_named w body) told) in
    let named : provision_named v body ≡ Some off.one = named_as v body off.one_named.other ∙ off.one_named.found_is in
    let other_named : provision_named w body ≡ Some off.other = named_as w body off.other_named.other ∙ off.other_named.found_is in
    swapped one two v w off.one off.other no_branches (one off.one no_branches) no_branches (two off.other no_branches) body
    (record {
      makes = own off.one;
      not_in = off.not_in_one;
      not_near = refl;
      not_made = ap (λ o. any_holds w (made_of one o)) (sym named) ∙ none;
      not_own = refl;
      alone = one_place v off.one body once off.one_named.found_is;
      followed = always_followed v body;
    })
    (record {
      makes = other_own off.other;
      not_in = off.not_in_other;
      not_near = refl;
      not_made = ap (λ o. any_holds v (made_of two o)) (sym other_named) ∙ other_none;
      not_own = refl;
      alone = one_place w off.other body once off.other_named.found_is;
      followed = always_followed w body;
    })
