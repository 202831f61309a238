-- The first fault of a tree with provisions that are brought among the children of a node is told before.
use Rattle.std.proofs.Common.{◌≡◌, ◌∙◌, sym, ap, refl, ℕ, ◌+◌, ◌≤◌, ◌==◌, Bool, true, false, not, cond, ◌&&◌, ◌||◌, max, List, [], ◌∷◌, ◌++◌, nat_lt, Some, None, inl, inr, arith}
use Rattle.std.specs.Prelude.{Ok, Err, option_map, is_some, unwrap_or, slice_get}
use Rattle.std.specs.List.{list_any}
use Rattle.std.specs.Str.{bytes_eq}
use Rattle.std.proofs.lemmas.Bool.{cases_Bool, cond_both, and_parts, eqb-true, eq-eqb}
use Rattle.std.proofs.lemmas.List.Folds.{list_any-append}
use Rattle.desk_base.specs.declared.id.Id.{Id}
use Rattle.eid_paths.specs.declared.element.Element.{Element}
use Rattle.eid_paths.specs.declared.numbering.Numbering.{Numbering}
use Rattle.eid_paths.specs.Elements.{element_place, is_throughout}
use Rattle.eid_paths.specs.Levels.{level_text}
use Rattle.eid_paths.specs.Nums.{is_num}
use Rattle.act_tree.specs.declared.build_fault.BuildFault.{BuildFault}
use Rattle.act_tree.specs.declared.surveying.TheConstants.{NONE_THROUGHOUT}
use Rattle.act_tree.specs.declared.tree.Tree.{Tree}
use Rattle.act_tree.specs.Branches.{Branches, branch, no_branches, more_branches, heights, counts}
use Rattle.act_tree.specs.Brought.{bringer, brought}
use Rattle.act_tree.specs.Changes.{any_holds, changed, put_in, among_children, grafted, found, root_wid}
use Rattle.act_tree.specs.EidLevels.{begins, own_level, all_beginning, all_going_on, alike_beneath}
use Rattle.act_tree.specs.Eids.{eid_below, all_enacted}
use Rattle.act_tree.specs.Faults.{all_owns, all_eids, have_long, first_fault, first_cause, fault_cause}
use Rattle.act_tree.specs.Numbered.{are_numbered}
use Rattle.act_tree.specs.Provisions.{Own, Provision}
use Rattle.act_tree.specs.Seen.{tree_view, has_node, provision_at, below_at, with_body, grafted_at}
use Rattle.act_tree.specs.Wids.{all_wids, is_among, one_twice}
use Rattle.act_tree.proofs.BroughtWids.{none_throughout}
use Rattle.act_tree.proofs.FoundNodes.{found_at, nums_kept}
use Rattle.act_tree.proofs.Frames.{or_left, or_right, none_left, none_right, neither}
use Rattle.act_tree.proofs.LevelsDiffer.{levels_decide}
use Rattle.act_tree.proofs.LevelsFound.{level_told}
use Rattle.act_tree.proofs.Nums.{both, changed_kept, put_in_kept, among_children_keeps}
use Rattle.act_tree.proofs.ReplacedNodes.{not_root}
use Rattle.act_tree.proofs.Texts.{equal_text}
use Rattle.act_tree.proofs.Walking.{branch_is}
use Rattle.textual_mods.specs.Edits.{unless_for, within_limits}
use Rattle.textual_mods.specs.Insertions.{one_among, begins_again, all_begun_among, goes_on_again, on_among, heights_over, is_root, taken_among, fault_among, insertion_fault, have_nums}
use Rattle.textual_mods.proofs.InsertionLimits.{after, clashes, twice_or, for_one, begun_put, counts_put, heights_put, unlike_put, short_put, begun_after, counts_after, heights_after, short_after, alike_after, of_one}
use Rattle.textual_mods.proofs.JoinLimits.{times, times-append, few_once, once_few, one_if, or_none}
use Rattle.textual_mods.proofs.Limits.{is_placed, is_short, fault_by, faultless, heights_owns}
use Rattle.textual_mods.proofs.OnePlace.{held_found}
use Rattle.textual_mods.proofs.Starting.{owns_again}
use Rattle.act_tree.proofs.WidsDiffer.{wids_differ}
use Rattle.act_tree.specs.declared.limits.TheConstants.{MAX_DEPTH}
use Rattle.act_tree.specs.declared.limits.NodeLimit.{NodeLimit}
use Rattle.act_tree.specs.declared.limits.NodeLimit.TheVariants.{Plain}
use Rattle.act_tree.specs.NodeLimits.{most_nodes}

pub counts_owns : (bs : Branches Provision) → counts (all_owns bs) ≡ counts bs
counts_owns no_branches = refl
counts_owns (more_branches (branch p below) bs) = omega (arith, counts_owns below, counts_owns bs)

-- provisions whose nums keep the rule do so once they are brought
pub nums_brought : (n : Numbering) (above : _) (bs : Branches Own) → have_nums bs ≡ true → are_numbered (all_enacted n above bs) ≡ true
nums_brought n above no_branches nums = refl
nums_brought n above (more_branches (branch own below) bs) nums =
    let parts = and_parts _ _ nums in
    let rest = and_parts _ _ parts.1 in
    both _ _ (both _ _ parts.0 (nums_brought n (Some (eid_below n above own.element own.num)) below rest.0)) (nums_brought n above bs rest.1)

-- right below the root no level goes on
pub none_on_top : (n : Numbering) (bs : Branches Own) → all_going_on n true bs ≡ []
none_on_top n no_branches = refl
none_on_top n (more_branches (branch own below) bs) = none_on_top n bs

-- where no element is numbered throughout, at least as many levels go on
goes_on : (n : Numbering) (x : List ℕ) (bs : Branches Own) → times x (all_going_on n false bs) ≤ times x (all_going_on NONE_THROUGHOUT false bs)
goes_on n x no_branches = omega arith
goes_on n x (more_branches (branch own below) bs) =
    let all : times x (cond (is_throughout NONE_THROUGHOUT own.element) [] (own_level own ∷ [])) ≡ one_if (bytes_eq x (own_level own)) + 0 = ap (λ t. times x (cond t [] (own_level own ∷ []))) (none_throughout own.element) in
    elim (cases_Bool (is_throughout n own.element)) [
      | inl through ↦
          let here : times x (cond (is_throughout n own.element) [] (own_level own ∷ [])) ≡ 0 = ap (λ t. times x (cond t [] (own_level own ∷ []))) through in
          omega (arith, goes_on n x bs, times-append x (cond (is_throughout n own.element) [] (own_level own ∷ [])) (all_going_on n false bs), times-append x (cond (is_throughout NONE_THROUGHOUT own.element) [] (own_level own ∷ [])) (all_going_on NONE_THROUGHOUT false bs))
      | inr other ↦
          let here : times x (cond (is_throughout n own.element) [] (own_level own ∷ [])) ≡ one_if (bytes_eq x (own_level own)) + 0 = ap (λ t. times x (cond t [] (own_level own ∷ []))) other in
          omega (arith, goes_on n x bs, times-append x (cond (is_throughout n own.element) [] (own_level own ∷ [])) (all_going_on n false bs), times-append x (cond (is_throughout NONE_THROUGHOUT own.element) [] (own_level own ∷ [])) (all_going_on NONE_THROUGHOUT false bs))
    ]

-- the topmost have levels that differ, if they would as children of a root
tops_begin : (x : List ℕ) (bs : Branches Own) → times x (all_going_on NONE_THROUGHOUT false bs) ≤ times x (all_beginning NONE_THROUGHOUT true bs)
tops_begin x no_branches = omega arith
tops_begin x (more_branches (branch own below) bs) =
    let here : times x (cond (is_throughout NONE_THROUGHOUT own.element) [] (own_level own ∷ [])) ≡ times x (own_level own ∷ []) = ap (λ t. times x (cond t [] (own_level own ∷ []))) (none_throughout own.element) in
    let inner : List (List ℕ) = all_beginning NONE_THROUGHOUT false below in
    omega (arith, tops_begin x bs, times-append x (cond (is_throughout NONE_THROUGHOUT own.element) [] (own_level own ∷ [])) (all_going_on NONE_THROUGHOUT false bs), times-append x ((own_level own ∷ []) ++ inner) (all_beginning NONE_THROUGHOUT true bs), times-append x (own_level own ∷ []) inner)

once_on : (n : Numbering) (bs : Branches Own) → one_twice (all_going_on NONE_THROUGHOUT false bs) ≡ false → one_twice (all_going_on n false bs) ≡ false
once_on n bs once = few_once (all_going_on n false bs) (λ x. let most : times x (all_going_on NONE_THROUGHOUT false bs) ≤ 1 = once_few (all_going_on NONE_THROUGHOUT false bs) x once in omega (arith, goes_on n x bs))

unlike_all : (n : Numbering) (bs : Branches Own) → alike_beneath NONE_THROUGHOUT bs ≡ false → alike_beneath n bs ≡ false
unlike_all n no_branches none = refl
unlike_all n (more_branches (branch own below) bs) none =
    let head : (one_twice (all_going_on NONE_THROUGHOUT false below) || alike_beneath NONE_THROUGHOUT below) ≡ false = none_left _ _ none in
    neither _ _
    (neither _ _ (once_on n below (none_left _ _ head)) (unlike_all n below (none_right (one_twice (all_going_on NONE_THROUGHOUT false below)) _ head)))
    (unlike_all n bs (none_right (one_twice (all_going_on NONE_THROUGHOUT false below) || alike_beneath NONE_THROUGHOUT below) _ none))

-- one of the levels that begin an eId is among others
pub one_begun : (levels : List (List ℕ)) (n : Numbering) (top : Bool) (bs : Branches Own) → one_among (all_beginning n top bs) levels ≡ all_begun_among levels n top bs
one_begun levels n top no_branches = refl
one_begun levels n top (more_branches (branch own below) bs) =
    let test : List ℕ → Bool = λ x. is_among x levels in
    let mine : List (List ℕ) = cond (begins n top own) (own_level own ∷ []) [] in
    list_any-append test (mine ++ all_beginning n false below) (all_beginning n top bs)
    ∙ ap (λ s. s || list_any test (all_beginning n top bs)) (list_any-append test mine (all_beginning n false below))
    ∙ ap (λ s. (list_any test mine || s) || list_any test (all_beginning n top bs)) (one_begun levels n false below)
    ∙ ap (λ s. (list_any test mine || all_begun_among levels n false below) || s) (one_begun levels n top bs)
    ∙ ap (λ s. (s || all_begun_among levels n false below) || all_begun_among levels n top bs) (own_test (begins n top own) (own_level own))
  where
    own_test : (t : Bool) (x : List ℕ) → list_any (λ y. is_among y levels) (cond t (x ∷ []) []) ≡ (t && is_among x levels)
    own_test true x = or_none (is_among x levels)
    own_test false x = refl

-- and one of those that begin none
pub one_on : (levels : List (List ℕ)) (n : Numbering) (bs : Branches Own) → one_among (all_going_on n false bs) levels ≡ on_among levels n bs
one_on levels n no_branches = refl
one_on levels n (more_branches (branch own below) bs) =
    let test : List ℕ → Bool = λ x. is_among x levels in
    list_any-append test (cond (is_throughout n own.element) [] (own_level own ∷ [])) (all_going_on n false bs)
    ∙ ap (λ s. s || list_any test (all_going_on n false bs)) (own_test (is_throughout n own.element) (own_level own))
    ∙ ap (λ s. (not (is_throughout n own.element) && is_among (own_level own) levels) || s) (one_on levels n bs)
  where
    own_test : (t : Bool) (x : List ℕ) → list_any (λ y. is_among y levels) (cond t [] (x ∷ [])) ≡ (not t && is_among x levels)
    own_test true x = refl
    own_test false x = or_none (is_among x levels)

-- as children of the root all begin an eId, which below another node begin one or go on
top_parts : (n : Numbering) (x : List ℕ) (bs : Branches Own) → times x (all_beginning n true bs) ≡ times x (all_going_on n false bs) + times x (all_beginning n false bs)
top_parts n x no_branches = refl
top_parts n x (more_branches (branch own below) bs) =
    let begun : List (List ℕ) = cond (is_throughout n own.element) (own_level own ∷ []) [] in
    let on : List (List ℕ) = cond (is_throughout n own.element) [] (own_level own ∷ []) in
    let inner : List (List ℕ) = all_beginning n false below in
    let either : times x on + times x begun ≡ times x (own_level own ∷ []) = one_of (is_throughout n own.element) (own_level own) in
    omega (arith, top_parts n x bs, either, times-append x ((own_level own ∷ []) ++ inner) (all_beginning n true bs), times-append x (own_level own ∷ []) inner, times-append x on (all_going_on n false bs), times-append x (begun ++ inner) (all_beginning n false bs), times-append x begun inner)
  where
    one_of : (t : Bool) (level : List ℕ) → times x (cond t [] (level ∷ [])) + times x (cond t (level ∷ []) []) ≡ times x (level ∷ [])
    one_of true level = omega arith
    one_of false level = omega arith

same_throughout : (n : Numbering) (e f : Element) → element_place e ≡ element_place f → is_throughout n e ≡ is_throughout n f
same_throughout n e f same = ap (λ (k : ℕ). unwrap_or (slice_get n.throughout k) false) same

-- a level of such an element is none of another
other_level : (n : Numbering) (e : Element) (own : Own) (num : List ℕ) → is_num num ≡ true → is_num own.num ≡ true → is_throughout n e ≡ true → is_throughout n own.element ≡ false → bytes_eq (level_text e num) (own_level own) ≡ false
other_level n e own num kept own_kept through other = by ((element_place own.element == element_place e) && bytes_eq own.num num) refl
  where
    by : (t : Bool) → ((element_place own.element == element_place e) && bytes_eq own.num num) ≡ t → bytes_eq (level_text e num) (own_level own) ≡ false
    by false differ = sym (level_told e own.element num own.num false kept own_kept (sym differ))
    by true same =
        let place : element_place own.element ≡ element_place e = eqb-true (element_place own.element) (element_place e) (and_parts _ _ same).0 in
        let never : true ≡ false = sym through ∙ sym (same_throughout n own.element e place) ∙ other in
        absurd cc

-- a level of an element that is numbered throughout goes on nowhere
not_on : (n : Numbering) (e : Element) (num : List ℕ) → is_num num ≡ true → is_throughout n e ≡ true → (bs : Branches Own) → have_nums bs ≡ true → is_among (level_text e num) (all_going_on n false bs) ≡ false
not_on n e num kept through no_branches nums = refl
not_on n e num kept through (more_branches (branch own below) bs) nums =
    let parts = and_parts _ _ nums in
    let rest : is_among (level_text e num) (all_going_on n false bs) ≡ false = not_on n e num kept through bs (and_parts _ _ parts.1).1 in
    list_any-append (bytes_eq (level_text e num)) (cond (is_throughout n own.element) [] (own_level own ∷ [])) (all_going_on n false bs)
    ∙ neither (is_among (level_text e num) (cond (is_throughout n own.element) [] (own_level own ∷ []))) (is_among (level_text e num) (all_going_on n false bs))
    (cond_both (is_throughout n own.element) [] (own_level own ∷ []) (λ ls. is_among (level_text e num) ls ≡ false)
    (λ _. refl)
    (λ other. neither (bytes_eq (level_text e num) (own_level own)) false
    (other_level n e own num kept parts.0 through other)
    refl))
    rest

none_on : (n : Numbering) (bs : Branches Own) → have_nums bs ≡ true → (cs : Branches Own) → have_nums cs ≡ true → all_begun_among (all_going_on n false bs) n false cs ≡ false
none_on n bs kept no_branches nums = refl
none_on n bs kept (more_branches (branch own below) cs) nums =
    let parts = and_parts _ _ nums in
    let rest = and_parts _ _ parts.1 in
    neither _ _
    (neither _ _
    (elim (cases_Bool (is_throughout n own.element)) [
      | inl through ↦ ap (λ s. s && is_among (own_level own) (all_going_on n false bs)) through ∙ not_on n own.element own.num parts.0 through bs kept
      | inr other ↦ ap (λ s. s && is_among (own_level own) (all_going_on n false bs)) other
    ])
    (none_on n bs kept below rest.0))
    (none_on n bs kept cs rest.1)

-- the root says its own wId
pub root_says : (t : Tree) → (provision_at t 0).wid ≡ root_wid
unfolding provision_at
root_says t = ap (λ (p : Provision). p.wid) t.whole.root

-- a text that keeps the limits, and provisions that are brought
module _ (n : Numbering) (limit : NodeLimit) (body : Branches Provision) (by : Id) (new : Branches Own) (clean : first_fault n limit (all_owns body) ≡ None) (kept : are_numbered body ≡ true)
    (sound : first_fault NONE_THROUGHOUT Plain new ≡ None) (nums : have_nums new ≡ true) where
  -- what is brought
  abbrev cs : Branches Provision
  cs = brought by new

  says : all_owns cs ≡ new
  says = owns_again NONE_THROUGHOUT (Some (bringer by)) new

  numbered : are_numbered cs ≡ true
  numbered = nums_brought NONE_THROUGHOUT (Some (bringer by)) new nums

  levels : (one_twice (all_beginning NONE_THROUGHOUT true new) || alike_beneath NONE_THROUGHOUT new) ≡ false
  levels =
      ap (λ bs. one_twice (all_beginning NONE_THROUGHOUT true bs) || alike_beneath NONE_THROUGHOUT bs) (sym says)
      ∙ sym (levels_decide NONE_THROUGHOUT cs numbered) ∙ ap (λ bs. one_twice (all_eids NONE_THROUGHOUT None bs)) says ∙ (is_placed NONE_THROUGHOUT Plain new sound).once

  tops_once : one_twice (all_going_on n false new) ≡ false
  tops_once =
      once_on n new (few_once (all_going_on NONE_THROUGHOUT false new)
      (λ x. let most : times x (all_beginning NONE_THROUGHOUT true new) ≤ 1 = once_few (all_beginning NONE_THROUGHOUT true new) x (none_left _ _ levels) in omega (arith, tops_begin x new)))

  unlike : alike_beneath n new ≡ false
  unlike = unlike_all n new (none_right (one_twice (all_beginning NONE_THROUGHOUT true new)) _ levels)

  short : have_long (all_owns cs) ≡ false
  short = ap have_long says ∙ is_short NONE_THROUGHOUT Plain new sound

  body_levels : (one_twice (all_beginning n true (all_owns body)) || alike_beneath n (all_owns body)) ≡ false
  body_levels = sym (levels_decide n body kept) ∙ (is_placed n limit (all_owns body) clean).once

  -- the fault of a text by its levels, height and count
  told : (bs : Branches Provision) (top clash : Bool) (high : ℕ) → are_numbered bs ≡ true
      → ((x : List ℕ) → times x (all_beginning n true (all_owns bs)) ≡ times x (all_beginning n true (all_owns body)) + times x (all_beginning n top new))
      → alike_beneath n (all_owns bs) ≡ clash → heights (all_owns bs) ≡ high → counts (all_owns bs) ≡ counts body + counts new → have_long (all_owns bs) ≡ false
      → first_fault n limit (all_owns bs) ≡ fault_by (begins_again n top new (all_owns body) || clash) (nat_lt MAX_DEPTH high) (nat_lt (most_nodes limit) (counts body + counts new)) false
  told bs top clash high numbered_now sum alike is_high many none =
      ap (λ s. fault_by s (nat_lt MAX_DEPTH (heights (all_owns bs))) (nat_lt (most_nodes limit) (counts (all_owns bs))) (have_long (all_owns bs)))
      (levels_decide n bs numbered_now
      ∙ ap (λ s. s || alike_beneath n (all_owns bs)) (twice_or (all_beginning n top new) (all_beginning n true (all_owns body)) (all_beginning n true (all_owns bs)) sum (none_left _ _ body_levels))
      ∙ ap (λ s. begins_again n top new (all_owns body) || s) alike)
      ∙ ap (λ h. fault_by (begins_again n top new (all_owns body) || clash) (nat_lt MAX_DEPTH h) (nat_lt (most_nodes limit) (counts (all_owns bs))) (have_long (all_owns bs))) is_high
      ∙ ap (λ c. fault_by (begins_again n top new (all_owns body) || clash) (nat_lt MAX_DEPTH high) (nat_lt (most_nodes limit) c) (have_long (all_owns bs))) many
      ∙ ap (λ s. fault_by (begins_again n top new (all_owns body) || clash) (nat_lt MAX_DEPTH high) (nat_lt (most_nodes limit) (counts body + counts new)) s) none

  -- among the children of the provision of a wId, or of the root
  module _ (w : List ℕ) (place : ℕ) (p : Provision) (siblings : Branches Provision) (once : one_twice (all_wids body) ≡ false)
      (there : bytes_eq w root_wid ≡ false → found w body ≡ Some (branch p siblings)) where
    at_root : first_fault n limit (all_owns (put_in place cs body))
        ≡ fault_by (begins_again n true new (all_owns body) || goes_on_again n true new (all_owns siblings)) (nat_lt MAX_DEPTH (max (heights body) (heights new))) (nat_lt (most_nodes limit) (counts body + counts new)) false
    at_root =
        told (put_in place cs body) true false (max (heights body) (heights new)) (put_in_kept place cs body numbered kept)
        (λ x. begun_put n x true place cs body ∙ ap (λ os. times x (all_beginning n true (all_owns body)) + times x (all_beginning n true os)) says)
        (unlike_put n place cs body (ap (alike_beneath n) says ∙ unlike) ∙ none_right (one_twice (all_beginning n true (all_owns body))) _ body_levels)
        (heights_put place cs body ∙ ap (λ os. max (heights (all_owns body)) (heights os)) says ∙ ap (λ h. max h (heights new)) (heights_owns body))
        (counts_put place cs body ∙ ap (λ os. counts (all_owns body) + counts os) says ∙ ap (λ c. c + counts new) (counts_owns body))
        (short_put place cs body short (is_short n limit (all_owns body) clean))
        ∙ sym (ap (λ ls. fault_by (begins_again n true new (all_owns body) || one_among ls (all_going_on n true (all_owns siblings))) (nat_lt MAX_DEPTH (max (heights body) (heights new))) (nat_lt (most_nodes limit) (counts body + counts new)) false) (none_on_top n new))

    module _ (other : bytes_eq w root_wid ≡ false) where
      held : any_holds w body ≡ true
      held = sym (held_found w body) ∙ ap is_some (there other)

      at_node : first_fault n limit (all_owns (changed (among_children place cs) w body))
          ≡ fault_by (begins_again n false new (all_owns body) || goes_on_again n false new (all_owns siblings)) (nat_lt MAX_DEPTH (heights_over w (heights new) body)) (nat_lt (most_nodes limit) (counts body + counts new)) false
      at_node =
          told (after n place cs w body) false (goes_on_again n false new (all_owns siblings)) (heights_over w (heights new) body)
          (changed_kept (among_children place cs) w (among_children_keeps place cs numbered) body kept)
          (λ x. begun_after n place cs w x true body
          ∙ ap (λ m. times x (all_beginning n true (all_owns body)) + m) (for_one (times x (all_beginning n false (all_owns cs))) w body once held ∙ ap (λ os. times x (all_beginning n false os)) says))
          (alike_after n place cs w body (ap (λ os. one_twice (all_going_on n false os)) says ∙ tops_once) (ap (alike_beneath n) says ∙ unlike) (none_right (one_twice (all_beginning n true (all_owns body))) _ body_levels)
          ∙ of_one n place cs w (clashes n place cs w) p siblings body once (there other)
          ∙ ap (λ os. one_among (all_going_on n false os) (all_going_on n false (all_owns siblings))) says)
          (heights_after n place cs w body ∙ ap (λ os. heights_over w (heights os) body) says)
          (counts_after n place cs w body ∙ ap (λ m. counts (all_owns body) + m) (for_one (counts (all_owns cs)) w body once held ∙ ap counts says) ∙ ap (λ c. c + counts new) (counts_owns body))
          (short_after n place cs w body short (is_short n limit (all_owns body) clean))

    -- the first fault with what is brought there
    pub fault_told : first_fault n limit (all_owns (grafted w place cs body)) ≡ fault_among n limit body w siblings new
    fault_told =
        elim (cases_Bool (bytes_eq w root_wid)) [
          | inl root ↦
              ap (λ s. first_fault n limit (all_owns (cond s (put_in place cs body) (changed (among_children place cs) w body)))) root
              ∙ at_root
              ∙ sym (ap (λ s. fault_by (begins_again n s new (all_owns body) || goes_on_again n s new (all_owns siblings)) (nat_lt MAX_DEPTH (cond s (max (heights body) (heights new)) (heights_over w (heights new) body))) (nat_lt (most_nodes limit) (counts body + counts new)) false) root)
          | inr not_root ↦
              ap (λ s. first_fault n limit (all_owns (cond s (put_in place cs body) (changed (among_children place cs) w body)))) not_root
              ∙ at_node not_root
              ∙ sym (ap (λ s. fault_by (begins_again n s new (all_owns body) || goes_on_again n s new (all_owns siblings)) (nat_lt MAX_DEPTH (cond s (max (heights body) (heights new)) (heights_over w (heights new) body))) (nat_lt (most_nodes limit) (counts body + counts new)) false) not_root)
        ]

  -- two that are brought begin an eId by one level exactly where two would have one eId below the root
  twice_told : (top : Bool) → one_twice (all_eids n None new) ≡ one_twice (all_beginning n top new)
  twice_told top = at_top ∙ anywhere top
    where
      at_top : one_twice (all_eids n None new) ≡ one_twice (all_beginning n true new)
      at_top =
          ap (λ bs. one_twice (all_eids n None bs)) (sym says) ∙ levels_decide n cs numbered
          ∙ ap (λ bs. one_twice (all_beginning n true bs) || alike_beneath n bs) says
          ∙ ap (λ s. one_twice (all_beginning n true new) || s) unlike ∙ or_none (one_twice (all_beginning n true new))

      anywhere : (s : Bool) → one_twice (all_beginning n true new) ≡ one_twice (all_beginning n s new)
      anywhere true = refl
      anywhere false =
          twice_or (all_beginning n false new) (all_going_on n false new) (all_beginning n true new) (λ x. top_parts n x new) tops_once
          ∙ ap (λ s. one_twice (all_beginning n false new) || s) (one_begun (all_going_on n false new) n false new ∙ none_on n new nums new nums)
          ∙ or_none (one_twice (all_beginning n false new))

  -- a number is taken by what is told of it
  module _ (top : Bool) (siblings : Branches Provision) where
    abbrev taken : Bool
    taken = taken_among n top new (all_owns body) (all_owns siblings)

    pub taken_begun : (begun : Bool) → begun ≡ all_begun_among (all_beginning n true (all_owns body)) n top new → begun ≡ true → true ≡ taken
    taken_begun begun told_begun held =
        let shared : one_among (all_beginning n top new) (all_beginning n true (all_owns body)) ≡ true = one_begun (all_beginning n true (all_owns body)) n top new ∙ sym told_begun ∙ held in
        sym (or_left _ _ (or_right (one_twice (all_beginning n top new)) _ shared))

    pub taken_on : (on : Bool) → on ≡ goes_on_again n top new (all_owns siblings) → on ≡ true → true ≡ taken
    taken_on on told_on held = sym (or_right (begins_again n top new (all_owns body)) _ (sym told_on ∙ held))

    pub taken_twice : (begun on twice : Bool) → begun ≡ all_begun_among (all_beginning n true (all_owns body)) n top new → begun ≡ false → on ≡ goes_on_again n top new (all_owns siblings) → on ≡ false
        → twice ≡ one_twice (all_eids n None new) → twice ≡ taken
    taken_twice begun on twice told_begun free told_on none twice_is =
        let apart : one_among (all_beginning n top new) (all_beginning n true (all_owns body)) ≡ false = one_begun (all_beginning n true (all_owns body)) n top new ∙ sym told_begun ∙ free in
        twice_is ∙ twice_told top
        ∙ sym (ap (λ s. (one_twice (all_beginning n top new) || one_among (all_beginning n top new) (all_beginning n true (all_owns body))) || s) (sym told_on ∙ none)
        ∙ ap (λ s. (one_twice (all_beginning n top new) || s) || false) apart
        ∙ or_none (one_twice (all_beginning n top new) || false) ∙ or_none (one_twice (all_beginning n top new)))

-- what is found by the wId of a node that is not the root
pub found_below : (t : Tree) (parent : ℕ) → has_node t parent ≡ true → bytes_eq (provision_at t parent).wid root_wid ≡ false → found (provision_at t parent).wid (tree_view t).body ≡ Some (branch (provision_at t parent) (below_at t parent))
found_below t parent node other =
    found_at t parent node (λ zero. absurd (
    let root : bytes_eq (provision_at t parent).wid root_wid ≡ true = equal_text (provision_at t parent).wid root_wid (ap (λ k. (provision_at t k).wid) zero ∙ root_says t) in
    cc))
    ∙ ap (λ b. Some b) (branch_is t parent)

module _ (t : Tree) (by : Id) (new : Branches Own) (fits : first_cause (tree_view t) ≡ None) (sound : first_fault NONE_THROUGHOUT Plain new ≡ None) (nums : have_nums new ≡ true) (parent place : ℕ) (node : has_node t parent ≡ true) where
  -- the first fault with what is brought among the children of the node
  pub fault_of_insertion : first_cause (with_body t (grafted_at t parent place (brought by new))) ≡ option_map fault_cause (insertion_fault t parent new)
  fault_of_insertion =
      ap (option_map fault_cause) (fault_told (tree_view t).numbering (tree_view t).limit (tree_view t).body by new (faultless (tree_view t) fits) (nums_kept t) sound nums (provision_at t parent).wid place (provision_at t parent) (below_at t parent) (wids_differ t) (found_below t parent node))

  -- the text with what is brought
  abbrev pub text : Branches Provision
  text = grafted_at t parent place (brought by new)

  pub held_by : (fault : BuildFault) → Some fault ≡ insertion_fault t parent new → within_limits (tree_view t) (Ok text) ≡ Err (fault_cause fault)
  held_by fault is = ap (λ c. unless_for c text) (fault_of_insertion ∙ ap (option_map fault_cause) (sym is))

  pub done_by : None ≡ insertion_fault t parent new → within_limits (tree_view t) (Ok text) ≡ Ok text
  done_by is = ap (λ c. unless_for c text) (fault_of_insertion ∙ ap (option_map fault_cause) (sym is))

-- whether a node is the root
pub root_told : (t : Tree) (parent root : ℕ) (top : Bool) → has_node t parent ≡ true → root ≡ 0 → top ≡ (parent == root) → top ≡ is_root t parent
root_told t parent root top node zero is =
    elim (cases_Bool (parent == root)) [
      | inl same ↦
          let at : parent ≡ 0 = eqb-true parent root same ∙ zero in
          is ∙ same ∙ sym (equal_text (provision_at t parent).wid root_wid (ap (λ k. (provision_at t k).wid) at ∙ root_says t))
      | inr other ↦ is ∙ other ∙ sym (not_root t parent node (λ at. absurd (
          let same : (parent == root) ≡ true = eq-eqb parent root (at ∙ sym zero) in
          let never : true ≡ false = sym same ∙ other in
          cc)))
    ]
