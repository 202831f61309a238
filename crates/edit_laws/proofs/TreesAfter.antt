-- Trees after two edits.
use Rattle.std.proofs.Common.{◌≡◌, ◌∙◌, sym, ap, refl, subst, ℕ, true, false, not, List, [], Option, Some, None}
use Rattle.std.specs.Prelude.{Result, Ok, Err}
use Rattle.std.specs.List.{filter}
use Rattle.desk_base.specs.declared.id.Id.{Id}
use Rattle.act_tree.specs.Branches.{Branches}
use Rattle.act_tree.specs.Brought.{has_brought}
use Rattle.act_tree.specs.Faults.{first_cause}
use Rattle.act_tree.specs.Provisions.{Provision}
use Rattle.act_tree.specs.Trees.{TreeValue, changed_once}
use Rattle.act_tree.specs.Wids.{all_wids, is_among, one_twice}
use Rattle.act_tree.specs.declared.cause.Cause.{Cause}
use Rattle.textual_mods.specs.Edits.{edited, unless_for, within_limits, applied, tree_after, outcome_of, tree_with}
use Rattle.edit_laws.specs.Laws.{IsMade, twice_changed, touch_apart, nums_before, wid_of_second, is_brought_by, wids_taken}
use Rattle.textual_mods.specs.Targets.{provision_named}
use Rattle.textual_mods.specs.declared.edit.SplitAt.{SplitAt}
use Rattle.textual_mods.specs.declared.edit.TextualMod.{TextualMod}
use Rattle.textual_mods.specs.declared.edit.TextualMod.TheVariants.{Renumber, Split, Join}
use Rattle.textual_mods.specs.declared.outcome.Outcome.TheVariants.{Done, Unapplied}
use Rattle.edit_laws.proofs.EitherOrder.{IsSwapped, edits_swapped}
use Rattle.edit_laws.proofs.RenumberedBack.{nums_given_back}
use Rattle.edit_laws.proofs.SplitJoined.{split_joined}
use Rattle.edit_laws.proofs.WidsLeft.{OkLeaves, edit_leaves}

-- what an edit that is made gives
pub record Gives (t : TreeValue) (by : Id) (edit : TextualMod) : Type 0 where
  pub text : Branches Provision
  pub edited_is : edited by edit t.body ≡ Ok text
  pub applied_is : applied t by edit ≡ Ok text

gives : (t : TreeValue) (by : Id) (edit : TextualMod) → IsMade t by edit → Gives t by edit
gives t by edit made = of_result (edited by edit t.body) refl made
  where
    of_cause : (x : Branches Provision) → edited by edit t.body ≡ Ok x → (o : Option Cause) → first_cause (record t { body = x }) ≡ o → outcome_of (unless_for o x) ≡ Done → Gives t by edit
    of_cause x is None none done = record { text = x; edited_is = is; applied_is = ap (within_limits t) is ∙ ap (λ o. unless_for o x) none }
    of_cause x is (Some cause) none done = absurd cc

    of_result : (r : Result (Branches Provision) Cause) → edited by edit t.body ≡ r → outcome_of (within_limits t r) ≡ Done → Gives t by edit
    of_result (Err cause) is done = absurd cc
    of_result (Ok x) is done = of_cause x is (first_cause (record t { body = x })) refl done

after_it : (t : TreeValue) (by : Id) (edit : TextualMod) (g : Gives t by edit) → tree_with t by edit ≡ changed_once t g.text
after_it t by edit g = ap (tree_after t) g.applied_is

-- an edit that is held back leaves the tree
pub held_back : (t : TreeValue) (by : Id) (edit : TextualMod) (cause : Cause) → outcome_of (applied t by edit) ≡ Unapplied cause → tree_with t by edit ≡ t
held_back t by edit cause told = of_result (applied t by edit) told
  where
    of_result : (r : Result (Branches Provision) Cause) → outcome_of r ≡ Unapplied cause → tree_after t r ≡ t
    of_result (Ok x) done = absurd cc
    of_result (Err other) told = refl

-- an edit is made after another, and gives the tree before the other again, but for two changes
pub record IsTakenBack (t : TreeValue) (by other : Id) (edit back : TextualMod) : Type 0 where
  pub made : IsMade (tree_with t by edit) other back
  pub same : tree_with (tree_with t by edit) other back ≡ twice_changed t

-- so does one that gives the text of a well-formed tree again
taken_back : (t : TreeValue) (by other : Id) (edit back : TextualMod) → first_cause t ≡ None → IsMade t by edit → ((x : Branches Provision) → edited by edit t.body ≡ Ok x → edited other back x ≡ Ok t.body)
    → IsTakenBack t by other edit back
taken_back t by other edit back fits made again =
    let g : Gives t by edit = gives t by edit made in
    let applied_back : applied (changed_once t g.text) other back ≡ Ok t.body =
    ap (within_limits (changed_once t g.text)) (again g.text g.edited_is) ∙ ap (λ o. unless_for o t.body) fits in
    record {
      made = ap (λ s. outcome_of (applied s other back)) (after_it t by edit g) ∙ ap outcome_of applied_back;
      same = ap (λ s. tree_with s other back) (after_it t by edit g) ∙ ap (tree_after (changed_once t g.text)) applied_back;
    }

pub split_taken_back : (t : TreeValue) (by other : Id) (wid : List ℕ) (at : SplitAt) (num heading : List ℕ) → first_cause t ≡ None → one_twice (all_wids t.body) ≡ false → has_brought by t.body ≡ false
    → IsMade t by (Split wid at num heading) → IsTakenBack t by other (Split wid at num heading) (Join wid (wid_of_second by num (provision_named wid t.body)) [])
split_taken_back t by other wid at num heading fits once fresh made =
    taken_back t by other (Split wid at num heading) (Join wid (wid_of_second by num (provision_named wid t.body)) []) fits made
    (λ x is. split_joined by wid at num heading t.body x once fresh is)

pub nums_taken_back : (t : TreeValue) (by other : Id) (pairs : List (List ℕ × List ℕ)) → first_cause t ≡ None → one_twice (all_wids t.body) ≡ false → IsMade t by (Renumber pairs)
    → IsTakenBack t by other (Renumber pairs) (Renumber (nums_before pairs t.body))
nums_taken_back t by other pairs fits once made =
    taken_back t by other (Renumber pairs) (Renumber (nums_before pairs t.body)) fits made (λ x is. nums_given_back pairs t.body x once is)

-- two edits of which neither touches anything that the other touches, in either order
pub record InEitherOrder (t : TreeValue) (by other : Id) (one two : TextualMod) : Type 0 where
  pub made : IsMade (tree_with t other two) by one
  pub same : tree_with (tree_with t by one) other two ≡ tree_with (tree_with t other two) by one

pub in_either_order : (t : TreeValue) (by other : Id) (one two : TextualMod) → one_twice (all_wids t.body) ≡ false → has_brought by t.body ≡ false → has_brought other t.body ≡ false
    → touch_apart t.body one two ≡ true → IsMade t by one → IsMade t other two → IsMade (tree_with t by one) other two → InEitherOrder t by other one two
in_either_order t by other one two once fresh other_fresh apart made other_made both_made =
    let g : Gives t by one = gives t by one made in
    let h : Gives t other two = gives t other two other_made in
    let s : IsSwapped by other one two g.text h.text = edits_swapped by other one two t.body once fresh other_fresh apart g.text h.text g.edited_is h.edited_is in
    let P : TreeValue → Type 0 = λ tree. IsMade tree other two in
    let both : Gives (changed_once t g.text) other two = gives (changed_once t g.text) other two (subst P (after_it t by one g) both_made) in
    let texts : Ok both.text ≡ Ok s.both = sym both.edited_is ∙ s.second in
    let same : both.text ≡ s.both = cc in
    let limits : within_limits (changed_once t g.text) (Ok s.both) ≡ Ok s.both = ap (within_limits (changed_once t g.text)) (sym s.second) ∙ both.applied_is ∙ texts in
    let applied_back : applied (changed_once t h.text) by one ≡ Ok s.both = ap (within_limits (changed_once t h.text)) s.first ∙ limits in
    record {
      made = ap (λ tree. outcome_of (applied tree by one)) (after_it t other two h) ∙ ap outcome_of applied_back;
      same =
          ap (λ tree. tree_with tree other two) (after_it t by one g) ∙ after_it (changed_once t g.text) other two both ∙ ap (changed_once (changed_once t g.text)) same
          ∙ sym (ap (λ tree. tree_with tree by one) (after_it t other two h) ∙ ap (tree_after (changed_once t h.text)) applied_back);
    }

-- what an edit leaves, it leaves in the tree
pub left_in_tree : (t : TreeValue) (by : Id) (edit : TextualMod) → one_twice (all_wids t.body) ≡ false → has_brought by t.body ≡ false → IsMade t by edit
    → filter (λ w. not (is_brought_by by w)) (all_wids (tree_with t by edit).body) ≡ filter (λ w. not (is_among w (wids_taken t.body edit))) (all_wids t.body)
left_in_tree t by edit once fresh made =
    let g : Gives t by edit = gives t by edit made in
    let P : Result (Branches Provision) Cause → Type 0 = OkLeaves by t.body once fresh (wids_taken t.body edit) in
    ap (λ tree. filter (λ w. not (is_brought_by by w)) (all_wids tree.body)) (after_it t by edit g) ∙ subst P g.edited_is (edit_leaves by t.body once fresh edit)
