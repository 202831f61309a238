-- Of a text that keeps the limits only its own length can be held against another content.
use Rattle.std.proofs.Common.{◌≡◌, ◌∙◌, sym, ap, refl, ℕ, ◌+◌, ◌<◌, ◌≤◌, Bool, true, false, cond, ◌||◌, ◌&&◌, max, List, ◌∷◌, ◌++◌, length, nat_lt, Option, Some, None, arith}
use Rattle.std.specs.Prelude.{option_map, Ok, Err}
use Rattle.std.specs.Str.{bytes_eq}
use Rattle.std.proofs.lemmas.Bool.{cond_both, lt-ltb, le-ltb}
use Rattle.eid_paths.specs.declared.numbering.Numbering.{Numbering}
use Rattle.act_tree.specs.Branches.{Branch, Branches, branch, no_branches, more_branches, height, heights, count, counts}
use Rattle.act_tree.specs.Changes.{has_wid, holds, any_holds, inside_changed, changed, with_content}
use Rattle.act_tree.specs.Eids.{eid_below}
use Rattle.act_tree.specs.Faults.{owns, all_owns, eids, all_eids, is_long, has_long, have_long, first_fault, first_cause, fault_cause}
use Rattle.act_tree.specs.Provisions.{Provision}
use Rattle.act_tree.specs.Trees.{TreeValue}
use Rattle.act_tree.specs.Wids.{one_twice}
use Rattle.act_tree.specs.declared.build_fault.BuildFault.TheVariants.{TextTooLong}
use Rattle.act_tree.specs.declared.cause.Cause.TheVariants as causes
use Rattle.textual_mods.specs.Edits.{unless_for, within_limits}
use Rattle.textual_mods.proofs.Limits.{IsPlaced, is_placed, is_short, fault_of_length, faultless}
use Rattle.act_tree.specs.declared.limits.TheConstants.{MAX_DEPTH, MAX_TEXT_BYTES}
use Rattle.act_tree.specs.declared.limits.NodeLimit.{NodeLimit}
use Rattle.act_tree.specs.NodeLimits.{most_nodes}

-- what becomes of a provision and those behind it
abbrev at_one : List ℕ → List ℕ → Branch Provision → Branches Provision → Branches Provision
at_one c w b rest = cond (has_wid w b) (with_content c (inside_changed (with_content c) w b) rest) (more_branches (inside_changed (with_content c) w b) rest)

mutual
  eids_at : (n : Numbering) (above : Option (List ℕ)) (c w : List ℕ) (b : Branch Provision) (rest : Branches Provision) → all_eids n above (all_owns (at_one c w b rest)) ≡ eids n above (owns b) ++ all_eids n above (all_owns rest)
  eids_at n above c w (branch p below) rest =
      let e : List ℕ = eid_below n above p.own.element p.own.num in
      let same : (e ∷ all_eids n (Some e) (all_owns (changed (with_content c) w below))) ++ all_eids n above (all_owns rest) ≡ (e ∷ all_eids n (Some e) (all_owns below)) ++ all_eids n above (all_owns rest) =
      ap (λ xs. (e ∷ xs) ++ all_eids n above (all_owns rest)) (eids_stay n (Some e) c w below) in
      cond_both (bytes_eq p.wid w) (with_content c (branch p (changed (with_content c) w below)) rest) (more_branches (branch p (changed (with_content c) w below)) rest)
      (λ r. all_eids n above (all_owns r) ≡ (e ∷ all_eids n (Some e) (all_owns below)) ++ all_eids n above (all_owns rest)) (λ _. same) (λ _. same)

  eids_stay : (n : Numbering) (above : Option (List ℕ)) (c w : List ℕ) (bs : Branches Provision) → all_eids n above (all_owns (changed (with_content c) w bs)) ≡ all_eids n above (all_owns bs)
  eids_stay n above c w no_branches = refl
  eids_stay n above c w (more_branches b bs) =
      eids_at n above c w b (changed (with_content c) w bs) ∙ ap (λ ys. eids n above (owns b) ++ ys) (eids_stay n above c w bs)

mutual
  heights_at : (c w : List ℕ) (b : Branch Provision) (rest : Branches Provision) → heights (all_owns (at_one c w b rest)) ≡ max (height (owns b)) (heights (all_owns rest))
  heights_at c w (branch p below) rest =
      let same : max (heights (all_owns (changed (with_content c) w below)) + 1) (heights (all_owns rest)) ≡ max (heights (all_owns below) + 1) (heights (all_owns rest)) =
      ap (λ h. max (h + 1) (heights (all_owns rest))) (heights_stay c w below) in
      cond_both (bytes_eq p.wid w) (with_content c (branch p (changed (with_content c) w below)) rest) (more_branches (branch p (changed (with_content c) w below)) rest)
      (λ r. heights (all_owns r) ≡ max (heights (all_owns below) + 1) (heights (all_owns rest))) (λ _. same) (λ _. same)

  heights_stay : (c w : List ℕ) (bs : Branches Provision) → heights (all_owns (changed (with_content c) w bs)) ≡ heights (all_owns bs)
  heights_stay c w no_branches = refl
  heights_stay c w (more_branches b bs) = heights_at c w b (changed (with_content c) w bs) ∙ ap (max (height (owns b))) (heights_stay c w bs)

mutual
  counts_at : (c w : List ℕ) (b : Branch Provision) (rest : Branches Provision) → counts (all_owns (at_one c w b rest)) ≡ count (owns b) + counts (all_owns rest)
  counts_at c w (branch p below) rest =
      let same : counts (all_owns (changed (with_content c) w below)) + 1 + counts (all_owns rest) ≡ counts (all_owns below) + 1 + counts (all_owns rest) =
      ap (λ k. k + 1 + counts (all_owns rest)) (counts_stay c w below) in
      cond_both (bytes_eq p.wid w) (with_content c (branch p (changed (with_content c) w below)) rest) (more_branches (branch p (changed (with_content c) w below)) rest)
      (λ r. counts (all_owns r) ≡ counts (all_owns below) + 1 + counts (all_owns rest)) (λ _. same) (λ _. same)

  counts_stay : (c w : List ℕ) (bs : Branches Provision) → counts (all_owns (changed (with_content c) w bs)) ≡ counts (all_owns bs)
  counts_stay c w no_branches = refl
  counts_stay c w (more_branches b bs) = counts_at c w b (changed (with_content c) w bs) ∙ ap (λ k. count (owns b) + k) (counts_stay c w bs)

-- the tests at a provision whose content changes: on its heading and content, on the new content, and on what stands beneath it
at_it : (heading content inside long under : Bool) → (heading || content) ≡ false → under ≡ (inside && long) → ((heading || long) || under) ≡ ((true || inside) && long)
at_it false false inside true under none is = refl
at_it false false false false under none is = is
at_it false false true false under none is = is
at_it true content inside long under none is = absurd cc
at_it false true inside long under none is = absurd cc

-- the same at another provision
elsewhere : (own inside long under : Bool) → own ≡ false → under ≡ (inside && long) → (own || under) ≡ ((false || inside) && long)
elsewhere false inside long under none is = is
elsewhere true inside long under none is = absurd cc

-- the tests at a provision and at those behind it
either : (here there long : Bool) → ((here && long) || (there && long)) ≡ ((here || there) && long)
either true true true = refl
either true true false = refl
either true false true = refl
either true false false = refl
either false there long = refl

both_false : (s t : Bool) → (s || t) ≡ false → (s ≡ false) × (t ≡ false)
both_false false t none = (refl, none)
both_false true t none = absurd cc

abbrev too_long : List ℕ → Bool
too_long text = nat_lt MAX_TEXT_BYTES (length text)

mutual
  long_at : (c w : List ℕ) (b : Branch Provision) (rest : Branches Provision) → has_long (owns b) ≡ false → have_long (all_owns (at_one c w b rest)) ≡ ((holds w b && too_long c) || have_long (all_owns rest))
  long_at c w (branch p below) rest short =
      let t = both_false (is_long p.own) (have_long (all_owns below)) short in
      let under : have_long (all_owns (changed (with_content c) w below)) ≡ (any_holds w below && too_long c) = long_told c w below t.1 in
      cond_both (bytes_eq p.wid w) (with_content c (branch p (changed (with_content c) w below)) rest) (more_branches (branch p (changed (with_content c) w below)) rest)
      (λ r. have_long (all_owns r) ≡ (((bytes_eq p.wid w || any_holds w below) && too_long c) || have_long (all_owns rest)))
      (λ it. ap (λ s. s || have_long (all_owns rest)) (at_it (too_long p.own.heading) (too_long p.own.content) (any_holds w below) (too_long c) (have_long (all_owns (changed (with_content c) w below))) t.0 under
      ∙ ap (λ s. (s || any_holds w below) && too_long c) (sym it)))
      (λ other. ap (λ s. s || have_long (all_owns rest)) (elsewhere (is_long p.own) (any_holds w below) (too_long c) (have_long (all_owns (changed (with_content c) w below))) t.0 under
      ∙ ap (λ s. (s || any_holds w below) && too_long c) (sym other)))

  long_told : (c w : List ℕ) (bs : Branches Provision) → have_long (all_owns bs) ≡ false → have_long (all_owns (changed (with_content c) w bs)) ≡ (any_holds w bs && too_long c)
  long_told c w no_branches short = refl
  long_told c w (more_branches b bs) short =
      let t = both_false (has_long (owns b)) (have_long (all_owns bs)) short in
      long_at c w b (changed (with_content c) w bs) t.0
      ∙ ap (λ s. (holds w b && too_long c) || s) (long_told c w bs t.1)
      ∙ either (holds w b) (any_holds w bs) (too_long c)

fault_of_content : (n : Numbering) (limit : NodeLimit) (c w : List ℕ) (bs : Branches Provision) → first_fault n limit (all_owns bs) ≡ None → any_holds w bs ≡ true
    → first_fault n limit (all_owns (changed (with_content c) w bs)) ≡ cond (too_long c) (Some TextTooLong) None
fault_of_content n limit c w bs none there =
    let placed : IsPlaced n limit (all_owns bs) = is_placed n limit (all_owns bs) none in
    let low : heights (all_owns bs) ≤ MAX_DEPTH = placed.low in
    let few : counts (all_owns bs) ≤ most_nodes limit = placed.few in
    fault_of_length n limit (all_owns (changed (with_content c) w bs)) (too_long c)
    (record {
      once = ap one_twice (eids_stay n None c w bs) ∙ placed.once;
      low = omega (arith, heights_stay c w bs);
      few = omega (arith, counts_stay c w bs);
    })
    (long_told c w bs (is_short n limit (all_owns bs) none) ∙ ap (λ s. s && too_long c) there)

-- the one cause that another content of a provision can bring
pub cause_of_content : (t : TreeValue) (c w : List ℕ) → first_cause t ≡ None → any_holds w t.body ≡ true
    → first_cause (record t { body = changed (with_content c) w t.body }) ≡ cond (nat_lt MAX_TEXT_BYTES (length c)) (Some causes.TextTooLong) None
cause_of_content t c w none there =
    ap (λ f. option_map fault_cause f) (fault_of_content t.numbering t.limit c w t.body (faultless t none) there)
    ∙ cond_both (too_long c) (Some TextTooLong) None (λ f. option_map fault_cause f ≡ cond (too_long c) (Some causes.TextTooLong) None)
    (λ long. ap (λ s. cond s (Some causes.TextTooLong) None) (sym long))
    (λ short. ap (λ s. cond s (Some causes.TextTooLong) None) (sym short))

-- a content that is not too long is not held back, and one that is too long is
pub content_done : (t : TreeValue) (c w : List ℕ) → first_cause t ≡ None → any_holds w t.body ≡ true → length c ≤ MAX_TEXT_BYTES
    → within_limits t (Ok (changed (with_content c) w t.body)) ≡ Ok (changed (with_content c) w t.body)
content_done t c w none there short =
    ap (λ cause. unless_for cause (changed (with_content c) w t.body)) (cause_of_content t c w none there ∙ ap (λ s. cond s (Some causes.TextTooLong) None) (le-ltb MAX_TEXT_BYTES (length c) short))

pub content_long : (t : TreeValue) (c w : List ℕ) → first_cause t ≡ None → any_holds w t.body ≡ true → MAX_TEXT_BYTES < length c
    → within_limits t (Ok (changed (with_content c) w t.body)) ≡ Err causes.TextTooLong
content_long t c w none there long =
    ap (λ cause. unless_for cause (changed (with_content c) w t.body)) (cause_of_content t c w none there ∙ ap (λ s. cond s (Some causes.TextTooLong) None) (lt-ltb MAX_TEXT_BYTES (length c) long))
