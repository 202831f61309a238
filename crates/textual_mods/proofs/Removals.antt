-- A text that keeps the limits keeps them without a part of it.
use Rattle.std.proofs.Common.{◌≡◌, ◌∙◌, ap, refl, ℕ, ◌≤◌, Bool, true, false, cond, ◌||◌, List, ◌++◌, Option, Some, None, arith}
use Rattle.std.specs.Prelude.{option_map, Ok, Err}
use Rattle.std.specs.Str.{bytes_eq}
use Rattle.std.proofs.lemmas.Bool.{cond_both}
use Rattle.eid_paths.specs.declared.numbering.Numbering.{Numbering}
use Rattle.act_tree.specs.Branches.{Branch, Branches, branch, no_branches, more_branches, height, heights, count, counts}
use Rattle.act_tree.specs.Changes.{has_wid, inside_without, is_in, without, removed, root_wid}
use Rattle.act_tree.specs.Eids.{eid_below}
use Rattle.act_tree.specs.Faults.{owns, all_owns, eids, all_eids, is_long, has_long, have_long, first_fault, first_cause, fault_cause}
use Rattle.act_tree.specs.Provisions.{Provision}
use Rattle.act_tree.specs.Trees.{TreeValue}
use Rattle.act_tree.specs.declared.cause.Cause.TheVariants.{TargetMissing}
use Rattle.textual_mods.specs.Edits.{unless_for, within_limits}
use Rattle.textual_mods.specs.StructureEdits.{repealed}
use Rattle.textual_mods.proofs.Limits.{IsPlaced, is_placed, is_short, fault_of_length, faultless}
use Rattle.textual_mods.proofs.Sublists.{IsPart, no_texts, with, part-append, part_behind, part_once}
use Rattle.act_tree.specs.declared.limits.TheConstants.{MAX_DEPTH}
use Rattle.act_tree.specs.declared.limits.NodeLimit.{NodeLimit}
use Rattle.act_tree.specs.declared.limits.NodeLimit.TheVariants.{Plain, Wide}
use Rattle.act_tree.specs.NodeLimits.{most_nodes}

mutual
  eids_inside : (n : Numbering) (above : Option (List ℕ)) (w : List ℕ) (b : Branch Provision) → IsPart (eids n above (owns (inside_without w b))) (eids n above (owns b))
  eids_inside n above w (branch p below) = with (eid_below n above p.own.element p.own.num) _ _ (eids_part n (Some (eid_below n above p.own.element p.own.num)) w below)

  eids_part : (n : Numbering) (above : Option (List ℕ)) (w : List ℕ) (bs : Branches Provision) → IsPart (all_eids n above (all_owns (without w bs))) (all_eids n above (all_owns bs))
  eids_part n above w no_branches = no_texts
  eids_part n above w (more_branches b bs) =
      cond_both (has_wid w b) (without w bs) (more_branches (inside_without w b) (without w bs)) (λ r. IsPart (all_eids n above (all_owns r)) (eids n above (owns b) ++ all_eids n above (all_owns bs)))
      (λ _. part_behind (eids n above (owns b)) _ _ (eids_part n above w bs))
      (λ _. part-append _ _ _ _ (eids_inside n above w b) (eids_part n above w bs))

mutual
  height_inside : (w : List ℕ) (b : Branch Provision) → height (owns (inside_without w b)) ≤ height (owns b)
  height_inside w (branch p below) = omega (arith, heights_less w below)

  heights_less : (w : List ℕ) (bs : Branches Provision) → heights (all_owns (without w bs)) ≤ heights (all_owns bs)
  heights_less w no_branches = omega arith
  heights_less w (more_branches b bs) =
      cond_both (has_wid w b) (without w bs) (more_branches (inside_without w b) (without w bs)) (λ r. heights (all_owns r) ≤ heights (all_owns (more_branches b bs)))
      (λ _. omega (arith, heights_less w bs))
      (λ _. omega (arith, height_inside w b, heights_less w bs))

mutual
  count_inside : (w : List ℕ) (b : Branch Provision) → count (owns (inside_without w b)) ≤ count (owns b)
  count_inside w (branch p below) = omega (arith, counts_less w below)

  pub counts_less : (w : List ℕ) (bs : Branches Provision) → counts (all_owns (without w bs)) ≤ counts (all_owns bs)
  counts_less w no_branches = omega arith
  counts_less w (more_branches b bs) =
      cond_both (has_wid w b) (without w bs) (more_branches (inside_without w b) (without w bs)) (λ r. counts (all_owns r) ≤ counts (all_owns (more_branches b bs)))
      (λ _. omega (arith, counts_less w bs))
      (λ _. omega (arith, count_inside w b, counts_less w bs))

both_false : (s t : Bool) → (s || t) ≡ false → (s ≡ false) × (t ≡ false)
both_false false t none = (refl, none)
both_false true t none = absurd cc

or_false : (s t : Bool) → s ≡ false → t ≡ false → (s || t) ≡ false
or_false false t first second = second
or_false true t first second = first

mutual
  short_inside : (w : List ℕ) (b : Branch Provision) → has_long (owns b) ≡ false → has_long (owns (inside_without w b)) ≡ false
  short_inside w (branch p below) short =
      let t = both_false (is_long p.own) (have_long (all_owns below)) short in
      or_false (is_long p.own) (have_long (all_owns (without w below))) t.0 (short_without w below t.1)

  short_without : (w : List ℕ) (bs : Branches Provision) → have_long (all_owns bs) ≡ false → have_long (all_owns (without w bs)) ≡ false
  short_without w no_branches short = refl
  short_without w (more_branches b bs) short =
      let t = both_false (has_long (owns b)) (have_long (all_owns bs)) short in
      cond_both (has_wid w b) (without w bs) (more_branches (inside_without w b) (without w bs)) (λ r. have_long (all_owns r) ≡ false)
      (λ _. short_without w bs t.1)
      (λ _. or_false (has_long (owns (inside_without w b))) (have_long (all_owns (without w bs))) (short_inside w b t.0) (short_without w bs t.1))

pub fits_without : (n : Numbering) (limit : NodeLimit) (w : List ℕ) (bs : Branches Provision) → first_fault n limit (all_owns bs) ≡ None → first_fault n limit (all_owns (without w bs)) ≡ None
fits_without n limit w bs none =
    let placed : IsPlaced n limit (all_owns bs) = is_placed n limit (all_owns bs) none in
    let low : heights (all_owns bs) ≤ MAX_DEPTH = placed.low in
    let few : counts (all_owns bs) ≤ most_nodes limit = placed.few in
    fault_of_length n limit (all_owns (without w bs)) false
    (record {
      once = part_once _ _ (eids_part n None w bs) placed.once;
      low = omega (arith, heights_less w bs);
      few = omega (arith, counts_less w bs);
    })
    (short_without w bs (is_short n limit (all_owns bs) none))

-- a text with no provision keeps each limit
none_fits : (n : Numbering) (limit : NodeLimit) → first_fault n limit no_branches ≡ None
none_fits n Plain = refl
none_fits n Wide = refl

-- a text that keeps the limits keeps them after a repeal
pub removal_fits : (t : TreeValue) (w : List ℕ) → first_cause t ≡ None → first_cause (record t { body = removed w t.body }) ≡ None
removal_fits t w none =
    cond_both (bytes_eq w root_wid) no_branches (without w t.body) (λ r. first_cause (record t { body = r }) ≡ None)
    (λ _. ap (λ f. option_map fault_cause f) (none_fits t.numbering t.limit))
    (λ _. ap (λ f. option_map fault_cause f) (fits_without t.numbering t.limit w t.body (faultless t none)))

-- a repeal whose target is there is not held back
pub repeal_done : (t : TreeValue) (w : List ℕ) → first_cause t ≡ None → is_in w t.body ≡ true → within_limits t (repealed w t.body) ≡ Ok (removed w t.body)
repeal_done t w none there =
    ap (λ found. within_limits t (cond found (Ok (removed w t.body)) (Err TargetMissing))) there
    ∙ ap (λ cause. unless_for cause (removed w t.body)) (removal_fits t w none)
