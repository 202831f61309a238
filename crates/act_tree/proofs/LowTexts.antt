-- How deep a text is after a change, and how deep what stands in it.
use Rattle.std.proofs.Common.{◌≡◌, ◌∙◌, sym, ap, refl, ℕ, zero, suc, ◌+◌, ◌-◌, ◌≤◌, Bool, true, false, ◌||◌, cond, max, nat_lt, List, ◌∷◌, Option, Some, None, inl, inr, arith}
use Rattle.std.specs.Str.{bytes_eq}
use Rattle.std.proofs.lemmas.Bool.{cases_Bool, cond_both, cases_lt, lt-ltb}
use Rattle.eid_paths.specs.declared.numbering.Numbering.{Numbering}
use Rattle.act_tree.specs.declared.build_fault.BuildFault.TheVariants.{EidTwice, TooDeep, TooManyNodes, TextTooLong}
use Rattle.act_tree.specs.declared.limits.NodeLimit.{NodeLimit}
use Rattle.act_tree.specs.declared.limits.TheConstants.{MAX_DEPTH}
use Rattle.act_tree.specs.Branches.{Branch, Branches, branch, no_branches, more_branches, height, heights, counts}
use Rattle.act_tree.specs.Changes.{Step, has_wid, holds, any_holds, inside_changed, changed, inside_without, without, removed, root_wid, joined, first, behind, before, instead, with_content, parted, merged, inside_renumbered, renumbered, sought, found, or_else}
use Rattle.act_tree.specs.Depths.{depth_in, depth_of}
use Rattle.act_tree.specs.Eids.{eid_below, enacted, all_enacted}
use Rattle.act_tree.specs.Faults.{all_eids, have_long, first_fault}
use Rattle.act_tree.specs.NodeLimits.{most_nodes}
use Rattle.act_tree.specs.Provisions.{Own, Provision}
use Rattle.act_tree.specs.Wids.{all_wids, is_among, one_twice}
use Rattle.act_tree.proofs.Frames.{Apart, twice_apart, none_left, none_right}
use Rattle.act_tree.proofs.PutIn.{all_wids_held, same_changed}
use Rattle.act_tree.proofs.Texts.{equal_text, same_text}

-- a text that is another is as deep
pub as_low : (most : ℕ) (bs cs : Branches Provision) → bs ≡ cs → heights cs ≤ most → heights bs ≤ most
as_low most bs cs same low = omega (arith, ap heights same, low)

-- what came of a text and is no deeper is as low
pub still_low : (most : ℕ) (bs cs ds : Branches Provision) → bs ≡ cs → heights cs ≤ heights ds → heights ds ≤ most → heights bs ≤ most
still_low most bs cs ds same less low = omega (arith, ap heights same, less, low)

pub heights_joined : (bs cs : Branches Provision) → heights (joined bs cs) ≡ max (heights bs) (heights cs)
heights_joined no_branches cs = omega arith
heights_joined (more_branches b bs) cs = omega (arith, heights_joined bs cs)

first_low : (n : ℕ) (bs : Branches Provision) → heights (first n bs) ≤ heights bs
first_low zero bs = omega arith
first_low (suc n) no_branches = omega arith
first_low (suc n) (more_branches b bs) = omega (arith, first_low n bs)

behind_low : (n : ℕ) (bs : Branches Provision) → heights (behind n bs) ≤ heights bs
behind_low zero bs = omega arith
behind_low (suc n) no_branches = omega arith
behind_low (suc n) (more_branches b bs) = omega (arith, behind_low n bs)

-- without provisions it is no deeper
mutual
  inside_without_low : (w : List ℕ) (b : Branch Provision) → height (inside_without w b) ≤ height b
  inside_without_low w (branch p below) = omega (arith, without_low w below)

  without_low : (w : List ℕ) (bs : Branches Provision) → heights (without w bs) ≤ heights bs
  without_low w no_branches = omega arith
  without_low w (more_branches b bs) =
      cond_both (has_wid w b) (without w bs) (more_branches (inside_without w b) (without w bs)) (λ r. heights r ≤ heights (more_branches b bs))
      (λ _. omega (arith, without_low w bs))
      (λ _. omega (arith, inside_without_low w b, without_low w bs))

pub removed_low : (w : List ℕ) (bs : Branches Provision) → heights (removed w bs) ≤ heights bs
removed_low w bs = cond_both (bytes_eq w root_wid) no_branches (without w bs) (λ r. heights r ≤ heights bs) (λ _. omega arith) (λ _. without_low w bs)

-- a step makes nothing deeper
abbrev pub KeepsLow : Step → Type 0
KeepsLow step = (b : Branch Provision) (rest : Branches Provision) → heights (step b rest) ≤ heights (more_branches b rest)

mutual
  inside_changed_low : (step : Step) → KeepsLow step → (w : List ℕ) (b : Branch Provision) → height (inside_changed step w b) ≤ height b
  inside_changed_low step keeps w (branch p below) = omega (arith, changed_low step keeps w below)

  pub changed_low : (step : Step) → KeepsLow step → (w : List ℕ) (bs : Branches Provision) → heights (changed step w bs) ≤ heights bs
  changed_low step keeps w no_branches = omega arith
  changed_low step keeps w (more_branches b bs) =
      cond_both (has_wid w b) (step (inside_changed step w b) (changed step w bs)) (more_branches (inside_changed step w b) (changed step w bs)) (λ r. heights r ≤ heights (more_branches b bs))
      (λ _. omega (arith, keeps (inside_changed step w b) (changed step w bs), inside_changed_low step keeps w b, changed_low step keeps w bs))
      (λ _. omega (arith, inside_changed_low step keeps w b, changed_low step keeps w bs))

pub content_low : (content : List ℕ) → KeepsLow (with_content content)
content_low content (branch p below) rest = omega arith

pub merged_low : (content : List ℕ) → KeepsLow (merged content)
merged_low content b no_branches = omega arith
merged_low content (branch p below) (more_branches (branch q under) rest) = omega (arith, heights_joined below under)

pub parted_low : (place : ℕ) (head : List ℕ) (second : Provision) → KeepsLow (parted place head second)
parted_low place head second (branch p below) rest = omega (arith, first_low place below, behind_low place below)

mutual
  height_renumbered : (pairs : List (List ℕ × List ℕ)) (b : Branch Provision) → height (inside_renumbered pairs b) ≡ height b
  height_renumbered pairs (branch p below) = omega (arith, heights_renumbered pairs below)

  heights_renumbered : (pairs : List (List ℕ × List ℕ)) (bs : Branches Provision) → heights (renumbered pairs bs) ≡ heights bs
  heights_renumbered pairs no_branches = refl
  heights_renumbered pairs (more_branches b bs) = omega (arith, height_renumbered pairs b, heights_renumbered pairs bs)

pub renumbered_low : (pairs : List (List ℕ × List ℕ)) (bs : Branches Provision) → heights (renumbered pairs bs) ≤ heights bs
renumbered_low pairs bs = omega (arith, heights_renumbered pairs bs)

-- others right before a provision that stands once make it as deep as it was, or as it is with them in the provision's place
pub before_low : (new : Branches Provision) (w : List ℕ) (bs : Branches Provision) → one_twice (all_wids bs) ≡ false → heights (changed (before new) w bs) ≤ max (heights bs) (heights (changed (instead new) w bs))
before_low new w no_branches once = omega arith
before_low new w (more_branches (branch p below) bs) once =
    let apart : Apart (p.wid ∷ all_wids below) (all_wids bs) = twice_apart (p.wid ∷ all_wids below) (all_wids bs) once in
    let under : heights (changed (before new) w below) ≤ max (heights below) (heights (changed (instead new) w below)) = before_low new w below (none_right (is_among p.wid (all_wids below)) _ apart.first) in
    let later : heights (changed (before new) w bs) ≤ max (heights bs) (heights (changed (instead new) w bs)) = before_low new w bs apart.second in
    elim (cases_Bool (bytes_eq p.wid w)) [
      | inl it ↦
          let same : p.wid ≡ w = same_text p.wid w it in
          let none_below : any_holds w below ≡ false = sym (ap (λ v. any_holds v below) same) ∙ sym (all_wids_held p.wid below) ∙ none_left _ (one_twice (all_wids below)) apart.first in
          let none_behind : any_holds w bs ≡ false =
          sym (ap (λ v. any_holds v bs) same) ∙ sym (all_wids_held p.wid bs) ∙ apart.between p.wid (ap (λ t. t || is_among p.wid (all_wids below)) (equal_text p.wid p.wid refl)) in
          let left : heights (changed (before new) w (more_branches (branch p below) bs)) ≡ heights (joined new (more_branches (branch p (changed (before new) w below)) (changed (before new) w bs))) =
          ap (λ t. heights (cond t (joined new (more_branches (branch p (changed (before new) w below)) (changed (before new) w bs))) (more_branches (branch p (changed (before new) w below)) (changed (before new) w bs)))) it in
          let right : heights (changed (instead new) w (more_branches (branch p below) bs)) ≡ heights (joined new (changed (instead new) w bs)) =
          ap (λ t. heights (cond t (joined new (changed (instead new) w bs)) (more_branches (branch p (changed (instead new) w below)) (changed (instead new) w bs)))) it in
          omega (
            arith,
            left,
            right,
            heights_joined new (more_branches (branch p (changed (before new) w below)) (changed (before new) w bs)),
            heights_joined new (changed (instead new) w bs),
            ap heights (same_changed (before new) w below none_below),
            ap heights (same_changed (before new) w bs none_behind),
            ap heights (same_changed (instead new) w bs none_behind),
          )
      | inr other ↦
          let left : heights (changed (before new) w (more_branches (branch p below) bs)) ≡ heights (more_branches (branch p (changed (before new) w below)) (changed (before new) w bs)) =
          ap (λ t. heights (cond t (joined new (more_branches (branch p (changed (before new) w below)) (changed (before new) w bs))) (more_branches (branch p (changed (before new) w below)) (changed (before new) w bs)))) other in
          let right : heights (changed (instead new) w (more_branches (branch p below) bs)) ≡ heights (more_branches (branch p (changed (instead new) w below)) (changed (instead new) w bs)) =
          ap (λ t. heights (cond t (joined new (changed (instead new) w bs)) (more_branches (branch p (changed (instead new) w below)) (changed (instead new) w bs)))) other in
          omega (arith, left, right, under, later)
    ]

either_low : (s o : Option (Branch Provision)) (c : Branch Provision) (m n : ℕ) → ((d : Branch Provision) → s ≡ Some d → height d ≤ m) → ((d : Branch Provision) → o ≡ Some d → height d ≤ n)
    → or_else s o ≡ Some c → height c ≤ max m n
either_low (Some d) o c m n one other is =
    let same : d ≡ c = cc in
    omega (arith, one d refl, ap height same)
either_low None o c m n one other is = omega (arith, other c is)

-- a provision that is found is no higher than the text
mutual
  sought_low : (w : List ℕ) (b c : Branch Provision) → sought w b ≡ Some c → height c ≤ height b
  sought_low w (branch p below) c is =
      elim (cases_Bool (bytes_eq p.wid w)) [
        | inl it ↦
            let same : Some (branch p below) ≡ Some c = sym (ap (λ t. cond t (Some (branch p below)) (found w below)) it) ∙ is in
            let one : branch p below ≡ c = cc in
            omega (arith, ap height one)
        | inr other ↦ omega (arith, found_low w below c (sym (ap (λ t. cond t (Some (branch p below)) (found w below)) other) ∙ is))
      ]

  pub found_low : (w : List ℕ) (bs : Branches Provision) (c : Branch Provision) → found w bs ≡ Some c → height c ≤ heights bs
  found_low w no_branches c is = absurd cc
  found_low w (more_branches b bs) c is = either_low (sought w b) (found w bs) c (height b) (heights bs) (sought_low w b) (found_low w bs) is

-- no provision is deeper than the text
mutual
  depth_in_low : (w : List ℕ) (b : Branch Provision) → depth_in w b ≤ height b
  depth_in_low w (branch p below) = cond_both (bytes_eq p.wid w) 1 (depth_of w below + 1) (λ d. d ≤ heights below + 1) (λ _. omega arith) (λ _. omega (arith, depth_low w below))

  pub depth_low : (w : List ℕ) (bs : Branches Provision) → depth_of w bs ≤ heights bs
  depth_low w no_branches = omega arith
  depth_low w (more_branches b bs) =
      cond_both (holds w b) (depth_in w b) (depth_of w bs) (λ d. d ≤ heights (more_branches b bs)) (λ _. omega (arith, depth_in_low w b)) (λ _. omega (arith, depth_low w bs))

-- provisions are as deep as the nodes that become them
mutual
  height_enacted : (n : Numbering) (above : Option (List ℕ)) (b : Branch Own) → height (enacted n above b) ≡ height b
  height_enacted n above (branch own below) = omega (arith, heights_enacted n (Some (eid_below n above own.element own.num)) below)

  pub heights_enacted : (n : Numbering) (above : Option (List ℕ)) (bs : Branches Own) → heights (all_enacted n above bs) ≡ heights bs
  heights_enacted n above no_branches = refl
  heights_enacted n above (more_branches b bs) = omega (arith, height_enacted n above b, heights_enacted n above bs)

-- where no fault holds, nodes nest no deeper than a text may
pub faultless_low : (n : Numbering) (limit : NodeLimit) (bs : Branches Own) → first_fault n limit bs ≡ None → heights bs ≤ MAX_DEPTH
faultless_low n limit bs none = by (one_twice (all_eids n None bs)) (nat_lt MAX_DEPTH (heights bs)) refl none
  where
    by : (twice deep : Bool) → nat_lt MAX_DEPTH (heights bs) ≡ deep
        → cond twice (Some EidTwice) (cond deep (Some TooDeep) (cond (nat_lt (most_nodes limit) (counts bs)) (Some TooManyNodes) (cond (have_long bs) (Some TextTooLong) None))) ≡ None → heights bs ≤ MAX_DEPTH
    by true deep is clean = absurd cc
    by false true is clean = absurd cc
    by false false is clean = elim (cases_lt MAX_DEPTH (heights bs)) [ inl less ↦ absurd (let told : nat_lt MAX_DEPTH (heights bs) ≡ true = lt-ltb MAX_DEPTH (heights bs) less in cc) | inr most ↦ most ]
