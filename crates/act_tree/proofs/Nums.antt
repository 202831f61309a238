-- Nums keep their rule through changes of the text.
use Rattle.std.proofs.Common.{◌≡◌, refl, ℕ, zero, suc, true, false, Bool, ◌&&◌, List, cond}
use Rattle.std.proofs.lemmas.Bool.{and_parts}
use Rattle.eid_paths.specs.Nums.{is_num}
use Rattle.act_tree.specs.Branches.{Branch, Branches, branch, no_branches, more_branches}
use Rattle.act_tree.specs.Changes.{Step, has_wid, without, inside_without, changed, inside_changed, joined, first, behind, put_in, among_children, parted, merged}
use Rattle.act_tree.specs.Numbered.{is_numbered, are_numbered}
use Rattle.act_tree.specs.Provisions.{Provision}

pub both : (s t : Bool) → s ≡ true → t ≡ true → (s && t) ≡ true
both true t first second = second
both false t first second = first

mutual
  inside_kept : (w : List ℕ) (b : Branch Provision) → is_numbered b ≡ true → is_numbered (inside_without w b) ≡ true
  inside_kept w (branch p below) kept = both _ _ (and_parts _ _ kept).0 (without_kept w below (and_parts _ _ kept).1)

  -- those that are left have nums
  pub without_kept : (w : List ℕ) (bs : Branches Provision) → are_numbered bs ≡ true → are_numbered (without w bs) ≡ true
  without_kept w no_branches kept = refl
  without_kept w (more_branches b bs) kept =
      let one : is_numbered (inside_without w b) ≡ true = inside_kept w b (and_parts _ _ kept).0 in
      let rest : are_numbered (without w bs) ≡ true = without_kept w bs (and_parts _ _ kept).1 in
      elim (has_wid w b) as (λ t. are_numbered (cond t (without w bs) (more_branches (inside_without w b) (without w bs))) ≡ true) [
        | true ↦ rest
        | false ↦ both _ _ one rest
      ]

-- a step makes provisions with nums of such
abbrev pub KeepsNums : Step → Type 0
KeepsNums step = (b : Branch Provision) (rest : Branches Provision) → is_numbered b ≡ true → are_numbered rest ≡ true → are_numbered (step b rest) ≡ true

module _ (step : Step) (w : List ℕ) (keeps : KeepsNums step) where
  mutual
    inside_changed_kept : (b : Branch Provision) → is_numbered b ≡ true → is_numbered (inside_changed step w b) ≡ true
    inside_changed_kept (branch p below) kept = both _ _ (and_parts _ _ kept).0 (changed_kept below (and_parts _ _ kept).1)

    -- so does the change
    pub changed_kept : (bs : Branches Provision) → are_numbered bs ≡ true → are_numbered (changed step w bs) ≡ true
    changed_kept no_branches kept = refl
    changed_kept (more_branches b bs) kept =
        let one : is_numbered (inside_changed step w b) ≡ true = inside_changed_kept b (and_parts _ _ kept).0 in
        let rest : are_numbered (changed step w bs) ≡ true = changed_kept bs (and_parts _ _ kept).1 in
        elim (has_wid w b) as (λ t. are_numbered (cond t (step (inside_changed step w b) (changed step w bs)) (more_branches (inside_changed step w b) (changed step w bs))) ≡ true) [
          | true ↦ keeps (inside_changed step w b) (changed step w bs) one rest
          | false ↦ both _ _ one rest
        ]

pub joined_kept : (bs cs : Branches Provision) → are_numbered bs ≡ true → are_numbered cs ≡ true → are_numbered (joined bs cs) ≡ true
joined_kept no_branches cs one two = two
joined_kept (more_branches b bs) cs one two = both _ _ (and_parts _ _ one).0 (joined_kept bs cs (and_parts _ _ one).1 two)

pub first_kept : (n : ℕ) (bs : Branches Provision) → are_numbered bs ≡ true → are_numbered (first n bs) ≡ true
first_kept zero bs kept = refl
first_kept (suc n) no_branches kept = refl
first_kept (suc n) (more_branches b bs) kept = both _ _ (and_parts _ _ kept).0 (first_kept n bs (and_parts _ _ kept).1)

pub behind_kept : (n : ℕ) (bs : Branches Provision) → are_numbered bs ≡ true → are_numbered (behind n bs) ≡ true
behind_kept zero bs kept = kept
behind_kept (suc n) no_branches kept = refl
behind_kept (suc n) (more_branches b bs) kept = behind_kept n bs (and_parts _ _ kept).1

pub put_in_kept : (place : ℕ) (new below : Branches Provision) → are_numbered new ≡ true → are_numbered below ≡ true → are_numbered (put_in place new below) ≡ true
put_in_kept place new below one two = joined_kept (first place below) (joined new (behind place below)) (first_kept place below two) (joined_kept new (behind place below) one (behind_kept place below two))

pub among_children_keeps : (place : ℕ) (new : Branches Provision) → are_numbered new ≡ true → KeepsNums (among_children place new)
among_children_keeps place new kept (branch p below) rest one others = both _ _ (both _ _ (and_parts _ _ one).0 (put_in_kept place new below kept (and_parts _ _ one).1)) others

pub parted_keeps : (place : ℕ) (head : List ℕ) (second : Provision) → is_num second.own.num ≡ true → KeepsNums (parted place head second)
parted_keeps place head second num (branch p below) rest one others =
    both _ _ (both _ _ (and_parts _ _ one).0 (first_kept place below (and_parts _ _ one).1)) (both _ _ (both _ _ num (behind_kept place below (and_parts _ _ one).1)) others)

pub merged_keeps : (content : List ℕ) → KeepsNums (merged content)
merged_keeps content b no_branches one others = both _ _ one others
merged_keeps content (branch p below) (more_branches (branch next under) rest) one others =
    let second : is_numbered (branch next under) ≡ true = (and_parts _ _ others).0 in
    both _ _ (both _ _ (and_parts _ _ one).0 (joined_kept below under (and_parts _ _ one).1 (and_parts _ _ second).1)) (and_parts _ _ others).1
