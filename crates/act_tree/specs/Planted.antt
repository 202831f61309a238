-- What it means that branches were laid down behind what an arena had before.
use Rattle.std.specs.Prelude.{ℕ, ◌==◌, ◌+◌, ◌<◌, ◌≤◌, ◌^◌, ◌≡◌, true, false, List, [], ◌∷◌, Option, Some, None}
use Rattle.std.specs.List.{list_any}
use Rattle.act_tree.specs.declared.arena.Arena.{Arena}
use Rattle.act_tree.specs.Branches.{Branch, Branches, no_branches, more_branches}
use Rattle.eid_paths.specs.Nums.{is_num}
use Rattle.act_tree.specs.Provisions.{Provision}
use Rattle.act_tree.specs.Wids.{wids, all_wids, is_among, one_twice}
use Rattle.act_tree.specs.Arena.{Laid, Stands, provision_in, below_in, name_in, is_hung, number_twice}
use Rattle.act_tree.specs.Slots.{at, number, size, IsOwn, LeadsTo}

-- what an arena keeps whatever stands in it: each number is hung; no list names a number twice; nums keep the rule of
-- nums; the index leads to provisions of the wId; nothing is laid down past its size, and that fits
pub record IsSound (at : ℕ → Option Laid) (number : List ℕ → Option ℕ) (size : ℕ) : Type 0 where
  pub hung : (k : ℕ) → is_hung at k (at k) ≡ true
  pub once : (k : ℕ) → number_twice (below_in (at k)) ≡ false
  pub nums : (k : ℕ) → is_num (provision_in (at k)).own.num ≡ true
  pub named : (wid : List ℕ) (k : ℕ) → number wid ≡ Some k → name_in (at k) ≡ Some wid
  pub empty : (k : ℕ) → size ≤ k → at k ≡ None
  pub fits : size ≤ 2 ^ 32

-- numbers and branches side by side, of each pair of which something holds
abbrev pub Each : (ℕ → Branch Provision → Type 0) → List ℕ → Branches Provision → Type 0
Each P [] no_branches = Unit {0}
Each P (k ∷ ks) no_branches = ⊥
Each P [] (more_branches b bs) = ⊥
Each P (k ∷ ks) (more_branches b bs) = P k b × Each P ks bs

-- a provision was laid down right above itself with nothing below it, and noted
pub record IsAdded (old new : Arena) (p : Provision) : Type 0 where
  pub here : at new (size old) ≡ Some (record { provision = p; above = size old; below = [] })
  pub others : (k : ℕ) → (k ≡ size old → ⊥) → at new k ≡ at old k
  pub numbers : LeadsTo old new p.wid (size old)
  pub sizes : size new ≡ size old + 1
  pub fits : size new ≤ 2 ^ 32
  pub own : IsOwn new

-- what an arena had stays, though provisions of some of these wIds may have been laid down behind it; and it is sound
-- where it was, and own where it was
pub record HasGrown (old new : Arena) (wids : List (List ℕ)) : Type 0 where
  pub kept : (k : ℕ) → k < size old → at new k ≡ at old k
  pub numbers : (w : List ℕ) → is_among w wids ≡ false → number new w ≡ number old w
  pub sound : IsSound (at old) (number old) (size old) → IsSound (at new) (number new) (size new)
  pub rises : size old ≤ size new
  pub own : IsOwn old → IsOwn new

-- a branch was laid down, right above itself, at the first new number; it stands there if its wIds differ
pub record IsLaid (old new : Arena) (id : ℕ) (b : Branch Provision) : Type 0 where
  pub grown : HasGrown old new (wids b)
  pub place : id ≡ size old
  pub within : id < size new
  pub stands : one_twice (wids b) ≡ false → Stands (at new) (number new) id id b

-- branches were laid down, each right above itself, at new numbers that differ; they stand there if their wIds differ
pub record AreLaid (old new : Arena) (ids : List ℕ) (bs : Branches Provision) : Type 0 where
  pub grown : HasGrown old new (all_wids bs)
  pub within : (k : ℕ) → list_any (λ j. j == k) ids ≡ true → (size old ≤ k) × (k < size new)
  pub differ : number_twice ids ≡ false
  pub stands : one_twice (all_wids bs) ≡ false → Each (λ k b. Stands (at new) (number new) k k b) ids bs
