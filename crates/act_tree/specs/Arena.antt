-- The arena of a tree: what is laid down for each number, and the nested text that is read from it.
use Rattle.std.specs.Prelude.{ℕ, zero, suc, ◌==◌, ◌≡◌, ◌<◌, ◌≤◌, ◌^◌, Bool, true, false, not, ◌||◌, ◌&&◌, List, [], ◌∷◌, map, Option, Some, None}
use Rattle.std.specs.List.{list_any}
use Rattle.eid_paths.specs.declared.element.Element.TheVariants.{Article}
use Rattle.act_tree.specs.Branches.{Branch, Branches, branch, no_branches, more_branches, branches_of, heights}
use Rattle.eid_paths.specs.Nums.{is_num}
use Rattle.act_tree.specs.Provisions.{Provision}
use Rattle.act_tree.specs.Changes.{root_wid}

-- what is laid down for a number: what the provision says, the number of the one right above it, and the numbers of
-- those right below it in order
pub record Laid : Type 0 where
  pub provision : Provision
  pub above : ℕ
  pub below : List ℕ

-- what the root says: nothing, under the wId that stands for the act; its element and num are never shown
abbrev pub root_provision : Provision
root_provision = record {
  wid = root_wid;
  own = record { element = Article; num = 48 ∷ []; heading = []; content = []; refs = [] };
}

-- the provision that is laid down, or the root's where nothing is
abbrev pub provision_in : Option Laid → Provision
provision_in None = root_provision
provision_in (Some x) = x.provision

-- the number above
abbrev pub above_in : Option Laid → ℕ
above_in None = 0
above_in (Some x) = x.above

-- the numbers below
abbrev pub below_in : Option Laid → List ℕ
below_in None = []
below_in (Some x) = x.below

-- the wId that is laid down, if something is
abbrev pub name_in : Option Laid → Option (List ℕ)
name_in None = None
name_in (Some x) = Some x.provision.wid

-- the branches of these numbers, read down so many levels
abbrev pub branches_below : ℕ → (ℕ → Option Laid) → List ℕ → Branches Provision
branches_below zero at numbers = no_branches
branches_below (suc levels) at numbers =
    branches_of (map (λ i. branch (provision_in (at i)) (branches_below levels at (below_in (at i)))) numbers)

-- the branch of a number, with so many levels below it
abbrev pub branch_from : ℕ → (ℕ → Option Laid) → ℕ → Branch Provision
branch_from levels at i = branch (provision_in (at i)) (branches_below levels at (below_in (at i)))

-- something is laid down whose number above is another than its own: what is taken off has its own
abbrev pub hangs_on : ℕ → Option Laid → Bool
hangs_on i None = false
hangs_on i (Some x) = not (x.above == i)

-- the way up from a number ends at the root, in fewer steps than these
abbrev pub climbs : ℕ → (ℕ → Option Laid) → ℕ → Bool
climbs zero at i = false
climbs (suc steps) at i = (i == 0) || (hangs_on i (at i) && climbs steps at (above_in (at i)))

-- the way up from a number ends so, and does not pass another number; where that is the root, it is no hindrance
abbrev pub climbs_past : ℕ → (ℕ → Option Laid) → ℕ → ℕ → Bool
climbs_past zero at gone i = false
climbs_past (suc steps) at gone i =
    (i == 0) || (not (i == gone) && (hangs_on i (at i) && climbs_past steps at gone (above_in (at i))))

-- the branch stands at the number: its provision is laid down there, below the number above, and the index leads to it
abbrev mutual
  pub Stands : (ℕ → Option Laid) → (List ℕ → Option ℕ) → ℕ → ℕ → Branch Provision → Type 0
  Stands at number above i (branch p below) =
      (at i ≡ Some (record { provision = p; above = above; below = below_in (at i) }))
      × ((number p.wid ≡ Some i) × StandAll at number i (below_in (at i)) below)

  pub StandAll : (ℕ → Option Laid) → (List ℕ → Option ℕ) → ℕ → List ℕ → Branches Provision → Type 0
  StandAll at number above [] no_branches = Unit {0}
  StandAll at number above (i ∷ numbers) no_branches = ⊥
  StandAll at number above [] (more_branches b bs) = ⊥
  StandAll at number above (i ∷ numbers) (more_branches b bs) =
      Stands at number above i b × StandAll at number above numbers bs

-- a number is its own number above, or is among those below the one above it
abbrev pub is_hung : (ℕ → Option Laid) → ℕ → Option Laid → Bool
is_hung at i None = true
is_hung at i (Some x) = (x.above == i) || list_any (λ j. j == i) (below_in (at x.above))

-- one of these numbers stands twice among them
abbrev pub number_twice : List ℕ → Bool
number_twice [] = false
number_twice (i ∷ numbers) = list_any (λ j. j == i) numbers || number_twice numbers

-- an arena is whole: the text that is read from it stands there from the root down, each number is hung, no list names
-- a number twice, the text is not as deep as there are numbers, nums keep the rule of nums, the index leads to
-- provisions of the wId, and each number fits 32 bits
pub record IsWhole (at : ℕ → Option Laid) (number : List ℕ → Option ℕ) (size : ℕ) : Type 0 where
  pub stands : Stands at number 0 0 (branch_from size at 0)
  pub root : provision_in (at 0) ≡ root_provision
  pub hung : (i : ℕ) → is_hung at i (at i) ≡ true
  pub once : (i : ℕ) → number_twice (below_in (at i)) ≡ false
  pub low : heights (branches_below size at (below_in (at 0))) < size
  pub nums : (i : ℕ) → is_num (provision_in (at i)).own.num ≡ true
  pub named : (wid : List ℕ) (i : ℕ) → number wid ≡ Some i → name_in (at i) ≡ Some wid
  pub fits : size ≤ 2 ^ 32
