-- Nested things: each branch has a label, which is what it says of itself, and the branches below it in order.
use Rattle.std.specs.Prelude.{ℕ, ◌+◌, ◌≡◌, refl, List, [], ◌∷◌, max}
use Rattle.std.proofs.Common.{ap}

mutual
  pub data Branch (L : Type 0) : Type 0 where
    branch : L → Branches L → Branch L

  pub data Branches (L : Type 0) : Type 0 where
    no_branches : Branches L
    more_branches : Branch L → Branches L → Branches L

-- the branches side by side, as a list
abbrev pub listed : {L : Type 0} → Branches L → List (Branch L)
listed no_branches = []
listed (more_branches b bs) = b ∷ listed bs

-- a list of branches, side by side
abbrev pub branches_of : {L : Type 0} → List (Branch L) → Branches L
branches_of [] = no_branches
branches_of (b ∷ bs) = more_branches b (branches_of bs)

-- how many branches a branch nests, itself included
abbrev mutual
  pub height : {L : Type 0} → Branch L → ℕ
  height (branch label below) = heights below + 1

  pub heights : {L : Type 0} → Branches L → ℕ
  heights no_branches = 0
  heights (more_branches b bs) = max (height b) (heights bs)

-- how many branches there are, at every depth
abbrev mutual
  pub count : {L : Type 0} → Branch L → ℕ
  count (branch label below) = counts below + 1

  pub counts : {L : Type 0} → Branches L → ℕ
  counts no_branches = 0
  counts (more_branches b bs) = count b + counts bs

-- the height of the tallest branch of a list
abbrev pub tallest : {L : Type 0} → List (Branch L) → ℕ
tallest [] = 0
tallest (b ∷ bs) = max (height b) (tallest bs)

pub heights-branches_of : {L : Type 0} → (bs : List (Branch L)) → heights (branches_of bs) ≡ tallest bs
heights-branches_of [] = refl
heights-branches_of (b ∷ bs) = ap (max (height b)) (heights-branches_of bs)

pub listed-branches_of : {L : Type 0} → (bs : List (Branch L)) → listed (branches_of bs) ≡ bs
listed-branches_of [] = refl
listed-branches_of (b ∷ bs) = ap (λ rest. b ∷ rest) (listed-branches_of bs)

pub branches_of-listed : {L : Type 0} → (bs : Branches L) → branches_of (listed bs) ≡ bs
branches_of-listed no_branches = refl
branches_of-listed (more_branches b bs) = ap (more_branches b) (branches_of-listed bs)
