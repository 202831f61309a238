-- The wIds of provisions, and texts that stand twice.
use Rattle.std.specs.Prelude.{ℕ, Bool, false, ◌||◌, List, [], ◌∷◌, ◌++◌}
use Rattle.std.specs.List.{list_any}
use Rattle.std.specs.Str.{bytes_eq}
use Rattle.act_tree.specs.Branches.{Branch, Branches, branch, no_branches, more_branches}
use Rattle.act_tree.specs.Provisions.{Provision}

-- the wIds of provisions at every depth, in the order of the text
abbrev mutual
  pub wids : Branch Provision → List (List ℕ)
  wids (branch p below) = p.wid ∷ all_wids below

  pub all_wids : Branches Provision → List (List ℕ)
  all_wids no_branches = []
  all_wids (more_branches b bs) = wids b ++ all_wids bs

-- a text is among these
abbrev pub is_among : List ℕ → List (List ℕ) → Bool
is_among text texts = list_any (bytes_eq text) texts

-- one of these texts stands twice
abbrev pub one_twice : List (List ℕ) → Bool
one_twice [] = false
one_twice (text ∷ texts) = is_among text texts || one_twice texts
