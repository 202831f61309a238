-- The place of a child among others.
use Rattle.std.proofs.Common.{◌≡◌, ◌∙◌, sym, ap, refl, ℕ, ◌+◌, ◌<◌, true, false, cond, List, length, map, drop, get_or, Option, Some, None, arith}
use Rattle.std.specs.Prelude.{option_map}
use Rattle.std.specs.Str.{bytes_eq}
use Rattle.act_tree.proofs.Walking.{branch_is, nodes_from}
use Rattle.act_tree.specs.declared.tree.Tree.{Tree}
use Rattle.act_tree.specs.Branches.{branch, branches_of}
use Rattle.act_tree.specs.Seen.{provision_at, branch_at, below_at}
use Rattle.textual_mods.specs.Splits.{place_among}

-- the place among the nodes from one on
abbrev pub from : Tree → List ℕ → List ℕ → ℕ → Option ℕ
from t w ids i = place_among w (branches_of (map (branch_at t) (drop i ids)))

pub one_here : (t : Tree) (w ids : List ℕ) (i d : ℕ) → i < length ids → bytes_eq (provision_at t (get_or ids i d)).wid w ≡ true → from t w ids i ≡ Some 0
one_here t w ids i d within here =
    ap (place_among w) (nodes_from t ids i d within) ∙ ap (λ told. cond told (Some 0) (option_map (λ k. k + 1) (from t w ids (i + 1)))) here

pub one_other : (t : Tree) (w ids : List ℕ) (i d : ℕ) → i < length ids → bytes_eq (provision_at t (get_or ids i d)).wid w ≡ false → from t w ids i ≡ option_map (λ k. k + 1) (from t w ids (i + 1))
one_other t w ids i d within other =
    ap (place_among w) (nodes_from t ids i d within) ∙ ap (λ told. cond told (Some 0) (option_map (λ k. k + 1) (from t w ids (i + 1)))) other

pub shifted : (n : ℕ) (o : Option ℕ) → option_map (λ k. k + (n + 1)) o ≡ option_map (λ k. k + n) (option_map (λ k. k + 1) o)
shifted n None = refl
shifted n (Some k) = ap Some (omega arith)

-- a branch may be told by its node's parts
pub branches_are : (t : Tree) (r : Option ℕ) → option_map (λ i. branch (provision_at t i) (below_at t i)) r ≡ option_map (branch_at t) r
branches_are t None = refl
branches_are t (Some i) = ap Some (sym (branch_is t i))
