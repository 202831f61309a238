-- What stands right behind the provision of a wId: at the provision, past another one, and where the wId does not stand.
use Rattle.std.proofs.Common.{◌≡◌, ◌∙◌, ap, refl, ℕ, true, false, cond, List, Option, Some, None}
use Rattle.std.specs.Str.{bytes_eq}
use Rattle.act_tree.specs.Branches.{Branch, Branches, branch, no_branches, more_branches}
use Rattle.act_tree.specs.Changes.{holds, any_holds, head_of, next_of, or_else}
use Rattle.act_tree.specs.Provisions.{Provision}
use Rattle.act_tree.proofs.Frames.{none_left, none_right}

-- the first of provisions, and those behind it
pub record IsFirst (b : Branch Provision) (bs : Branches Provision) : Type 0 where
  pub rest : Branches Provision
  pub is : bs ≡ more_branches b rest

pub is_first : (b : Branch Provision) (bs : Branches Provision) → head_of bs ≡ Some b → IsFirst b bs
is_first b no_branches is = absurd cc
is_first b (more_branches c cs) is = record { rest = cs; is = ap (λ x. more_branches x cs) (let one : c ≡ b = cc in one) }

pub head_at : (v : List ℕ) (p : Provision) (below bs : Branches Provision) → bytes_eq p.wid v ≡ true → next_of v (more_branches (branch p below) bs) ≡ head_of bs
head_at v p below bs it = ap (λ t. cond t (head_of bs) (or_else (next_of v below) (next_of v bs))) it

pub only_first : (o other : Option (Branch Provision)) (b : Branch Provision) → other ≡ None → or_else o other ≡ Some b → o ≡ Some b
only_first None other b none is = absurd cc
only_first (Some c) other b none is = is

pub next_past : (v : List ℕ) (p : Provision) (below bs : Branches Provision) → bytes_eq p.wid v ≡ false → next_of v (more_branches (branch p below) bs) ≡ or_else (next_of v below) (next_of v bs)
next_past v p below bs other = ap (λ t. cond t (head_of bs) (or_else (next_of v below) (next_of v bs))) other

pub next_none : (v : List ℕ) (bs : Branches Provision) → any_holds v bs ≡ false → next_of v bs ≡ None
next_none v no_branches none = refl
next_none v (more_branches (branch p below) bs) none =
    let one : holds v (branch p below) ≡ false = none_left (holds v (branch p below)) _ none in
    next_past v p below bs (none_left (bytes_eq p.wid v) _ one)
    ∙ ap (λ o. or_else o (next_of v bs)) (next_none v below (none_right (bytes_eq p.wid v) _ one))
    ∙ next_none v bs (none_right (holds v (branch p below)) _ none)
