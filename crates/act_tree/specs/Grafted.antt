-- What it means that branches were laid down and put into a list.
use Rattle.std.specs.Prelude.{ℕ, suc, ◌==◌, ◌≡◌, List, [], ◌∷◌, ◌++◌, take, drop, if◌then◌else◌}
use Rattle.act_tree.specs.declared.arena.Arena.{Arena}
use Rattle.act_tree.specs.Branches.{Branches}
use Rattle.act_tree.specs.Provisions.{Provision}
use Rattle.act_tree.specs.Arena.{below_in}
use Rattle.act_tree.specs.Planted.{AreLaid}
use Rattle.act_tree.specs.Relisted.{IsRelisted}
use Rattle.act_tree.specs.Slots.{at, own_at, size}

-- numbers with others among them, behind the first so many
abbrev pub put_numbers : ℕ → List ℕ → List ℕ → List ℕ
put_numbers place others numbers = take place numbers ++ (others ++ drop place numbers)

-- the place of a number among others, counted from `start`; behind them all where it is none of them
abbrev pub place_from : ℕ → ℕ → List ℕ → ℕ
place_from start i [] = start
place_from start i (k ∷ numbers) = if k == i then start else suc (place_from start i numbers)

-- branches were laid down, and their numbers came among those below another one, behind the first so many
pub record IsGrafted (old new : Arena) (parent place : ℕ) (bs : Branches Provision) : Type 0 where
  pub between : Arena
  pub ids : List ℕ
  pub laid : AreLaid old between ids bs
  pub relisted : IsRelisted (at between) (at new) parent (own_at between parent) [] ids
      (put_numbers place ids (below_in (at old parent)))
  pub numbers : new.numbers ≡ between.numbers
  pub sizes : size new ≡ size between
