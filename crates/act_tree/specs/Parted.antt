-- What it means that a provision was parted: a new one stands right behind it, and has the last of its children.
use Rattle.std.specs.Prelude.{ℕ, ◌==◌, ◌≡◌, ◌<◌, ◌≤◌, true, false, List, [], ◌∷◌, take, drop, length, Option}
use Rattle.std.specs.List.{All, list_any}
use Rattle.act_tree.specs.declared.arena.Arena.{Arena}
use Rattle.act_tree.specs.Arena.{Laid, above_in, below_in}
use Rattle.act_tree.specs.Planted.{IsAdded}
use Rattle.act_tree.specs.Provisions.{Provision}
use Rattle.act_tree.specs.Relisted.{IsRelisted}
use Rattle.act_tree.specs.Siblings.{put_behind}
use Rattle.act_tree.specs.Slots.{at, own_at, size}

-- a number i can give the last of those below it to another one n, which comes below u
pub record CanGive (at : ℕ → Option Laid) (size i first n : ℕ) (moved : List ℕ) (u : ℕ) : Type 0 where
  pub within : i < size
  pub new : n < size
  pub over : u < size
  pub place : first ≤ length (below_in (at i))
  pub children : All (λ k. k < size) (below_in (at i))
  pub movable : All (λ k. k < size) moved
  pub same : moved ≡ drop first (below_in (at i))
  pub not_own : list_any (λ j. j == i) moved ≡ false
  pub not_moved : list_any (λ j. j == n) moved ≡ false
  pub other : n ≡ u → ⊥

-- it has given them: it kept the first of them and got another content, the other one got the last, and came below u,
-- whose list is another one
pub record IsGiven (old new : Arena) (i first : ℕ) (head : List ℕ) (n : ℕ) (moved : List ℕ) (u : ℕ) (list : List ℕ)
    : Type 0 where
  pub kept : Arena
  pub had : Arena
  pub cut : IsRelisted (at old) (at kept) i (record (own_at old i) { content = head }) moved []
      (take first (below_in (at old i)))
  pub given : IsRelisted (at kept) (at had) n (own_at kept n) [] moved moved
  pub listed : IsRelisted (at had) (at new) u (own_at had u) [] (n ∷ []) list

-- a number i can be parted, and give these to a new one
pub record CanPart (at : ℕ → Option Laid) (size i first : ℕ) (moved : List ℕ) : Type 0 where
  pub within : i < size
  pub above : above_in (at i) < size
  pub place : first ≤ length (below_in (at i))
  pub children : (k : ℕ) → list_any (λ j. j == k) (below_in (at i)) ≡ true → k < size
  pub same : moved ≡ drop first (below_in (at i))
  pub not_own : list_any (λ j. j == i) (below_in (at i)) ≡ false

-- a new one was laid down, and then the number gave it the last of those below it
pub record IsParted (old new : Arena) (i first : ℕ) (head : List ℕ) (second : Provision) (moved : List ℕ) : Type 0 where
  pub added : Arena
  pub adds : IsAdded old added second
  pub given : IsGiven added new i first head (size old) moved (above_in (at old i))
      (put_behind i (size old) (below_in (at old (above_in (at old i)))))
  pub numbers : new.numbers ≡ added.numbers
  pub sizes : size new ≡ size added
