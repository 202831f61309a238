-- That a level is begun by one of the first so many numbers is told by those that have it, from the last to the first.
use Rattle.std.proofs.Common.{◌≡◌, ◌∙◌, sym, ap, refl, subst, ℕ, zero, suc, ◌<◌, ◌≤◌, Bool, true, false, ◌||◌, ◌&&◌, List, Option, Some, None, inl, inr, arith}
use Rattle.std.proofs.lemmas.Bool.{cases_Bool}
use Rattle.eid_paths.specs.declared.numbering.Numbering.{Numbering}
use Rattle.act_tree.specs.declared.arena.Arena.{Arena}
use Rattle.act_tree.specs.LevelsOfNodes.{begins_one, begins_past, latest_at, some_past}
use Rattle.act_tree.specs.Slots.{at, size}
use Rattle.act_tree.proofs.SoughtLevels.{has, latest_is, latest_passes}

-- how many numbers are left with this one the last of them; none where there is none
abbrev pub upto : Option ℕ → ℕ
upto None = 0
upto (Some k) = suc k

-- the number, if there is one, is that of a provision of the level
abbrev pub IsMet : Arena → List ℕ → Option ℕ → Type 0
IsMet a level None = Unit {0}
IsMet a level (Some k) = (k < size a) × (has a level k ≡ true)

or_false : (t : Bool) → (t || false) ≡ t
or_false true = refl
or_false false = refl

pub met : (a : Arena) (level : List ℕ) (n : ℕ) → n ≤ size a → IsMet a level (latest_at (at a) level n)
met a level zero low = tt
met a level (suc n) low = elim (cases_Bool (has a level n)) [
  | inl it ↦ subst (IsMet a level) (sym (latest_is a level n it)) (omega arith, it)
  | inr other ↦ subst (IsMet a level) (sym (latest_passes a level n other)) (met a level n (omega arith))
]

-- the last of the first so many is one of them
pub upto_le : (a : Arena) (level : List ℕ) (n : ℕ) → upto (latest_at (at a) level n) ≤ n
upto_le a level zero = omega arith
upto_le a level (suc n) = elim (cases_Bool (has a level n)) [
  | inl it ↦ omega (arith, ap upto (latest_is a level n it))
  | inr other ↦ omega (arith, ap upto (latest_passes a level n other), upto_le a level n)
]

module _ (n : Numbering) (a : Arena) (gone : ℕ) (level : List ℕ) where
  abbrev some : ℕ → Bool
  some m = some_past n (at a) (size a) gone level m

  abbrev past : ℕ → Bool
  past k = begins_past n (at a) (size a) gone level k

  -- a number that fails is passed
  pub passed : (k : ℕ) → past k ≡ false → some (suc k) ≡ some k
  passed k fails = ap (λ (t : Bool). some k || t) fails ∙ or_false (some k)

  -- what the first so many tell, those tell that end at the last one of the level
  pub visited : (m : ℕ) → some m ≡ some (upto (latest_at (at a) level m))
  visited zero = refl
  visited (suc m) = elim (cases_Bool (has a level m)) [
    | inl it ↦ ap (λ (o : Option ℕ). some (upto o)) (sym (latest_is a level m it))
    | inr other ↦
        passed m (ap (λ (t : Bool). t && begins_one n (at a) (size a) gone m) other) ∙ visited m
        ∙ ap (λ (o : Option ℕ). some (upto o)) (sym (latest_passes a level m other))
  ]

  -- one that has the level tells whether it begins it
  pub told : (k : ℕ) (r : Bool) → has a level k ≡ true → r ≡ begins_one n (at a) (size a) gone k → past k ≡ r
  told k r it is = ap (λ (t : Bool). t && begins_one n (at a) (size a) gone k) it ∙ sym is

  -- one that does not leaves what those before it tell
  pub one_fails : (k : ℕ) (r : Bool) (next : Option ℕ) → has a level k ≡ true → r ≡ begins_one n (at a) (size a) gone k → r ≡ false → next ≡ latest_at (at a) level k
      → some (upto next) ≡ some (suc k)
  one_fails k r next it is fails goes = ap (λ (o : Option ℕ). some (upto o)) goes ∙ sym (visited k) ∙ sym (passed k (told k r it is ∙ fails))
