-- The last of the first so many numbers whose provision has a level: no number of the level is greater.
use Rattle.std.proofs.Common.{◌≡◌, ◌∙◌, sym, ap, subst, ℕ, zero, suc, ◌<◌, ◌≤◌, Bool, true, cond, List, Option, Some, None, IfSome, inl, inr, arith}
use Rattle.std.specs.Str.{bytes_eq}
use Rattle.std.proofs.lemmas.Bool.{cases_Bool, cases_eq}
use Rattle.act_tree.specs.Arena.{Laid, provision_in}
use Rattle.act_tree.specs.EidLevels.{own_level}
use Rattle.act_tree.specs.LevelsOfNodes.{latest_at}

-- a number is no greater than the one that there is
abbrev pub IsUpTo : Option ℕ → ℕ → Type 0
IsUpTo None i = ⊥
IsUpTo (Some j) i = i ≤ j

-- how many numbers there are up to one
abbrev pub up_to : Option ℕ → ℕ
up_to None = 0
up_to (Some j) = suc j

module _ (at : ℕ → Option Laid) (x : List ℕ) where
  -- the provision of a number has the level
  abbrev pub has_it : ℕ → Bool
  has_it i = bytes_eq x (own_level (provision_in (at i)).own)

  -- a number of the level among the first so many is no greater than the last
  pub latest_past : (m i : ℕ) → i < m → has_it i ≡ true → IsUpTo (latest_at at x m) i
  latest_past zero i low held = absurd (omega arith)
  latest_past (suc m) i low held =
      let P : Option ℕ → Type 0 = λ o. IsUpTo o i in
      elim (cases_Bool (has_it m)) [
        | inl here ↦
            let most : i ≤ m = omega arith in
            subst P (sym (ap (λ t. cond t (Some m) (latest_at at x m)) here)) most
        | inr none ↦ elim (cases_eq i m) [
          | inl it ↦ absurd (let told : has_it m ≡ true = ap has_it (sym it) ∙ held in cc)
          | inr other ↦ subst P (sym (ap (λ t. cond t (Some m) (latest_at at x m)) none)) (latest_past m i (omega arith) held)
        ]
      ]

  -- the last has the level, and is one of them
  pub latest_has : (m j : ℕ) → latest_at at x m ≡ Some j → (j < m) × (has_it j ≡ true)
  latest_has zero j is = absurd cc
  latest_has (suc m) j is =
      elim (cases_Bool (has_it m)) [
        | inl here ↦
            let one : Some m ≡ Some j = sym (ap (λ t. cond t (Some m) (latest_at at x m)) here) ∙ is in
            let it : m ≡ j = cc in
            (omega arith, ap has_it (sym it) ∙ here)
        | inr none ↦
            let before = latest_has m j (sym (ap (λ t. cond t (Some m) (latest_at at x m)) none) ∙ is) in
            (let low : j < m = before.0 in omega arith, before.1)
      ]

  -- a number that is sought is one of those, and has the level
  abbrev pub IsOne : ℕ → ℕ → Type 0
  IsOne m j = (j < m) × (has_it j ≡ true)

  pub latest_one : (m n : ℕ) → m ≤ n → (o : Option ℕ) → o ≡ latest_at at x m → IfSome o (IsOne n)
  latest_one m n most None is = tt
  latest_one m n most (Some j) is = (let it = latest_has m j (sym is) in (let low : j < m = it.0 in omega arith, it.1))

  -- up to it there are no more than those
  pub latest_low : (m : ℕ) (o : Option ℕ) → o ≡ latest_at at x m → up_to o < suc m
  latest_low m None is = omega arith
  latest_low m (Some j) is = (let low : j < m = (latest_has m j (sym is)).0 in omega arith)
