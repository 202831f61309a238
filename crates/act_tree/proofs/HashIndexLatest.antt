-- The latest of the first numbers that is in a bucket: how it is found, and what another bucket of one number changes.
use Rattle.std.proofs.Common.{◌≡◌, ◌∙◌, sym, ap, refl, ℕ, zero, suc, ◌+◌, ◌<◌, ◌≤◌, eqb, List, get_or, inl, inr, arith}
use Rattle.std.proofs.lemmas.Bool.{cases_eq, cond-true, cond-false, eq-eqb, ne_eqb}
use Rattle.act_tree.specs.HashIndex.{latest}

pub latest_none : (places : List ℕ) (b : ℕ) → latest places 0 b ≡ 0
unfolding latest
latest_none places b = refl

pub latest_here : (places : List ℕ) (n b : ℕ) → get_or places n 0 ≡ b → latest places (suc n) b ≡ suc n
unfolding latest
latest_here places n b here = cond-true (eqb (get_or places n 0) b) (suc n) (latest places n b) (eq-eqb (get_or places n 0) b here)

pub latest_on : (places : List ℕ) (n b : ℕ) → (get_or places n 0 ≡ b → ⊥) → latest places (suc n) b ≡ latest places n b
unfolding latest
latest_on places n b other = cond-false (eqb (get_or places n 0) b) (suc n) (latest places n b) (ne_eqb (get_or places n 0) b other)

pub latest_le : (places : List ℕ) (n b : ℕ) → latest places n b ≤ n
latest_le places zero b = omega (arith, latest_none places b)
latest_le places (suc n) b = elim (cases_eq (get_or places n 0) b) [
  | inl here ↦ omega (arith, latest_here places n b here)
  | inr other ↦ omega (arith, latest_on places n b other, latest_le places n b)
]

-- no number of the bucket is later
pub latest_reaches : (places : List ℕ) (n b k : ℕ) → k < n → get_or places k 0 ≡ b → k < latest places n b
latest_reaches places zero b k low here = absurd (omega arith)
latest_reaches places (suc n) b k low here = elim (cases_eq (get_or places n 0) b) [
  | inl last ↦ omega (arith, latest_here places n b last)
  | inr other ↦ elim (cases_eq k n) [
    | inl same ↦ absurd (other (ap (λ (i : ℕ). get_or places i 0) (sym same) ∙ here))
    | inr apart ↦ (let before : k < latest places n b = latest_reaches places n b k (omega arith) here in omega (arith, latest_on places n b other))
  ]
]

-- the latest is of the bucket
pub latest_has : (places : List ℕ) (n b k : ℕ) → latest places n b ≡ suc k → (k < n) × (get_or places k 0 ≡ b)
latest_has places zero b k it = absurd (omega (arith, latest_none places b))
latest_has places (suc n) b k it = elim (cases_eq (get_or places n 0) b) [
  | inl here ↦ (let same : k ≡ n = omega (arith, latest_here places n b here) in (omega arith, ap (λ (i : ℕ). get_or places i 0) same ∙ here))
  | inr other ↦ (let before : (k < n) × (get_or places k 0 ≡ b) = latest_has places n b k (sym (latest_on places n b other) ∙ it) in (omega (arith, before.0), before.1))
]

-- the first numbers alone tell
pub latest_same : (places others : List ℕ) (n b : ℕ) → ((k : ℕ) → k < n → get_or others k 0 ≡ get_or places k 0) → latest others n b ≡ latest places n b
latest_same places others zero b same = latest_none others b ∙ sym (latest_none places b)
latest_same places others (suc n) b same = elim (cases_eq (get_or places n 0) b) [
  | inl here ↦ latest_here others n b (same n (omega arith) ∙ here) ∙ sym (latest_here places n b here)
  | inr other ↦
      latest_on others n b (λ e. other (sym (same n (omega arith)) ∙ e)) ∙ latest_same places others n b (λ k low. same k (omega arith)) ∙ sym (latest_on places n b other)
]

-- a number comes to bucket x, and all others stay where they are
module _ (places now : List ℕ) (number x : ℕ) (here : get_or now number 0 ≡ x) (stay : (k : ℕ) → (k ≡ number → ⊥) → get_or now k 0 ≡ get_or places k 0) where
  pub changed_before : (n b : ℕ) → n ≤ number → latest now n b ≡ latest places n b
  changed_before n b low = latest_same places now n b (λ k less. stay k (λ e. omega arith))

  -- a latest one behind it stays
  pub changed_behind : (n b : ℕ) → number + 1 < latest places n b → latest now n b ≡ latest places n b
  changed_behind zero b far = absurd (omega (arith, latest_none places b))
  changed_behind (suc n) b far = elim (cases_eq (get_or places n 0) b) [
    | inl last ↦
        let apart : n ≡ number → ⊥ = λ e. omega (arith, latest_here places n b last) in
        latest_here now n b (stay n apart ∙ last) ∙ sym (latest_here places n b last)
    | inr other ↦
        let before : number + 1 < latest places n b = omega (arith, latest_on places n b other) in
        let apart : n ≡ number → ⊥ = λ e. omega (arith, latest_le places n b) in
        latest_on now n b (λ e. other (sym (stay n apart) ∙ e)) ∙ changed_behind n b before ∙ sym (latest_on places n b other)
  ]

  -- of the bucket that it comes to, the number is the latest where none behind it is
  pub changed_to : (n : ℕ) → number < n → latest places n x ≤ number + 1 → latest now n x ≡ number + 1
  changed_to zero low last = absurd (omega arith)
  changed_to (suc n) low last = elim (cases_eq n number) [
    | inl same ↦ (let more : suc n ≡ number + 1 = omega arith in latest_here now n x (ap (λ (i : ℕ). get_or now i 0) same ∙ here) ∙ more)
    | inr apart ↦
        let other : get_or places n 0 ≡ x → ⊥ = λ e. omega (arith, latest_here places n x e) in
        latest_on now n x (λ e. other (sym (stay n apart) ∙ e)) ∙ changed_to n (omega arith) (omega (arith, latest_on places n x other))
  ]

  -- of a bucket that it is not in now, the latest before it is the latest where none behind it is
  pub changed_from : (n b : ℕ) → number < n → (x ≡ b → ⊥) → latest places n b ≤ number + 1 → latest now n b ≡ latest places number b
  changed_from zero b low gone last = absurd (omega arith)
  changed_from (suc n) b low gone last = elim (cases_eq n number) [
    | inl same ↦
        let at : get_or now n 0 ≡ x = ap (λ (i : ℕ). get_or now i 0) same ∙ here in
        latest_on now n b (λ e. gone (sym at ∙ e)) ∙ changed_before n b (omega arith) ∙ ap (λ (i : ℕ). latest places i b) same
    | inr apart ↦
        let other : get_or places n 0 ≡ b → ⊥ = λ e. omega (arith, latest_here places n b e) in
        latest_on now n b (λ e. other (sym (stay n apart) ∙ e)) ∙ changed_from n b (omega arith) gone (omega (arith, latest_on places n b other))
  ]

  -- a bucket that it neither leaves nor comes to stays
  pub changed_apart : (n b : ℕ) → (get_or places number 0 ≡ b → ⊥) → (x ≡ b → ⊥) → latest now n b ≡ latest places n b
  changed_apart zero b left come = latest_none now b ∙ sym (latest_none places b)
  changed_apart (suc n) b left come = elim (cases_eq n number) [
    | inl same ↦
        latest_on now n b (λ e. come (sym (ap (λ (i : ℕ). get_or now i 0) same ∙ here) ∙ e)) ∙ changed_apart n b left come
        ∙ sym (latest_on places n b (λ e. left (ap (λ (i : ℕ). get_or places i 0) (sym same) ∙ e)))
    | inr apart ↦ elim (cases_eq (get_or places n 0) b) [
      | inl it ↦ latest_here now n b (stay n apart ∙ it) ∙ sym (latest_here places n b it)
      | inr other ↦ latest_on now n b (λ e. other (sym (stay n apart) ∙ e)) ∙ changed_apart n b left come ∙ sym (latest_on places n b other)
    ]
  ]

-- a latest number that is not behind another one, and is not that one, is the latest before it
pub latest_down : (places : List ℕ) (number n b : ℕ) → number < n → (get_or places number 0 ≡ b → ⊥) → latest places n b ≤ number + 1
    → latest places n b ≡ latest places number b
latest_down places number n b low other last = changed_from places places number (get_or places number 0) refl (λ k apart. refl) n b low other last
