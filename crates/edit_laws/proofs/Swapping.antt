-- Two changes at provisions that stand apart can be made in either order.
use Rattle.std.proofs.Common.{◌≡◌, ◌∙◌, sym, ap, refl, ℕ, true, false, List, inl, inr}
use Rattle.std.specs.Str.{bytes_eq}
use Rattle.std.proofs.lemmas.Bool.{cases_Bool}
use Rattle.act_tree.specs.Branches.{Branch, Branches, branch, no_branches, more_branches}
use Rattle.act_tree.specs.Changes.{Step, has_wid, holds, any_holds, inside_changed, changed, joined}
use Rattle.act_tree.specs.Provisions.{Provision}
use Rattle.act_tree.proofs.Frames.{none_left, none_right}
use Rattle.edit_laws.proofs.AtOnePlace.{beneath, IsOnly, Alone}
use Rattle.textual_mods.proofs.OnePlace.{not_changed, passed, at_place, elsewhere}

-- right behind a provision of the wId stand these
pub record IsBefore (near rest : Branches Provision) : Type 0 where
  pub far : Branches Provision
  pub is : rest ≡ joined near far

abbrev mutual
  pub FollowedInside : List ℕ → Branches Provision → Branch Provision → Type 0
  FollowedInside v near (branch p below) = Followed v near below

  pub Followed : List ℕ → Branches Provision → Branches Provision → Type 0
  Followed v near no_branches = Unit {0}
  Followed v near (more_branches b bs) = (has_wid v b ≡ true → IsBefore near bs) × (FollowedInside v near b × Followed v near bs)

mutual
  none_inside : (v : List ℕ) (near : Branches Provision) (b : Branch Provision) → holds v b ≡ false → FollowedInside v near b
  none_inside v near (branch p below) none = none_followed v near below (none_right (bytes_eq p.wid v) _ none)

  -- where the wId does not stand
  pub none_followed : (v : List ℕ) (near bs : Branches Provision) → any_holds v bs ≡ false → Followed v near bs
  none_followed v near no_branches none = tt
  none_followed v near (more_branches (branch p below) bs) none = (
    λ of_it. absurd (let never : true ≡ false = sym of_it ∙ none_left (bytes_eq p.wid v) _ (none_left (holds v (branch p below)) _ none) in cc),
    (none_inside v near (branch p below) (none_left (holds v (branch p below)) _ none), none_followed v near bs (none_right (holds v (branch p below)) _ none)),
  )

mutual
  always_inside : (v : List ℕ) (b : Branch Provision) → FollowedInside v no_branches b
  always_inside v (branch p below) = always_followed v below

  -- none at all always stand behind
  pub always_followed : (v : List ℕ) (bs : Branches Provision) → Followed v no_branches bs
  always_followed v no_branches = tt
  always_followed v (more_branches b bs) = (λ _. record { far = bs; is = refl }, (always_inside v b, always_followed v bs))

-- what a step makes of a provision and of those right behind it, whatever stands further behind
abbrev pub Makes : Step → Branch Provision → Branches Provision → Branches Provision → Type 0
Makes step a near made = (far : Branches Provision) → step a (joined near far) ≡ joined made far

pub joined_same : (near xs ys : Branches Provision) → joined near xs ≡ joined near ys → xs ≡ ys
joined_same no_branches xs ys same = same
joined_same (more_branches b bs) xs ys same = joined_same bs xs ys (let tails : joined bs xs ≡ joined bs ys = cc in tails)

-- a change passes what does not hold its wId
pub past : (step : Step) (w : List ℕ) (new rest : Branches Provision) → any_holds w new ≡ false → changed step w (joined new rest) ≡ joined new (changed step w rest)
past step w no_branches rest none = refl
past step w (more_branches b bs) rest none =
    passed step w b (joined bs rest) (none_left (holds w b) _ none) ∙ ap (more_branches b) (past step w bs rest (none_right (holds w b) _ none))

inside_only : (step : Step) (v : List ℕ) (b : Branch Provision) → any_holds v (beneath b) ≡ false → inside_changed step v b ≡ b
inside_only step v (branch p below) none = ap (branch p) (not_changed step v below none)

-- at its place, a change gives what the step makes, and then what it makes of those further behind
pub made_there : (step : Step) (v : List ℕ) (a b : Branch Provision) (near made far : Branches Provision) → Makes step a near made → has_wid v b ≡ true → b ≡ a → any_holds v (beneath b) ≡ false → any_holds v near ≡ false
    → changed step v (more_branches b (joined near far)) ≡ joined made (changed step v far)
made_there step v a b near made far makes it is none not_near =
    at_place step v b (joined near far) it
    ∙ ap (λ c. step c (changed step v (joined near far))) (inside_only step v b none ∙ is)
    ∙ ap (step a) (past step v near far not_near)
    ∙ makes (changed step v far)

module _ (one two : Step) (v w : List ℕ) (a : Branch Provision) (near made : Branches Provision) (makes : Makes one a near made)
    (not_in : holds w a ≡ false) (not_near : any_holds w near ≡ false) (not_made : any_holds w made ≡ false) (not_own : any_holds v near ≡ false) where
  -- where one of two changes is made, the other passes
  passes : (b : Branch Provision) (bs : Branches Provision) → has_wid v b ≡ true → IsOnly v a b bs → IsBefore near bs
      → changed one v (changed two w bs) ≡ changed two w (changed one v bs) → changed one v (changed two w (more_branches b bs)) ≡ changed two w (changed one v (more_branches b bs))
  passes b bs it only before behind =
      let far : Branches Provision = before.far in
      let none : holds w b ≡ false = ap (holds w) only.is ∙ not_in in
      let two_far : changed two w bs ≡ joined near (changed two w far) = ap (changed two w) before.is ∙ past two w near far not_near in
      let one_far : (cs : Branches Provision) → changed one v (joined near cs) ≡ joined near (changed one v cs) = λ cs. past one v near cs not_own in
      let same : changed one v (changed two w far) ≡ changed two w (changed one v far) =
      joined_same near (changed one v (changed two w far)) (changed two w (changed one v far))
      (sym (one_far (changed two w far)) ∙ sym (ap (changed one v) two_far) ∙ behind ∙ ap (changed two w) (ap (changed one v) before.is ∙ one_far far) ∙ past two w near (changed one v far) not_near) in
      ap (changed one v) (passed two w b bs none ∙ ap (more_branches b) two_far)
      ∙ made_there one v a b near made (changed two w far) makes it only.is only.beneath not_own
      ∙ ap (joined made) same
      ∙ sym (past two w made (changed one v far) not_made)
      ∙ sym (ap (changed two w) (ap (λ cs. changed one v (more_branches b cs)) before.is ∙ made_there one v a b near made far makes it only.is only.beneath not_own))

-- a change is made at one provision alone, and brings nothing of the wId of another change, which stands neither at it, nor beneath it,
-- nor in what it looks at behind it
pub record IsApart (step : Step) (v w : List ℕ) (a : Branch Provision) (near made bs : Branches Provision) : Type 0 where
  pub makes : Makes step a near made
  pub not_in : holds w a ≡ false
  pub not_near : any_holds w near ≡ false
  pub not_made : any_holds w made ≡ false
  pub not_own : any_holds v near ≡ false
  pub alone : Alone v a bs
  pub followed : Followed v near bs

module _ (one two : Step) (v w : List ℕ) (a c : Branch Provision) (near made near_two made_two : Branches Provision) where
  beneath_too : (p : Provision) (below bs : Branches Provision) → IsApart one v w a near made (more_branches (branch p below) bs) → IsApart one v w a near made below
  beneath_too p below bs s = record { makes = s.makes; not_in = s.not_in; not_near = s.not_near; not_made = s.not_made; not_own = s.not_own; alone = s.alone.1.0; followed = s.followed.1.0 }

  behind_too : (p : Provision) (below bs : Branches Provision) → IsApart one v w a near made (more_branches (branch p below) bs) → IsApart one v w a near made bs
  behind_too p below bs s = record { makes = s.makes; not_in = s.not_in; not_near = s.not_near; not_made = s.not_made; not_own = s.not_own; alone = s.alone.1.1; followed = s.followed.1.1 }

pub swapped : (one two : Step) (v w : List ℕ) (a c : Branch Provision) (near made near_two made_two : Branches Provision) (bs : Branches Provision)
    → IsApart one v w a near made bs → IsApart two w v c near_two made_two bs → changed one v (changed two w bs) ≡ changed two w (changed one v bs)
swapped one two v w a c near made near_two made_two no_branches s t = refl
swapped one two v w a c near made near_two made_two (more_branches (branch p below) bs) s t =
    let under : changed one v (changed two w below) ≡ changed two w (changed one v below) =
    swapped one two v w a c near made near_two made_two below (beneath_too one two v w a c near made near_two made_two p below bs s) (beneath_too two one w v c a near_two made_two near made p below bs t) in
    let behind : changed one v (changed two w bs) ≡ changed two w (changed one v bs) =
    swapped one two v w a c near made near_two made_two bs (behind_too one two v w a c near made near_two made_two p below bs s) (behind_too two one w v c a near_two made_two near made p below bs t) in
    elim (cases_Bool (bytes_eq p.wid v)) [
      | inl it ↦ passes one two v w a near made s.makes s.not_in s.not_near s.not_made s.not_own (branch p below) bs it (s.alone.0 it) (s.followed.0 it) behind
      | inr not_v ↦ elim (cases_Bool (bytes_eq p.wid w)) [
        | inl it ↦ sym (passes two one w v c near_two made_two t.makes t.not_in t.not_near t.not_made t.not_own (branch p below) bs it (t.alone.0 it) (t.followed.0 it) (sym behind))
        | inr not_w ↦
            ap (changed one v) (elsewhere two w (branch p below) bs not_w)
            ∙ elsewhere one v (branch p (changed two w below)) (changed two w bs) not_v
            ∙ ap (λ under. more_branches (branch p under) (changed one v (changed two w bs))) under
            ∙ ap (more_branches (branch p (changed two w (changed one v below)))) behind
            ∙ sym (ap (changed two w) (elsewhere one v (branch p below) bs not_v) ∙ elsewhere two w (branch p (changed one v below)) (changed one v bs) not_w)
      ]
    ]
