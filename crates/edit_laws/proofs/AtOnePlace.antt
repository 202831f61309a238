-- Where wIds are distinct, what is found at a wId stands there alone.
use Rattle.std.proofs.Common.{◌≡◌, ◌∙◌, sym, ap, ℕ, true, false, List, Some, inl, inr}
use Rattle.std.specs.Str.{bytes_eq}
use Rattle.std.proofs.lemmas.Bool.{cases_Bool}
use Rattle.act_tree.specs.Branches.{Branch, Branches, branch, no_branches, more_branches}
use Rattle.act_tree.specs.Changes.{has_wid, holds, any_holds, found}
use Rattle.act_tree.specs.Provisions.{Provision}
use Rattle.act_tree.specs.Wids.{all_wids, one_twice}
use Rattle.act_tree.proofs.Frames.{none_left, none_right}
use Rattle.act_tree.proofs.Texts.{same_text}
use Rattle.textual_mods.proofs.OnePlace.{AreDistinct, are_distinct, first_found, found_past, beneath_it, behind_it, first_of}

-- what stands beneath a provision
abbrev pub beneath : Branch Provision → Branches Provision
beneath (branch p below) = below

-- a provision of a wId is this one, and the wId stands neither beneath it nor behind it
pub record IsOnly (w : List ℕ) (it b : Branch Provision) (rest : Branches Provision) : Type 0 where
  pub is : b ≡ it
  pub beneath : any_holds w (beneath b) ≡ false
  pub behind : any_holds w rest ≡ false

-- a wId stands at this one provision, if at any
abbrev mutual
  pub AloneInside : List ℕ → Branch Provision → Branch Provision → Type 0
  AloneInside w it (branch p below) = Alone w it below

  pub Alone : List ℕ → Branch Provision → Branches Provision → Type 0
  Alone w it no_branches = Unit {0}
  Alone w it (more_branches b bs) = (has_wid w b ≡ true → IsOnly w it b bs) × (AloneInside w it b × Alone w it bs)

mutual
  none_alone_inside : (w : List ℕ) (it b : Branch Provision) → holds w b ≡ false → AloneInside w it b
  none_alone_inside w it (branch p below) none = none_alone w it below (none_right (bytes_eq p.wid w) _ none)

  none_alone : (w : List ℕ) (it : Branch Provision) (bs : Branches Provision) → any_holds w bs ≡ false → Alone w it bs
  none_alone w it no_branches none = tt
  none_alone w it (more_branches (branch p below) bs) none = (
    λ of_it. absurd (let never : true ≡ false = sym of_it ∙ none_left (bytes_eq p.wid w) _ (none_left (holds w (branch p below)) _ none) in cc),
    (none_alone_inside w it (branch p below) (none_left (holds w (branch p below)) _ none), none_alone w it bs (none_right (holds w (branch p below)) _ none)),
  )

-- where wIds are distinct, what is found stands alone
pub one_place : (w : List ℕ) (it : Branch Provision) (bs : Branches Provision) → one_twice (all_wids bs) ≡ false → found w bs ≡ Some it → Alone w it bs
one_place w it no_branches once is = tt
one_place w it (more_branches (branch p below) bs) once is =
    elim (cases_Bool (bytes_eq p.wid w)) [
      | inl it_is ↦
          let same : p.wid ≡ w = same_text p.wid w it_is in
          let not_beneath : any_holds w below ≡ false = sym (ap (λ v. any_holds v below) same) ∙ d.not_beneath in
          let not_behind : any_holds w bs ≡ false = sym (ap (λ v. any_holds v bs) same) ∙ d.not_behind in
          let one : Some (branch p below) ≡ Some it = sym (first_found w p below bs it_is) ∙ is in
          (λ _. record { is = (cc); beneath = not_beneath; behind = not_behind }, (none_alone w it below not_beneath, none_alone w it bs not_behind))
      | inr other ↦ (
        λ of_it. absurd (let never : true ≡ false = sym of_it ∙ other in cc),
        elim (first_of w it below bs (sym (found_past w p below bs other) ∙ is)) [
          | beneath_it here there ↦ (one_place w it below d.beneath_once here, none_alone w it bs (d.apart w there))
          | behind_it none later ↦ (none_alone w it below none, one_place w it bs d.behind_once later)
        ],
      )
    ]
  where
    d : AreDistinct p below bs
    d = are_distinct p below bs once
