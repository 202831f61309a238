-- Where wIds are distinct, a wId that is there has one place.
use Rattle.std.proofs.Common.{◌≡◌, ◌∙◌, sym, ap, refl, ℕ, Bool, true, false, cond, ◌||◌, List, ◌∷◌, Option, Some, None, inl, inr}
use Rattle.std.specs.Prelude.{is_some}
use Rattle.std.specs.Str.{bytes_eq}
use Rattle.std.proofs.lemmas.Bool.{cases_Bool}
use Rattle.std.proofs.lemmas.List.Folds.{list_any-append}
use Rattle.act_tree.specs.Branches.{Branch, Branches, branch, no_branches, more_branches}
use Rattle.act_tree.specs.Changes.{Step, has_wid, holds, any_holds, inside_changed, changed, found, sought, or_else}
use Rattle.act_tree.specs.Provisions.{Provision}
use Rattle.act_tree.specs.Wids.{wids, all_wids, is_among, one_twice}
use Rattle.act_tree.proofs.Frames.{or_left, none_left, none_right, neither, Apart, twice_apart}
use Rattle.act_tree.proofs.Texts.{equal_text, other_text, bytes_eq_sym}

not_it : (w : List ℕ) (b : Branch Provision) → holds w b ≡ false → has_wid w b ≡ false
not_it w (branch p below) none = none_left (bytes_eq p.wid w) _ none

-- a change passes a provision of another wId, if it changes nothing beneath it
passed_by : (step : Step) (w : List ℕ) (b : Branch Provision) (bs : Branches Provision) → has_wid w b ≡ false → inside_changed step w b ≡ b
    → changed step w (more_branches b bs) ≡ more_branches b (changed step w bs)
passed_by step w b bs other same =
    ap (λ t. cond t (step (inside_changed step w b) (changed step w bs)) (more_branches (inside_changed step w b) (changed step w bs))) other
    ∙ ap (λ c. more_branches c (changed step w bs)) same

mutual
  -- a change at a wId that does not stand there changes nothing
  pub not_inside : (step : Step) (w : List ℕ) (b : Branch Provision) → holds w b ≡ false → inside_changed step w b ≡ b
  not_inside step w (branch p below) none = ap (branch p) (not_changed step w below (none_right (bytes_eq p.wid w) _ none))

  pub not_changed : (step : Step) (w : List ℕ) (bs : Branches Provision) → any_holds w bs ≡ false → changed step w bs ≡ bs
  not_changed step w no_branches none = refl
  not_changed step w (more_branches b bs) none =
      passed_by step w b bs (not_it w b (none_left (holds w b) _ none)) (not_inside step w b (none_left (holds w b) _ none))
      ∙ ap (more_branches b) (not_changed step w bs (none_right (holds w b) _ none))

-- it passes a provision at and beneath which it does not stand
pub passed : (step : Step) (w : List ℕ) (b : Branch Provision) (bs : Branches Provision) → holds w b ≡ false → changed step w (more_branches b bs) ≡ more_branches b (changed step w bs)
passed step w b bs none = passed_by step w b bs (not_it w b none) (not_inside step w b none)

-- at a provision of the wId the step is made
pub at_place : (step : Step) (w : List ℕ) (b : Branch Provision) (bs : Branches Provision) → has_wid w b ≡ true
    → changed step w (more_branches b bs) ≡ step (inside_changed step w b) (changed step w bs)
at_place step w b bs it =
    ap (λ t. cond t (step (inside_changed step w b) (changed step w bs)) (more_branches (inside_changed step w b) (changed step w bs))) it

-- at another provision it is made beneath it and behind it
pub elsewhere : (step : Step) (w : List ℕ) (b : Branch Provision) (bs : Branches Provision) → has_wid w b ≡ false
    → changed step w (more_branches b bs) ≡ more_branches (inside_changed step w b) (changed step w bs)
elsewhere step w b bs other =
    ap (λ t. cond t (step (inside_changed step w b) (changed step w bs)) (more_branches (inside_changed step w b) (changed step w bs))) other

mutual
  pub held_among : (w : List ℕ) (b : Branch Provision) → holds w b ≡ is_among w (wids b)
  held_among w (branch p below) = ap (λ t. t || any_holds w below) (bytes_eq_sym p.wid w) ∙ ap (λ t. bytes_eq w p.wid || t) (all_among w below)

  pub all_among : (w : List ℕ) (bs : Branches Provision) → any_holds w bs ≡ is_among w (all_wids bs)
  all_among w no_branches = refl
  all_among w (more_branches b bs) =
      ap (λ t. t || any_holds w bs) (held_among w b) ∙ ap (λ t. is_among w (wids b) || t) (all_among w bs) ∙ sym (list_any-append (bytes_eq w) (wids b) (all_wids bs))

some_first : (o other : Option (Branch Provision)) → is_some (or_else o other) ≡ (is_some o || is_some other)
some_first None other = refl
some_first (Some b) other = refl

mutual
  held_sought : (w : List ℕ) (b : Branch Provision) → is_some (sought w b) ≡ holds w b
  held_sought w (branch p below) =
      elim (bytes_eq p.wid w) as (λ t. is_some (cond t (Some (branch p below)) (found w below)) ≡ (t || any_holds w below)) [ true ↦ refl | false ↦ held_found w below ]

  -- a wId is found exactly where it stands
  pub held_found : (w : List ℕ) (bs : Branches Provision) → is_some (found w bs) ≡ any_holds w bs
  held_found w no_branches = refl
  held_found w (more_branches b bs) =
      some_first (sought w b) (found w bs) ∙ ap (λ t. t || is_some (found w bs)) (held_sought w b) ∙ ap (λ t. holds w b || t) (held_found w bs)

-- the wIds of a provision, of what stands beneath it and of what stands behind it are distinct
pub record AreDistinct (p : Provision) (below bs : Branches Provision) : Type 0 where
  pub not_beneath : any_holds p.wid below ≡ false
  pub not_behind : any_holds p.wid bs ≡ false
  pub beneath_once : one_twice (all_wids below) ≡ false
  pub behind_once : one_twice (all_wids bs) ≡ false
  pub apart : (w : List ℕ) → any_holds w below ≡ true → any_holds w bs ≡ false

pub are_distinct : (p : Provision) (below bs : Branches Provision) → one_twice (all_wids (more_branches (branch p below) bs)) ≡ false → AreDistinct p below bs
are_distinct p below bs once =
    let parts : Apart (p.wid ∷ all_wids below) (all_wids bs) = twice_apart (p.wid ∷ all_wids below) (all_wids bs) once in
    record {
      not_beneath = all_among p.wid below ∙ none_left (is_among p.wid (all_wids below)) _ parts.first;
      not_behind = all_among p.wid bs ∙ parts.between p.wid (or_left (bytes_eq p.wid p.wid) _ (equal_text p.wid p.wid refl));
      beneath_once = none_right (is_among p.wid (all_wids below)) _ parts.first;
      behind_once = parts.second;
      apart = λ w there. all_among w bs ∙ parts.between w (or_right_of (bytes_eq w p.wid) (is_among w (all_wids below)) (sym (all_among w below) ∙ there));
    }
  where
    or_right_of : (s t : Bool) → t ≡ true → (s || t) ≡ true
    or_right_of true t held = refl
    or_right_of false t held = held

-- what stands beneath a provision has not its wId
pub not_at : (p : Provision) (below bs : Branches Provision) → AreDistinct p below bs → (w : List ℕ) → any_holds w below ≡ true → bytes_eq p.wid w ≡ false
not_at p below bs d w held =
    other_text p.wid w (λ same. absurd (let never : true ≡ false = sym held ∙ ap (λ v. any_holds v below) (sym same) ∙ d.not_beneath in cc))

-- what stands behind a provision stands neither at nor beneath it
pub not_before : (p : Provision) (below bs : Branches Provision) → AreDistinct p below bs → (w : List ℕ) → any_holds w bs ≡ true → holds w (branch p below) ≡ false
not_before p below bs d w held =
    neither (bytes_eq p.wid w) (any_holds w below)
    (other_text p.wid w (λ same. absurd (let never : true ≡ false = sym held ∙ ap (λ v. any_holds v bs) (sym same) ∙ d.not_behind in cc)))
    (elim (cases_Bool (any_holds w below)) [
      | inl under ↦ absurd (let never : true ≡ false = sym held ∙ d.apart w under in cc)
      | inr none ↦ none
    ])

-- the branch that is found first
pub first_found : (w : List ℕ) (p : Provision) (below bs : Branches Provision) → bytes_eq p.wid w ≡ true → found w (more_branches (branch p below) bs) ≡ Some (branch p below)
first_found w p below bs it = ap (λ t. or_else (cond t (Some (branch p below)) (found w below)) (found w bs)) it

pub found_past : (w : List ℕ) (p : Provision) (below bs : Branches Provision) → bytes_eq p.wid w ≡ false → found w (more_branches (branch p below) bs) ≡ or_else (found w below) (found w bs)
found_past w p below bs other = ap (λ t. or_else (cond t (Some (branch p below)) (found w below)) (found w bs)) other

-- of two of which the first is there, or is not
pub data FirstOf (w : List ℕ) (it : Branch Provision) (below bs : Branches Provision) : Type 0 where
  beneath_it : found w below ≡ Some it → any_holds w below ≡ true → FirstOf w it below bs
  behind_it : any_holds w below ≡ false → found w bs ≡ Some it → FirstOf w it below bs

pub first_of : (w : List ℕ) (it : Branch Provision) (below bs : Branches Provision) → or_else (found w below) (found w bs) ≡ Some it → FirstOf w it below bs
first_of w it below bs is = by (found w below) refl
  where
    by : (o : Option (Branch Provision)) → found w below ≡ o → FirstOf w it below bs
    by None none = behind_it (sym (held_found w below) ∙ ap is_some none) (sym (ap (λ o. or_else o (found w bs)) none) ∙ is)
    by (Some b) some =
        beneath_it (some ∙ (sym (ap (λ o. or_else o (found w bs)) some) ∙ is)) (sym (held_found w below) ∙ ap is_some some)
