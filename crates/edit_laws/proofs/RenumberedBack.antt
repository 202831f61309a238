-- A renumbering is undone by one that gives each provision the num that it had.
use Rattle.std.proofs.Common.{◌≡◌, ◌∙◌, sym, ap, refl, ℕ, Bool, true, false, cond, ◌||◌, ◌&&◌, List, [], ◌∷◌, Option, Some, None, ◌⊎◌, inl, inr}
use Rattle.std.specs.Prelude.{is_some, Ok, Err}
use Rattle.std.specs.List.{list_all}
use Rattle.std.specs.Str.{bytes_eq}
use Rattle.std.proofs.lemmas.Bool.{cases_Bool}
use Rattle.act_tree.specs.Branches.{Branch, Branches, branch, no_branches, more_branches}
use Rattle.act_tree.specs.Changes.{holds, any_holds, renumbered, num_given, root_wid, found, or_else}
use Rattle.act_tree.specs.Provisions.{Provision}
use Rattle.act_tree.specs.Wids.{all_wids, one_twice}
use Rattle.act_tree.specs.declared.cause.Cause.TheVariants.{TargetMissing}
use Rattle.act_tree.proofs.Frames.{or_left, or_right}
use Rattle.act_tree.proofs.Texts.{same_text, equal_text}
use Rattle.edit_laws.specs.Laws.{num_of, nums_before}
use Rattle.textual_mods.specs.Renumberings.{nums_given}
use Rattle.textual_mods.specs.Targets.{provision_named}
use Rattle.textual_mods.proofs.OnePlace.{held_found, first_found, found_past, AreDistinct, are_distinct, not_at, not_before}
use Rattle.edit_laws.proofs.Readers.{found_reads, read_behind}

-- a provision is one of these, at some depth
abbrev pub IsOneOf : Provision → Branches Provision → Type 0
IsOneOf q no_branches = ⊥
IsOneOf q (more_branches (branch p below) bs) = (q ≡ p) ⊎ (IsOneOf q below ⊎ IsOneOf q bs)

one_held : (q : Provision) (bs : Branches Provision) → IsOneOf q bs → any_holds q.wid bs ≡ true
one_held q no_branches one = absurd one
one_held q (more_branches (branch p below) bs) one =
    elim one [
      | inl same ↦ or_left _ _ (or_left _ _ (equal_text p.wid q.wid (ap (λ (x : Provision). x.wid) (sym same))))
      | inr deeper ↦ elim deeper [
        | inl under ↦ or_left _ _ (or_right (bytes_eq p.wid q.wid) _ (one_held q below under))
        | inr after ↦ or_right (holds q.wid (branch p below)) _ (one_held q bs after)
      ]
    ]

-- the num that is found at the wId of a provision is its num
num_found : (q : Provision) (bs : Branches Provision) → one_twice (all_wids bs) ≡ false → IsOneOf q bs → num_of (found q.wid bs) ≡ q.own.num
num_found q no_branches once one = absurd one
num_found q (more_branches (branch p below) bs) once one =
    let d : AreDistinct p below bs = are_distinct p below bs once in
    elim one [
      | inl same ↦
          ap num_of (first_found q.wid p below bs (equal_text p.wid q.wid (ap (λ (x : Provision). x.wid) (sym same)))) ∙ ap (λ (x : Provision). x.own.num) (sym same)
      | inr deeper ↦ elim deeper [
        | inl under ↦
            let held : any_holds q.wid below ≡ true = one_held q below under in
            let other : bytes_eq p.wid q.wid ≡ false = not_at p below bs d q.wid held in
            ap num_of (found_past q.wid p below bs other ∙ first_some (found q.wid below) (found q.wid bs) (held_found q.wid below ∙ held))
            ∙ num_found q below d.beneath_once under
        | inr after ↦
            let held : any_holds q.wid bs ≡ true = one_held q bs after in
            let none : holds q.wid (branch p below) ≡ false = not_before p below bs d q.wid held in
            ap num_of (read_behind (found q.wid) q.wid (found_reads q.wid) (branch p below) bs none) ∙ num_found q bs d.behind_once after
      ]
    ]
  where
    first_some : (o other : Option (Branch Provision)) → is_some o ≡ true → or_else o other ≡ o
    first_some None other none = absurd cc
    first_some (Some b) other some = refl

-- a num that was given and is given back
given_back : (body : Branches Provision) (w num : List ℕ) → num_of (found w body) ≡ num → (pairs : List (List ℕ × List ℕ))
    → num_given (nums_before pairs body) w (num_given pairs w num) ≡ num
given_back body w num is pairs = by pairs
  where
    by : (ps : List (List ℕ × List ℕ)) → num_given (nums_before ps body) w (num_given ps w num) ≡ num
    by [] = refl
    by (pair ∷ ps) =
        elim (cases_Bool (bytes_eq w pair.0)) [
          | inl it ↦
              ap (λ t. cond t (num_of (found pair.0 body)) (num_given (nums_before ps body) w (num_given (pair ∷ ps) w num))) it
              ∙ ap (λ v. num_of (found v body)) (sym (same_text w pair.0 it)) ∙ is
          | inr apart ↦
              ap (λ t. cond t (num_of (found pair.0 body)) (num_given (nums_before ps body) w (num_given (pair ∷ ps) w num))) apart
              ∙ ap (λ t. num_given (nums_before ps body) w (cond t pair.1 (num_given ps w num))) apart
              ∙ by ps
        ]

module _ (body : Branches Provision) (pairs : List (List ℕ × List ℕ)) where
  back_beneath : (bs : Branches Provision) → ((q : Provision) → IsOneOf q bs → num_of (found q.wid body) ≡ q.own.num) → renumbered (nums_before pairs body) (renumbered pairs bs) ≡ bs
  back_beneath no_branches had = refl
  back_beneath (more_branches (branch p below) bs) had =
      ap (λ num. more_branches (branch (record p { own = record p.own { num = num } }) (renumbered (nums_before pairs body) (renumbered pairs below))) (renumbered (nums_before pairs body) (renumbered pairs bs)))
      (given_back body p.wid p.own.num (had p (inl refl)) pairs)
      ∙ ap (λ cs. more_branches (branch p cs) (renumbered (nums_before pairs body) (renumbered pairs bs))) (back_beneath below (λ q one. had q (inr (inl one))))
      ∙ ap (more_branches (branch p below)) (back_beneath bs (λ q one. had q (inr (inr one))))

-- nums that are given, and then those that were before, leave the text
pub renumbered_back : (pairs : List (List ℕ × List ℕ)) (body : Branches Provision) → one_twice (all_wids body) ≡ false → renumbered (nums_before pairs body) (renumbered pairs body) ≡ body
renumbered_back pairs body once = back_beneath body pairs body (λ q one. num_found q body once one)

-- a renumbering keeps the wIds
pub held_renumbered : (pairs : List (List ℕ × List ℕ)) (w : List ℕ) (bs : Branches Provision) → any_holds w (renumbered pairs bs) ≡ any_holds w bs
held_renumbered pairs w no_branches = refl
held_renumbered pairs w (more_branches (branch p below) bs) =
    ap (λ t. (bytes_eq p.wid w || t) || any_holds w (renumbered pairs bs)) (held_renumbered pairs w below)
    ∙ ap (λ t. holds w (branch p below) || t) (held_renumbered pairs w bs)

-- a wId names a provision exactly if it stands there and is not the root's
pub is_named_there : (w : List ℕ) (bs : Branches Provision) → is_some (provision_named w bs) ≡ cond (bytes_eq w root_wid) false (any_holds w bs)
is_named_there w bs = elim (bytes_eq w root_wid) as (λ t. is_some (cond t None (found w bs)) ≡ cond t false (any_holds w bs)) [ true ↦ refl | false ↦ held_found w bs ]

pub still_named : (pairs : List (List ℕ × List ℕ)) (body : Branches Provision) (w : List ℕ) → is_some (provision_named w (renumbered pairs body)) ≡ is_some (provision_named w body)
still_named pairs body w =
    is_named_there w (renumbered pairs body) ∙ ap (cond (bytes_eq w root_wid) false) (held_renumbered pairs w body) ∙ sym (is_named_there w body)

all_still : (more pairs : List (List ℕ × List ℕ)) (body : Branches Provision)
    → list_all (λ pair. is_some (provision_named pair.0 (renumbered pairs body))) (nums_before more body) ≡ list_all (λ pair. is_some (provision_named pair.0 body)) more
all_still [] pairs body = refl
all_still (pair ∷ more) pairs body =
    ap (λ t. t && list_all (λ pair. is_some (provision_named pair.0 (renumbered pairs body))) (nums_before more body)) (still_named pairs body pair.0)
    ∙ ap (λ t. is_some (provision_named pair.0 body) && t) (all_still more pairs body)

-- a renumbering that is made is undone by that of the nums before it
pub nums_given_back : (pairs : List (List ℕ × List ℕ)) (body after : Branches Provision) → one_twice (all_wids body) ≡ false → nums_given pairs body ≡ Ok after
    → nums_given (nums_before pairs body) after ≡ Ok body
nums_given_back pairs body after once made = by (list_all (λ pair. is_some (provision_named pair.0 body)) pairs) refl made
  where
    by : (t : Bool) → list_all (λ pair. is_some (provision_named pair.0 body)) pairs ≡ t → cond t (Ok (renumbered pairs body)) (Err TargetMissing) ≡ Ok after → nums_given (nums_before pairs body) after ≡ Ok body
    by false told one = absurd cc
    by true told one =
        let same : renumbered pairs body ≡ after = cc in
        ap (nums_given (nums_before pairs body)) (sym same)
        ∙ ap (λ t. cond t (Ok (renumbered (nums_before pairs body) (renumbered pairs body))) (Err TargetMissing)) (all_still pairs pairs body ∙ told)
        ∙ ap Ok (renumbered_back pairs body once)
