-- Equal nodes: those that say the same of themselves, with equal nodes beneath them.
use Rattle.std.specs.Prelude.{ℕ, ◌≡◌, ◌==◌, Bool, true, false, ◌&&◌, List, refl}
use Rattle.std.specs.Bool.{Decides}
use Rattle.std.specs.Cmp.{unsigned_Decides, first_so, second_so}
use Rattle.std.specs.Cmp.Lexicographic.{pointwise, pointwise_decides, bytes_decides}
use Rattle.std.specs.Str.{bytes_eq}
use Rattle.std.proofs.Common.{ap, sym, subst, ◌∙◌}
use Rattle.std.proofs.lemmas.Bool.Decides.{Decides-and, Decides-like}
use Rattle.std.proofs.lemmas.Slice.Eq.{bytes_eq-Decides}
use Rattle.eid_paths.specs.declared.element.Element.{Element}
use Rattle.eid_paths.specs.Elements.{element_place}
use Rattle.eid_paths.specs.ElementCode.{element_at, element_at-element_place}
use Rattle.act_tree.specs.Branches.{Branch, Branches, branch, no_branches, more_branches, listed, branches_of, listed-branches_of}
use Rattle.act_tree.specs.Provisions.{Own}

-- nested things are the same by a test on their labels: the labels pass it, and what is nested is the same
abbrev mutual
  pub same_branch : {L : Type 0} → (L → L → Bool) → Branch L → Branch L → Bool
  same_branch same (branch a below) (branch b other) = same a b && same_branches same below other

  pub same_branches : {L : Type 0} → (L → L → Bool) → Branches L → Branches L → Bool
  same_branches same no_branches no_branches = true
  same_branches same no_branches (more_branches b bs) = false
  same_branches same (more_branches a rest) no_branches = false
  same_branches same (more_branches a rest) (more_branches b bs) = same_branch same a b && same_branches same rest bs

-- nodes say the same of themselves
abbrev pub same_own : Own → Own → Bool
same_own a b =
    (element_place a.element == element_place b.element) && (bytes_eq a.num b.num && (bytes_eq a.heading b.heading
    && (bytes_eq a.content b.content && pointwise bytes_eq a.refs b.refs)))

-- nodes side by side are the same
abbrev pub same_nodes : List (Branch Own) → List (Branch Own) → Bool
same_nodes a b = same_branches same_own (branches_of a) (branches_of b)

-- where the test on labels decides whether they are equal, so does that on what is nested
module _ {L : Type 0} {same : L → L → Bool} (decides : (a b : L) → Decides (same a b) (a ≡ b)) where
  mutual
    told : (a b : Branch L) → same_branch same a b ≡ true → a ≡ b
    told (branch a below) (branch b other) h =
        λ i. branch ((decides a b).0 (first_so (same a b) (same_branches same below other) h) i)
        (all_told below other (second_so (same a b) (same_branches same below other) h) i)

    all_told : (a b : Branches L) → same_branches same a b ≡ true → a ≡ b
    all_told no_branches no_branches h = refl
    all_told no_branches (more_branches b bs) h = cc
    all_told (more_branches a rest) no_branches h = cc
    all_told (more_branches a rest) (more_branches b bs) h =
        λ i. more_branches (told a b (first_so (same_branch same a b) (same_branches same rest bs) h) i)
        (all_told rest bs (second_so (same_branch same a b) (same_branches same rest bs) h) i)

  mutual
    itself : (a : Branch L) → same_branch same a a ≡ true
    itself (branch a below) = λ i. (decides a a).1 refl i && all_themselves below i

    all_themselves : (a : Branches L) → same_branches same a a ≡ true
    all_themselves no_branches = refl
    all_themselves (more_branches a rest) = λ i. itself a i && all_themselves rest i

  pub branches_decide : (a b : Branches L) → Decides (same_branches same a b) (a ≡ b)
  branches_decide a b = (all_told a b, λ e. subst (λ k. same_branches same a k ≡ true) e (all_themselves a))

elements_decide : (a b : Element) → Decides (element_place a == element_place b) (a ≡ b)
elements_decide a b =
    Decides-like (element_place a == element_place b)
    (λ e. sym (element_at-element_place a) ∙ ap element_at e ∙ element_at-element_place b)
    (λ e. ap element_place e)
    (unsigned_Decides (element_place a) (element_place b))

pub refs_decide : (a b : List (List ℕ)) → Decides (pointwise (pointwise ◌==◌) a b) (a ≡ b)
refs_decide = pointwise_decides bytes_decides

own_decides : (a b : Own) → Decides (same_own a b) (a ≡ b)
own_decides a b =
    Decides-like (same_own a b)
    (λ h i. record { element = h.0 i; num = h.1.0 i; heading = h.1.1.0 i; content = h.1.1.1.0 i; refs = h.1.1.1.1 i })
    (λ e. (
      ap (λ (o : Own). o.element) e,
      (
        ap (λ (o : Own). o.num) e,
        (
          ap (λ (o : Own). o.heading) e,
          (ap (λ (o : Own). o.content) e, ap (λ (o : Own). o.refs) e),
        ),
      ),
    ))
    (Decides-and _ _ (elements_decide a.element b.element)
    (Decides-and _ _ (bytes_eq-Decides a.num b.num)
    (Decides-and _ _ (bytes_eq-Decides a.heading b.heading)
    (Decides-and _ _ (bytes_eq-Decides a.content b.content) (pointwise_decides bytes_eq-Decides a.refs b.refs)))))

pub nodes_decide : (a b : List (Branch Own)) → Decides (same_nodes a b) (a ≡ b)
nodes_decide a b =
    Decides-like (same_nodes a b)
    (λ e. sym (listed-branches_of a) ∙ ap listed e ∙ listed-branches_of b)
    (λ e. ap branches_of e)
    (branches_decide own_decides (branches_of a) (branches_of b))
