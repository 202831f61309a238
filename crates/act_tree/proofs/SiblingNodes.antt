-- Siblings: what the text has right behind a provision is the branch of the number right behind its number.
use Rattle.std.proofs.Common.{◌≡◌, ◌∙◌, sym, ap, refl, subst, ℕ, suc, ◌<◌, ◌≤◌, ◌==◌, true, false, cond, ◌||◌, List, [], ◌∷◌, Option, Some, None, option_map, ◌⊎◌, inl, inr, arith}
use Rattle.std.specs.List.{list_any}
use Rattle.std.specs.Str.{bytes_eq}
use Rattle.std.proofs.lemmas.Bool.{cases_Bool, cases_eq, eq-eqb, ne_eqb}
use Rattle.act_tree.specs.Branches.{Branch, Branches, branch, no_branches, more_branches, height, heights}
use Rattle.act_tree.specs.Provisions.{Provision}
use Rattle.act_tree.specs.Changes.{holds, any_holds, head_of, next_of, next_inside, or_else}
use Rattle.act_tree.specs.Arena.{Laid, above_in, below_in, name_in, branches_below, branch_from, climbs, number_twice, Stands, StandAll, IsWhole}
use Rattle.act_tree.specs.Siblings.{first_number, number_behind}
use Rattle.act_tree.proofs.Texts.{equal_text, other_text}
use Rattle.act_tree.proofs.Frames.{or_left, or_right, none_left, none_right}
use Rattle.act_tree.proofs.Standing.{branch_is, stands_below, one_branch, Among, among}
use Rattle.act_tree.proofs.Climbing.{Seated}
use Rattle.act_tree.proofs.TreeNodes.{node_seated, one_climbs}

mutual
  none_inside : (w : List ℕ) (b : Branch Provision) → holds w b ≡ false → next_inside w b ≡ None
  none_inside w (branch p below) none = none_next w below (none_right (bytes_eq p.wid w) _ none)

  -- where no provision has a wId, none stands right behind it
  pub none_next : (w : List ℕ) (bs : Branches Provision) → any_holds w bs ≡ false → next_of w bs ≡ None
  none_next w no_branches none = refl
  none_next w (more_branches (branch p below) bs) none =
      let one : holds w (branch p below) ≡ false = none_left (holds w (branch p below)) _ none in
      ap (λ t. cond t (head_of bs) (or_else (next_of w below) (next_of w bs))) (none_left (bytes_eq p.wid w) _ one)
      ∙ ap (λ o. or_else o (next_of w bs)) (none_inside w (branch p below) one)
      ∙ none_next w bs (none_right (holds w (branch p below)) _ none)

or_else_same : (o x : Option (Branch Provision)) → (x ≡ o) ⊎ (x ≡ None) → or_else o x ≡ o
or_else_same (Some b) x either = refl
or_else_same None x either = elim either [ inl same ↦ same | inr none ↦ none ]

module _ (at : ℕ → Option Laid) (number : List ℕ → Option ℕ) (w : List ℕ) (i levels : ℕ) (leads : number w ≡ Some i) (named : name_in (at i) ≡ Some w) where
  -- the branch right behind the number
  abbrev sibling : Option (Branch Provision)
  sibling = option_map (branch_from levels at) (number_behind i (below_in (at (above_in (at i)))))

  head_is : (bs : Branches Provision) (u : ℕ) (ks : List ℕ) → StandAll at number u ks bs → heights bs ≤ suc levels → head_of bs ≡ option_map (branch_from levels at) (first_number ks)
  head_is no_branches u [] s low = refl
  head_is no_branches u (k ∷ ks) s low = absurd s
  head_is (more_branches b bs) u [] s low = absurd s
  head_is (more_branches b bs) u (k ∷ ks) s low = ap (λ c. Some c) (sym (branch_is at number b levels u k s.0 (omega arith)))

  of_number : (p : Provision) (below : Branches Provision) (u k : ℕ) → Stands at number u k (branch p below) → k ≡ i → bytes_eq p.wid w ≡ true
  of_number p below u k s it =
      let one : Some p.wid ≡ Some w = sym (ap name_in s.0) ∙ ap (λ j. name_in (at j)) it ∙ named in
      let same : p.wid ≡ w = cc in
      equal_text p.wid w same

  of_other : (p : Provision) (below : Branches Provision) (u k : ℕ) → Stands at number u k (branch p below) → (k ≡ i → ⊥) → bytes_eq p.wid w ≡ false
  of_other p below u k s other =
      other_text p.wid w (λ same.
      let one : Some k ≡ Some i = sym s.1.0 ∙ ap number same ∙ leads in
      let it : k ≡ i = cc in
      other it)

  pub next_is : (bs : Branches Provision) (u : ℕ) (ks : List ℕ) → StandAll at number u ks bs → heights bs ≤ suc levels → any_holds w bs ≡ true → (u ≡ above_in (at i) → number_behind i (below_in (at (above_in (at i)))) ≡ number_behind i ks) → next_of w bs ≡ sibling
  next_is no_branches u ks s low held here = absurd cc
  next_is (more_branches b bs) u [] s low held here = absurd s
  next_is (more_branches (branch p below) bs) u (k ∷ ks) s low held here =
      elim (cases_eq k i) [
        | inl it ↦
            let up : u ≡ above_in (at i) = sym (stands_below at number (branch p below) u k s.0) ∙ ap (λ j. above_in (at j)) it in
            ap (λ t. cond t (head_of bs) (or_else (next_of w below) (next_of w bs))) (of_number p below u k s.0 it)
            ∙ head_is bs u ks s.1 (omega arith)
            ∙ sym (ap (option_map (branch_from levels at)) (here up ∙ ap (λ t. cond t (first_number ks) (number_behind i ks)) (eq-eqb k i it)))
        | inr other ↦
            let apart : bytes_eq p.wid w ≡ false = of_other p below u k s.0 other in
            let later : u ≡ above_in (at i) → number_behind i (below_in (at (above_in (at i)))) ≡ number_behind i ks =
            λ up. here up ∙ ap (λ t. cond t (first_number ks) (number_behind i ks)) (ne_eqb k i other) in
            ap (λ t. cond t (head_of bs) (or_else (next_of w below) (next_of w bs))) apart
            ∙ elim (cases_Bool (any_holds w below)) [
              | inl beneath ↦
                  let inner : next_of w below ≡ sibling = next_is below k (below_in (at k)) s.0.1.1 (omega arith) beneath (λ over. sym (ap (λ j. number_behind i (below_in (at j))) over)) in
                  ap (λ o. or_else o (next_of w bs)) inner
                  ∙ or_else_same sibling (next_of w bs) (elim (cases_Bool (any_holds w bs)) [
                    | inl more ↦ inl (next_is bs u ks s.1 (omega arith) more later)
                    | inr none ↦ inr (none_next w bs none)
                  ])
              | inr not_beneath ↦
                  let more : any_holds w bs ≡ true = sym (ap (λ t. (t || any_holds w below) || any_holds w bs) apart ∙ ap (λ t. t || any_holds w bs) not_beneath) ∙ held in
                  ap (λ o. or_else o (next_of w bs)) (none_next w below not_beneath) ∙ next_is bs u ks s.1 (omega arith) more later
            ]
      ]

-- the number right behind another is in the list
pub behind_listed : (i x : ℕ) (ks : List ℕ) → number_behind i ks ≡ Some x → list_any (λ j. j == x) ks ≡ true
behind_listed i x [] is = absurd cc
behind_listed i x (k ∷ ks) is =
    elim (cases_eq k i) [
      | inl it ↦ or_right (k == x) _ (first_listed ks (sym (ap (λ t. cond t (first_number ks) (number_behind i ks)) (eq-eqb k i it)) ∙ is))
      | inr other ↦ or_right (k == x) _ (behind_listed i x ks (sym (ap (λ t. cond t (first_number ks) (number_behind i ks)) (ne_eqb k i other)) ∙ is))
    ]
  where
    first_listed : (js : List ℕ) → first_number js ≡ Some x → list_any (λ j. j == x) js ≡ true
    first_listed [] none = absurd cc
    first_listed (j ∷ js) first = or_left _ _ (eq-eqb j x cc)

module _ (at : ℕ → Option Laid) (number : List ℕ → Option ℕ) (size : ℕ) (whole : IsWhole at number size) where
  -- what is listed below a node is a node, but not the root
  pub record IsChild (u i : ℕ) : Type 0 where
    pub climbed : climbs size at i ≡ true
    pub other : i ≡ 0 → ⊥
    pub above : above_in (at i) ≡ u

  child_of : (b : Branch Provision) (v u i : ℕ) → Stands at number v u b → ((w : List ℕ) → holds w b ≡ true → holds w (branch_from size at 0) ≡ true) → height b ≤ height (branch_from size at 0)
      → list_any (λ j. j == i) (below_in (at u)) ≡ true → IsChild u i
  child_of (branch p below) v u i s inside low found =
      let child : Among at number u i below = among at number below u i (below_in (at u)) s.1.1 found in
      record {
        climbed = one_climbs at number size whole child.it u i child.stands (λ w held. inside w (or_right (bytes_eq p.wid w) _ (child.inside w held)));
        other = λ root.
            let P : ℕ → Type 0 = λ j. Stands at number u j child.it in
            let one : child.it ≡ branch_from size at 0 = one_branch at number child.it (branch_from size at 0) u 0 0 (subst P root child.stands) whole.stands in
            let same : height child.it ≡ height (branch_from size at 0) = ap height one in
            let under : height child.it ≤ heights below = child.low in
            omega arith;
        above = stands_below at number child.it u i child.stands;
      }

  pub listed_child : (u i : ℕ) → climbs size at u ≡ true → list_any (λ j. j == i) (below_in (at u)) ≡ true → IsChild u i
  listed_child u i climbed found =
      let seat : Seated at number (branch_from size at 0) u = node_seated at number size whole u climbed in
      child_of seat.it (above_in (at u)) u i seat.stands seat.inside seat.low found

  -- what the text has right behind a node is the branch of the number right behind its number
  pub next_branch : (w : List ℕ) (i : ℕ) → number w ≡ Some i → name_in (at i) ≡ Some w → any_holds w (branches_below size at (below_in (at 0))) ≡ true
      → option_map (branch_from size at) (number_behind i (below_in (at (above_in (at i))))) ≡ next_of w (branches_below size at (below_in (at 0)))
  next_branch w i leads named held =
      let low : heights (branches_below size at (below_in (at 0))) < size = whole.low in
      sym (next_is at number w i size leads named (branches_below size at (below_in (at 0))) 0 (below_in (at 0)) whole.stands.1.1 (omega arith) held (λ up. sym (ap (λ j. number_behind i (below_in (at j))) up)))

  pub next_child : (i x : ℕ) → climbs size at (above_in (at i)) ≡ true → number_behind i (below_in (at (above_in (at i)))) ≡ Some x → IsChild (above_in (at i)) x
  next_child i x climbed is = listed_child (above_in (at i)) x climbed (behind_listed i x (below_in (at (above_in (at i)))) is)

-- in a list that names no number twice, the number right behind another is another
pub behind_other : (i x : ℕ) (ks : List ℕ) → number_twice ks ≡ false → number_behind i ks ≡ Some x → i ≡ x → ⊥
behind_other i x [] once behind same = cc
behind_other i x (k ∷ ks) once behind same =
    elim (cases_eq k i) [
      | inl it ↦
          let first : first_number ks ≡ Some x = sym (ap (λ t. cond t (first_number ks) (number_behind i ks)) (eq-eqb k i it)) ∙ behind in
          first_other ks (none_left _ _ once) first (it ∙ same)
      | inr other ↦ behind_other i x ks (none_right _ _ once) (sym (ap (λ t. cond t (first_number ks) (number_behind i ks)) (ne_eqb k i other)) ∙ behind) same
    ]
  where
    first_other : (js : List ℕ) → list_any (λ j. j == k) js ≡ false → first_number js ≡ Some x → k ≡ x → ⊥
    first_other [] none first it = cc
    first_other (j ∷ js) none first it =
        let one : j ≡ x = cc in
        let here : (j == k) ≡ true = eq-eqb j k (one ∙ sym it) in
        let there : (j == k) ≡ false = none_left (j == k) _ none in
        cc
