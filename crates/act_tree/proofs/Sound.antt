-- A sound arena is whole wherever a text stands in it from the root down.
use Rattle.std.proofs.Common.{◌≡◌, ◌∙◌, sym, ap, refl, subst, ℕ, ◌+◌, ◌≤◌, max, true, false, List, [], ◌∷◌, length, Option, Some, None, inl, inr, arith}
use Rattle.std.specs.List.{list_any, AllByRecursion, IsDistinct}
use Rattle.std.proofs.Math.Dec.{eqb}
use Rattle.std.proofs.lemmas.Bool.{cases_lt, or_cases, eq-eqb, eqb-true, ne_eqb}
use Rattle.std.proofs.lemmas.Map.Steps.{length-le_from_distinct_below}
use Rattle.eid_paths.specs.Nums.{is_num}
use Rattle.act_tree.specs.Branches.{Branch, Branches, branch, no_branches, more_branches, height, heights}
use Rattle.act_tree.specs.Provisions.{Provision}
use Rattle.act_tree.specs.Numbered.{are_numbered}
use Rattle.act_tree.specs.Arena.{Laid, provision_in, below_in, branches_below, branch_from, root_provision, Stands, StandAll, IsWhole}
use Rattle.act_tree.specs.Planted.{IsSound}
use Rattle.act_tree.proofs.Frames.{or_left, or_right}
use Rattle.act_tree.proofs.Nums.{both}
use Rattle.act_tree.proofs.Standing.{branches_are, one_branch}

-- an arena is sound, and a text stands in it from the root down
pub record Text (at : ℕ → Option Laid) (number : List ℕ → Option ℕ) (size : ℕ) (b : Branch Provision) : Type 0 where
  pub sound : IsSound at number size
  pub stands : Stands at number 0 0 b

pub text_of : (at : ℕ → Option Laid) (number : List ℕ → Option ℕ) (size : ℕ) → IsWhole at number size → ((k : ℕ) → size ≤ k → at k ≡ None) → Text at number size (branch_from size at 0)
text_of at number size whole empty =
    record { sound = record { hung = whole.hung; once = whole.once; nums = whole.nums; named = whole.named; empty = empty; fits = whole.fits }; stands = whole.stands }

-- a branch no higher than so many levels stands at a number
record StandsLow (at : ℕ → Option Laid) (number : List ℕ → Option ℕ) (k levels : ℕ) : Type 0 where
  pub above : ℕ
  pub it : Branch Provision
  pub stands : Stands at number above k it
  pub low : height it ≤ levels

-- as many numbers as levels, none twice, at each of which such a branch stands
record Way (at : ℕ → Option Laid) (number : List ℕ → Option ℕ) (levels : ℕ) : Type 0 where
  pub numbers : List ℕ
  pub long : length numbers ≡ levels
  pub differ : IsDistinct eqb numbers
  pub each : (k : ℕ) → list_any (eqb k) numbers ≡ true → StandsLow at number k levels

all_by : (P : ℕ → Type 0) (ks : List ℕ) → ((k : ℕ) → list_any (eqb k) ks ≡ true → P k) → AllByRecursion P ks
all_by P [] each = tt
all_by P (k ∷ ks) each = (each k (or_left (eqb k k) _ (eq-eqb k k refl)), all_by P ks (λ j found. each j (or_right (eqb j k) _ found)))

none_distinct : IsDistinct eqb []
unfolding IsDistinct
none_distinct = tt

more_distinct : (k : ℕ) (ks : List ℕ) → ((j : ℕ) → list_any (eqb j) ks ≡ true → eqb k j ≡ false) → IsDistinct eqb ks → IsDistinct eqb (k ∷ ks)
unfolding IsDistinct
more_distinct k ks apart rest = (all_by (λ j. eqb k j ≡ false) ks apart, rest)

pub laid_standing : (at : ℕ → Option Laid) (number : List ℕ → Option ℕ) (b : Branch Provision) (u k : ℕ) → Stands at number u k b → (x : Laid) × (at k ≡ Some x)
laid_standing at number (branch p below) u k s = (record { provision = p; above = u; below = below_in (at k) }, s.0)

module _ (at : ℕ → Option Laid) (number : List ℕ → Option ℕ) where
  lower : (k few many : ℕ) → few ≤ many → StandsLow at number k few → StandsLow at number k many
  lower k few many less s = record { above = s.above; it = s.it; stands = s.stands; low = (let low : height s.it ≤ few = s.low in omega arith) }

  mutual
    way : (b : Branch Provision) (u k : ℕ) → Stands at number u k b → Way at number (height b)
    way (branch p below) u k s =
        let rest : Way at number (heights below) = ways below k (below_in (at k)) s.1.1 in
        let P : ℕ → Type 0 = λ l. Stands at number u l (branch p below) in
        record {
          numbers = k ∷ rest.numbers;
          long = (let long : length rest.numbers ≡ heights below = rest.long in omega arith);
          differ = more_distinct k rest.numbers (λ j found. ne_eqb k j (λ same.
              let under : StandsLow at number j (heights below) = rest.each j found in
              let one : under.it ≡ branch p below = one_branch at number under.it (branch p below) under.above u j under.stands (subst P same s) in
              let equal : height under.it ≡ heights below + 1 = ap height one in
              let low : height under.it ≤ heights below = under.low in
              omega arith)) rest.differ;
          each = λ j found. elim (or_cases (eqb j k) (list_any (eqb j) rest.numbers) found) [
            | inl it ↦ record { above = u; it = branch p below; stands = subst P (sym (eqb-true j k it)) s; low = omega arith }
            | inr later ↦ lower j (heights below) (heights below + 1) (omega arith) (rest.each j later)
          ];
        }

    ways : (bs : Branches Provision) (u : ℕ) (ks : List ℕ) → StandAll at number u ks bs → Way at number (heights bs)
    ways no_branches u ks s = record { numbers = []; long = refl; differ = none_distinct; each = λ j found. absurd cc }
    ways (more_branches b bs) u [] s = absurd s
    ways (more_branches b bs) u (k ∷ ks) s =
        elim (cases_lt (height b) (heights bs)) [
          | inl less ↦ (let e : heights bs ≡ max (height b) (heights bs) = omega arith in subst (λ m. Way at number m) e (ways bs u ks s.1))
          | inr more ↦ (let e : height b ≡ max (height b) (heights bs) = omega arith in subst (λ m. Way at number m) e (way b u k s.0))
        ]

  -- what stands is not as high as there are numbers
  pub height_within : (size : ℕ) → ((k : ℕ) → size ≤ k → at k ≡ None) → (b : Branch Provision) (u k : ℕ) → Stands at number u k b → height b ≤ size
  height_within size empty b u k s =
      let w : Way at number (height b) = way b u k s in
      let few : length w.numbers ≤ size = length-le_from_distinct_below w.numbers size w.differ (λ q found.
      elim (cases_lt q size) [
        | inl low ↦ low
        | inr past ↦ absurd (
            let one : StandsLow at number q (height b) = w.each q found in
            let here : (x : Laid) × (at q ≡ Some x) = laid_standing at number one.it one.above q one.stands in
            let some : at q ≡ Some here.0 = here.1 in
            let none : at q ≡ None = empty q past in
            cc)
      ]) in
      let long : length w.numbers ≡ height b = w.long in
      omega arith

  numbered_all : ((k : ℕ) → is_num (provision_in (at k)).own.num ≡ true) → (bs : Branches Provision) (u : ℕ) (ks : List ℕ) → StandAll at number u ks bs → are_numbered bs ≡ true
  numbered_all nums no_branches u ks s = refl
  numbered_all nums (more_branches b bs) u [] s = absurd s
  numbered_all nums (more_branches (branch p below) bs) u (k ∷ ks) s =
      both _ _ (both _ _ (sym (ap (λ o. is_num (provision_in o).own.num) s.0.0) ∙ nums k) (numbered_all nums below k (below_in (at k)) s.0.1.1)) (numbered_all nums bs u ks s.1)

  -- the nums of a whole arena's text keep the rule of nums
  pub text_numbered : (size : ℕ) → IsWhole at number size → are_numbered (branches_below size at (below_in (at 0))) ≡ true
  text_numbered size whole = numbered_all whole.nums (branches_below size at (below_in (at 0))) 0 (below_in (at 0)) whole.stands.1.1

  module _ (size : ℕ) (p : Provision) (body : Branches Provision) (t : Text at number size (branch p body)) where
    pub reads_from : branches_below size at (below_in (at 0)) ≡ body
    reads_from = branches_are at number body size 0 (below_in (at 0)) t.stands.1.1 (let low : heights body + 1 ≤ size = height_within size t.sound.empty (branch p body) 0 0 t.stands in omega arith)

    pub whole_from : p ≡ root_provision → IsWhole at number size
    whole_from root =
        let own : provision_in (at 0) ≡ p = ap provision_in t.stands.0 in
        let P : Branches Provision → Type 0 = λ bs. Stands at number 0 0 (branch p bs) in
        let Q : Provision → Type 0 = λ q. Stands at number 0 0 (branch q (branches_below size at (below_in (at 0)))) in
        record {
          stands = subst Q (sym own) (subst P (sym reads_from) t.stands);
          root = own ∙ root;
          hung = t.sound.hung;
          once = t.sound.once;
          low = (let equal : heights (branches_below size at (below_in (at 0))) ≡ heights body = ap heights reads_from in
              let low : heights body + 1 ≤ size = height_within size t.sound.empty (branch p body) 0 0 t.stands in omega arith);
          nums = t.sound.nums;
          named = t.sound.named;
          fits = t.sound.fits;
        }
