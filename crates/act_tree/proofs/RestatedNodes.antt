-- A node says something else of itself, and stands where it stood: it is relisted with the same list.
use Rattle.std.proofs.Common.{◌≡◌, ◌∙◌, sym, ap, refl, subst, ℕ, zero, suc, ◌≤◌, ◌==◌, Bool, true, ◌||◌, ◌&&◌, List, [], Option, Some, None, inl, inr, arith}
use Rattle.std.proofs.lemmas.Bool.{cases_eq}
use Rattle.eid_paths.specs.Nums.{is_num}
use Rattle.act_tree.specs.declared.arena.Arena.{Arena}
use Rattle.act_tree.specs.Branches.{Branch, Branches, branch, more_branches}
use Rattle.act_tree.specs.Provisions.{Own, Provision}
use Rattle.act_tree.specs.Changes.{Step, changed, with_content}
use Rattle.act_tree.specs.Arena.{Laid, provision_in, above_in, below_in, branches_below, branch_from, hangs_on, climbs, Stands, IsWhole}
use Rattle.act_tree.specs.Restated.{with_own, IsRestated}
use Rattle.act_tree.specs.Slots.{at, number, size}
use Rattle.act_tree.proofs.Building.{Holds, held}
use Rattle.act_tree.proofs.LaidDown.{laid_past}
use Rattle.act_tree.proofs.PutIn.{not_beneath}
use Rattle.act_tree.proofs.Relistings.{Move, each_apart, text_moved}
use Rattle.act_tree.proofs.Sound.{Text, text_of}
use Rattle.act_tree.proofs.TakingAway.{renewed_as}
use Rattle.act_tree.proofs.Times.{once_few}
use Rattle.act_tree.proofs.TreeNodes.{node_stands}

-- the step makes the provision say this of itself, and does nothing else
abbrev pub Restates : Step → Provision → Own → Type 0
Restates step p own = (below rest : Branches Provision) → step (branch p below) rest ≡ more_branches (branch (record p { own = own }) below) rest

own_given : (own : Own) (o : Option Laid) (x : Laid) → o ≡ Some x → with_own own o ≡ Some (record { provision = record (provision_in o) { own = own }; above = above_in o; below = below_in o })
own_given own o x is =
    ap (with_own own) is ∙ sym (ap (λ p. Some (record { provision = record (provision_in p) { own = own }; above = above_in p; below = below_in p })) is)

above_kept : (own : Own) (o : Option Laid) → above_in (with_own own o) ≡ above_in o
above_kept own None = refl
above_kept own (Some x) = refl

hangs_kept : (own : Own) (i : ℕ) (o : Option Laid) → hangs_on i (with_own own o) ≡ hangs_on i o
hangs_kept own i None = refl
hangs_kept own i (Some x) = refl

wid_kept : (own : Own) (o : Option Laid) → (provision_in (with_own own o)).wid ≡ (provision_in o).wid
wid_kept own None = refl
wid_kept own (Some x) = refl

module _ (at next : ℕ → Option Laid) (i : ℕ) (own : Own) (r : IsRestated at next i own) where
  still : (X : Type 0) (f : ℕ → Option Laid → X) → ((o : Option Laid) → f i (with_own own o) ≡ f i o) → (k : ℕ) → f k (next k) ≡ f k (at k)
  still X f same k =
      elim (cases_eq k i) [
        | inl it ↦ ap (λ j. f j (next j)) it ∙ ap (f i) r.here ∙ same (at i) ∙ sym (ap (λ j. f j (at j)) it)
        | inr other ↦ ap (f k) (r.others k other)
      ]

  -- who climbed still does
  climbs_still : (f k : ℕ) → climbs f next k ≡ climbs f at k
  climbs_still zero k = refl
  climbs_still (suc f) k =
      ap (λ t. (k == 0) || (t && climbs f next (above_in (next k)))) (still Bool hangs_on (hangs_kept own i) k)
      ∙ ap (λ t. (k == 0) || (hangs_on k (at k) && t)) (ap (climbs f next) (still ℕ (λ k o. above_in o) (above_kept own) k) ∙ climbs_still f (above_in (at k)))

  module _ (number : List ℕ → Option ℕ) (size : ℕ) (whole : IsWhole at number size) (empty : (k : ℕ) → size ≤ k → at k ≡ None) (climbed : climbs size at i ≡ true) (other : i ≡ 0 → ⊥)
      (step : Step) (restates : Restates step (provision_in (at i)) own) (num : is_num own.num ≡ true) where
    stands_here : Stands at number (above_in (at i)) i (branch_from size at i)
    stands_here = node_stands at number size whole i climbed

    move : Move at next number i own [] [] (below_in (at i)) (provision_in (at i)) (branches_below size at (below_in (at i))) (branches_below size at (below_in (at i)))
    move = record {
      relisted = record { here = r.here ∙ own_given own (at i) _ stands_here.0; left = λ k found. absurd cc; came = λ k found. absurd cc; others = λ k far _ _. r.others k far };
      swaps = record {
        there = (_, stands_here.0);
        balance = λ k. omega arith;
        fewer = λ k. omega arith;
        fresh = λ k. omega (arith, once_few (below_in (at i)) k (whole.once i));
        not_gone = refl;
        not_come = refl;
      };
      stands = stands_here;
      off = λ k never. absurd cc;
      each = each_apart at number (provision_in (at i)).wid i (below_in (at i)) (branches_below size at (below_in (at i))) stands_here.1.1
          (not_beneath at number (provision_in (at i)) (branches_below size at (below_in (at i))) (above_in (at i)) i stands_here);
    }

    pub text_after : Text next number size (branch (provision_in (at 0)) (changed step (provision_in (at i)).wid (branches_below size at (below_in (at 0)))))
    text_after =
        let P : Branch Provision → Type 0 = λ b. Text next number size b in
        subst P (renewed_as at number size whole i climbed other own (branches_below size at (below_in (at i))) step (restates (branches_below size at (below_in (at i)))))
        (text_moved move num refl (text_of at number size whole empty))

-- the text has the step, and the nodes are those that there were
pub record Restated (old new : Arena) (body : Branches Provision) : Type 0 where
  pub holds : Holds new body
  pub nodes : (k : ℕ) → climbs (size new) (at new) k ≡ climbs (size old) (at old) k
  pub wids : (k : ℕ) → (provision_in (at new k)).wid ≡ (provision_in (at old k)).wid

pub restated : (old new : Arena) (i : ℕ) (own : Own) (step : Step) → IsWhole (at old) (number old) (size old) → climbs (size old) (at old) i ≡ true → (i ≡ 0 → ⊥)
    → new.numbers ≡ old.numbers → size new ≡ size old → IsRestated (at old) (at new) i own → Restates step (provision_in (at old i)) own → is_num own.num ≡ true
    → Restated old new (changed step (provision_in (at old i)).wid (branches_below (size old) (at old) (below_in (at old 0))))
restated old new i own step whole climbed other numbers sizes r restates num = record {
  holds = held old new (provision_in (at old 0)) _ numbers sizes whole.root (text_after (at old) (at new) i own r (number old) (size old) whole (laid_past old.slots.items) climbed other step restates num);
  nodes = λ k. ap (λ n. climbs n (at new) k) sizes ∙ climbs_still (at old) (at new) i own r (size old) k;
  wids = still (at old) (at new) i own r (List ℕ) (λ k o. (provision_in o).wid) (wid_kept own);
}

-- the node has another content
pub content_given : (old new : Arena) (i : ℕ) (content : List ℕ) → IsWhole (at old) (number old) (size old) → climbs (size old) (at old) i ≡ true → (i ≡ 0 → ⊥)
    → new.numbers ≡ old.numbers → size new ≡ size old → IsRestated (at old) (at new) i (record (provision_in (at old i)).own { content = content })
    → Restated old new (changed (with_content content) (provision_in (at old i)).wid (branches_below (size old) (at old) (below_in (at old 0))))
content_given old new i content whole climbed other numbers sizes r =
    restated old new i (record (provision_in (at old i)).own { content = content }) (with_content content) whole climbed other numbers sizes r (λ below rest. refl) (whole.nums i)
