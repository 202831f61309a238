-- Facts on each wId of a text, and the wIds that a modification brings.
use Rattle.std.proofs.Common.{◌≡◌, ◌∙◌, sym, ap, refl, ℕ, Bool, true, false, cond, ◌||◌, ◌⊎◌, inl, inr, List, ◌∷◌, ◌++◌, append_assoc, Some}
use Rattle.std.specs.List.{list_any}
use Rattle.std.proofs.lemmas.List.Folds.{list_any-append}
use Rattle.desk_base.specs.declared.id.Id.{Id}
use Rattle.eid_paths.specs.declared.element.Element.{Element}
use Rattle.eid_paths.specs.Levels.{level_text}
use Rattle.act_tree.specs.declared.surveying.TheConstants.{NONE_THROUGHOUT}
use Rattle.act_tree.specs.Branches.{Branch, Branches, branch, no_branches, more_branches}
use Rattle.act_tree.specs.Brought.{bringer, brought}
use Rattle.act_tree.specs.Eids.{eid_below, enacted, all_enacted}
use Rattle.act_tree.specs.Provisions.{Own, Provision}
use Rattle.act_tree.specs.Wids.{wids, all_wids}
use Rattle.act_tree.proofs.BroughtWids.{none_throughout}

-- it holds of each wId
abbrev mutual
  pub AllWids : (List ℕ → Type 0) → Branch Provision → Type 0
  AllWids P (branch p below) = P p.wid × HaveWids P below

  pub HaveWids : (List ℕ → Type 0) → Branches Provision → Type 0
  HaveWids P no_branches = Unit {0}
  HaveWids P (more_branches b bs) = AllWids P b × HaveWids P bs

-- a text stands behind a name and `__`
abbrev pub IsBehind : List ℕ → List ℕ → Type 0
IsBehind name w = (rest : List ℕ) × (w ≡ name ++ 95 ∷ 95 ∷ rest)

below_it : (above : List ℕ) (e : Element) (num : List ℕ) → eid_below NONE_THROUGHOUT (Some above) e num ≡ above ++ 95 ∷ 95 ∷ level_text e num
below_it above e num = ap (λ t. cond t (level_text e num) (above ++ 95 ∷ 95 ∷ level_text e num)) (none_throughout e)

still_behind : (name above : List ℕ) (e : Element) (num : List ℕ) → (above ≡ name) ⊎ IsBehind name above → IsBehind name (eid_below NONE_THROUGHOUT (Some above) e num)
still_behind name above e num (inl same) = (level_text e num, below_it above e num ∙ ap (λ t. t ++ 95 ∷ 95 ∷ level_text e num) same)
still_behind name above e num (inr deep) =
    (deep.0 ++ 95 ∷ 95 ∷ level_text e num, below_it above e num ∙ ap (λ t. t ++ 95 ∷ 95 ∷ level_text e num) deep.1 ∙ append_assoc name (95 ∷ 95 ∷ deep.0) (95 ∷ 95 ∷ level_text e num))

module _ (name : List ℕ) (P : List ℕ → Type 0) (brings : (w : List ℕ) → IsBehind name w → P w) where
  mutual
    one_behind : (above : List ℕ) → (above ≡ name) ⊎ IsBehind name above → (b : Branch Own) → AllWids P (enacted NONE_THROUGHOUT (Some above) b)
    one_behind above under (branch own below) =
        let eid : List ℕ = eid_below NONE_THROUGHOUT (Some above) own.element own.num in
        let here : IsBehind name eid = still_behind name above own.element own.num under in
        (brings eid here, all_behind eid (inr here) below)

    all_behind : (above : List ℕ) → (above ≡ name) ⊎ IsBehind name above → (bs : Branches Own) → HaveWids P (all_enacted NONE_THROUGHOUT (Some above) bs)
    all_behind above under no_branches = tt
    all_behind above under (more_branches b bs) = (one_behind above under b, all_behind above under bs)

-- each wId that a modification brings stands behind its name
pub brought_behind : (by : Id) (P : List ℕ → Type 0) → ((w : List ℕ) → IsBehind (bringer by) w → P w) → (nodes : Branches Own) → HaveWids P (brought by nodes)
brought_behind by P brings nodes = all_behind (bringer by) P brings (bringer by) (inl refl) nodes

or_parts : (s t : Bool) → (s || t) ≡ false → (s ≡ false) × (t ≡ false)
or_parts false t none = (refl, none)
or_parts true t none = absurd cc

both_not : (s t : Bool) → s ≡ false → t ≡ false → (s || t) ≡ false
both_not false t first second = second
both_not true t first second = first

-- no wId passes a test exactly where each fails it
module _ (test : List ℕ → Bool) where
  mutual
    each_fails : (b : Branch Provision) → list_any test (wids b) ≡ false → AllWids (λ w. test w ≡ false) b
    each_fails (branch p below) none = let t = or_parts (test p.wid) (list_any test (all_wids below)) none in (t.0, all_fail below t.1)

    pub all_fail : (bs : Branches Provision) → list_any test (all_wids bs) ≡ false → HaveWids (λ w. test w ≡ false) bs
    all_fail no_branches none = tt
    all_fail (more_branches b bs) none =
        let t = or_parts (list_any test (wids b)) (list_any test (all_wids bs)) (sym (list_any-append test (wids b) (all_wids bs)) ∙ none) in
        (each_fails b t.0, all_fail bs t.1)

  mutual
    one_none : (b : Branch Provision) → AllWids (λ w. test w ≡ false) b → list_any test (wids b) ≡ false
    one_none (branch p below) fails = both_not (test p.wid) (list_any test (all_wids below)) fails.0 (all_none below fails.1)

    pub all_none : (bs : Branches Provision) → HaveWids (λ w. test w ≡ false) bs → list_any test (all_wids bs) ≡ false
    all_none no_branches fails = refl
    all_none (more_branches b bs) fails =
        list_any-append test (wids b) (all_wids bs) ∙ both_not (list_any test (wids b)) (list_any test (all_wids bs)) (one_none b fails.0) (all_none bs fails.1)
