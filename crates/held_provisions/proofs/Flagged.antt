-- A provision that a text does not have has no flag in it, and the root is no provision.
use Rattle.std.proofs.Common.{◌≡◌, ◌∙◌, sym, ap, refl, ℕ, Bool, false, cond, List, Option, Some, None}
use Rattle.std.specs.Str.{bytes_eq}
use Rattle.act_tree.specs.declared.tree.Tree.{Tree}
use Rattle.act_tree.specs.Branches.{Branch, Branches, branch, no_branches, more_branches}
use Rattle.act_tree.specs.Changes.{any_holds, holds, is_in, root_wid}
use Rattle.act_tree.specs.Provisions.{Provision}
use Rattle.act_tree.specs.Seen.{tree_view}
use Rattle.act_tree.specs.Slots.{at, number, size}
use Rattle.act_tree.proofs.TreeNodes.{no_root_held}
use Rattle.law_register.specs.declared.answer.question.Reading.{Reading}
use Rattle.law_register.specs.declared.register.known.Known.{Known}
use Rattle.law_register.specs.Answer.Flags.{flag, flag_among, flag_below, flag_in, or_else, root_flag}
use Rattle.law_register.proofs.ApartIds.{none_left, none_right}
use Rattle.law_register.specs.Provisions.Trees.{is_raised}

module _ (known : Known) (reading : Reading) (day : ℕ) (wid : List ℕ) where
  mutual
    none_in : (above : Bool) (b : Branch Provision) → holds wid b ≡ false → flag_in known reading day above wid b ≡ None
    none_in above (branch p below) none =
        ap (λ b. cond b (Some (flag_below known reading day above wid)) (flag_among known reading day (flag_below known reading day above p.wid) wid below))
        (none_left (bytes_eq p.wid wid) (any_holds wid below) none)
        ∙ none_among (flag_below known reading day above p.wid) below (none_right (bytes_eq p.wid wid) (any_holds wid below) none)

    none_among : (above : Bool) (bs : Branches Provision) → any_holds wid bs ≡ false → flag_among known reading day above wid bs ≡ None
    none_among above no_branches none = refl
    none_among above (more_branches b bs) none =
        ap (λ o. or_else o (flag_among known reading day above wid bs)) (none_in above b (none_left (holds wid b) (any_holds wid bs) none))
        ∙ none_among above bs (none_right (holds wid b) (any_holds wid bs) none)

  -- a wId that a text does not have
  pub not_there : (bs : Branches Provision) → any_holds wid bs ≡ false → false ≡ is_raised (flag_among known reading day (root_flag known reading day) wid bs)
  not_there bs none = sym (ap is_raised (none_among (root_flag known reading day) bs none))

  -- the flag of any other
  abbrev flag_or : Bool → Branches Provision → Option Bool
  flag_or is_root bs = cond is_root (Some (root_flag known reading day)) (flag_among known reading day (root_flag known reading day) wid bs)

  pub raised : (bs : Branches Provision) (w : List ℕ) (found : Bool) → w ≡ wid → bytes_eq wid root_wid ≡ false → flag known reading day bs w ≡ Some found
      → found ≡ is_raised (flag_among known reading day (root_flag known reading day) wid bs)
  raised bs w found same apart is = sym (ap is_raised (sym (ap (λ b. flag_or b bs) apart) ∙ ap (flag known reading day bs) (sym same) ∙ is))

-- the root is no provision
no_root : (t : Tree) → any_holds root_wid (tree_view t).body ≡ false
unfolding tree_view
no_root t = no_root_held (at t.arena) (number t.arena) (size t.arena) t.whole

pub not_root : (t : Tree) (wid : List ℕ) → wid ≡ root_wid → any_holds wid (tree_view t).body ≡ false
not_root t wid is = ap (λ w. any_holds w (tree_view t).body) is ∙ no_root t

pub not_in : (wid : List ℕ) (bs : Branches Provision) → is_in wid bs ≡ false → any_holds wid bs ≡ false
not_in wid bs none = none_right (bytes_eq wid root_wid) (any_holds wid bs) none
