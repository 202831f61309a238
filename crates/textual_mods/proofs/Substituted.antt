-- The first fault of a tree with provisions that are brought in the place of a node is told before.
use Rattle.std.proofs.Common.{◌≡◌, ◌∙◌, sym, ap, subst, ℕ, zero, suc, true, false, ◌||◌, cond, List, [], ◌∷◌, map, Option, Some, None, inl, inr}
use Rattle.std.specs.Prelude.{Result, Ok, Err, option_map, is_some, slice_get, if◌then◌else◌}
use Rattle.std.specs.Str.{bytes_eq}
use Rattle.std.proofs.lemmas.Bool.{cases_Bool, cases_eq}
use Rattle.desk_base.specs.declared.id.Id.{Id}
use Rattle.eid_paths.specs.declared.numbering.Numbering.{Numbering}
use Rattle.act_tree.specs.declared.build_fault.BuildFault.{BuildFault}
use Rattle.act_tree.specs.declared.cause.Cause.{Cause}
use Rattle.act_tree.specs.declared.cause.Cause.TheVariants.{TargetMissing}
use Rattle.act_tree.specs.declared.surveying.TheConstants.{NONE_THROUGHOUT}
use Rattle.act_tree.specs.declared.tree.Tree.{Tree}
use Rattle.act_tree.specs.Branches.{Branches, branches_of}
use Rattle.act_tree.specs.Brought.{brought}
use Rattle.act_tree.specs.Changes.{has_wid, any_holds, is_in, without, changed, instead, put_in, among_children, substituted, grafted, root_wid}
use Rattle.act_tree.specs.Faults.{all_owns, first_fault, first_cause, fault_cause}
use Rattle.act_tree.specs.Numbered.{are_numbered}
use Rattle.act_tree.specs.Provisions.{Own, Provision}
use Rattle.act_tree.specs.Seen.{tree_view, has_node, provision_at, children_at, branch_at, below_at, with_body, substituted_at}
use Rattle.act_tree.specs.Slots.{at, number, size}
use Rattle.act_tree.proofs.FoundNodes.{nums_kept}
use Rattle.act_tree.proofs.Frames.{or_left, or_right}
use Rattle.act_tree.proofs.Nums.{without_kept}
use Rattle.act_tree.proofs.ReplacedNodes.{not_root}
use Rattle.act_tree.proofs.Texts.{equal_text}
use Rattle.act_tree.proofs.TreeNodes.{children_branches}
use Rattle.act_tree.proofs.Walking.{branch_is, body_is}
use Rattle.textual_mods.specs.Edits.{unless_for, within_limits}
use Rattle.textual_mods.specs.Insertions.{have_nums}
use Rattle.textual_mods.specs.StructureEdits.{nodes_substituted}
use Rattle.textual_mods.specs.Substitutions.{text_left, substitution_fault}
use Rattle.textual_mods.proofs.InsertedTrees.{fault_told, found_below, root_says}
use Rattle.textual_mods.proofs.Limits.{faultless}
use Rattle.textual_mods.proofs.OnePlace.{held_found}
use Rattle.textual_mods.proofs.PutInstead.{ChildAt, differ_without, at_children, IsPutInstead, put_instead}
use Rattle.textual_mods.proofs.Removals.{fits_without}
use Rattle.act_tree.proofs.WidsDiffer.{wids_differ}
use Rattle.act_tree.specs.declared.limits.NodeLimit.TheVariants.{Plain}

-- what is left of a tree that keeps the limits keeps them
pub clean_left : (t : Tree) (gone : Option ℕ) → first_cause (tree_view t) ≡ None → first_fault (tree_view t).numbering (tree_view t).limit (all_owns (text_left t gone)) ≡ None
clean_left t None fits = faultless (tree_view t) fits
clean_left t (Some id) fits = fits_without (tree_view t).numbering (tree_view t).limit (provision_at t id).wid (tree_view t).body (faultless (tree_view t) fits)

pub numbered_left : (t : Tree) (gone : Option ℕ) → are_numbered (text_left t gone) ≡ true
numbered_left t None = nums_kept t
numbered_left t (Some id) = without_kept (provision_at t id).wid (tree_view t).body (nums_kept t)

pub kids_are : (t : Tree) (parent : ℕ) → has_node t parent ≡ true → branches_of (map (branch_at t) (children_at t parent)) ≡ below_at t parent
unfolding has_node branch_at below_at children_at
kids_are t parent node = children_branches (at t.arena) (number t.arena) (size t.arena) t.whole parent node

-- a node that is listed stands at its place
listed_at : (t : Tree) (id place : ℕ) (ks : List ℕ) → slice_get ks place ≡ Some id → ChildAt (provision_at t id).wid place (branches_of (map (branch_at t) ks))
listed_at t id place [] is = absurd cc
listed_at t id zero (k ∷ ks) is =
    let same : k ≡ id = cc in
    ap (has_wid (provision_at t id).wid) (branch_is t k) ∙ equal_text (provision_at t k).wid (provision_at t id).wid (ap (λ j. (provision_at t j).wid) same)
listed_at t id (suc place) (k ∷ ks) is = listed_at t id place ks is

module _ (t : Tree) (by : Id) (new : Branches Own) (fits : first_cause (tree_view t) ≡ None) (sound : first_fault NONE_THROUGHOUT Plain new ≡ None) (nums : have_nums new ≡ true)
    (id parent place : ℕ) (node : has_node t id ≡ true) (other : id ≡ 0 → ⊥) (parent_node : has_node t parent ≡ true) (child : slice_get (children_at t parent) place ≡ Some id) where
  abbrev w : List ℕ
  w = (provision_at t id).wid

  abbrev v : List ℕ
  v = (provision_at t parent).wid

  abbrev body : Branches Provision
  body = (tree_view t).body

  abbrev n : Numbering
  n = (tree_view t).numbering

  child_there : ChildAt w place (below_at t parent)
  child_there = subst (ChildAt w place) (kids_are t parent parent_node) (listed_at t id place (children_at t parent) child)

  below_node : bytes_eq v root_wid ≡ false → IsPutInstead w (brought by new) v place (provision_at t parent) (below_at t parent) child_there body
  below_node not_top = put_instead w (brought by new) v place (provision_at t parent) (below_at t parent) child_there body (wids_differ t) (found_below t parent parent_node not_top)

  -- below the root
  at_top : bytes_eq v root_wid ≡ true → changed (instead (brought by new)) w body ≡ put_in place (brought by new) (without w body)
  at_top top =
      let zero_is : parent ≡ 0 = elim (cases_eq parent 0) [
        | inl it ↦ it
        | inr far ↦ absurd (let never : true ≡ false = sym top ∙ not_root t parent parent_node far in cc)
      ] in
      at_children w (brought by new) place body (wids_differ t) (subst (ChildAt w place) (ap (below_at t) zero_is ∙ sym (body_is t)) child_there)

  -- what is brought stands in the text that is left
  text_is : substituted_at t id (brought by new) ≡ grafted v place (brought by new) (without w body)
  text_is =
      ap (λ s. cond s (brought by new) (changed (instead (brought by new)) w body)) (not_root t id node other)
      ∙ elim (cases_Bool (bytes_eq v root_wid)) [
        | inl top ↦ at_top top ∙ sym (ap (λ s. cond s (put_in place (brought by new) (without w body)) (changed (among_children place (brought by new)) v (without w body))) top)
        | inr beneath ↦
            let r : IsPutInstead w (brought by new) v place (provision_at t parent) (below_at t parent) child_there body = below_node beneath in
            r.made ∙ sym (ap (λ s. cond s (put_in place (brought by new) (without w body)) (changed (among_children place (brought by new)) v (without w body))) beneath)
      ]

  -- the node above it is left
  pub parent_left : is_in v (text_left t (Some id)) ≡ true
  parent_left =
      elim (cases_Bool (bytes_eq v root_wid)) [
        | inl top ↦ or_left _ _ top
        | inr beneath ↦
            let r : IsPutInstead w (brought by new) v place (provision_at t parent) (below_at t parent) child_there body = below_node beneath in
            or_right (bytes_eq v root_wid) _ (sym (held_found v (without w body)) ∙ ap is_some r.there)
      ]

  pub fault_of_substitution : first_cause (with_body t (substituted_at t id (brought by new))) ≡ option_map fault_cause (substitution_fault t id parent new)
  fault_of_substitution =
      ap (λ bs. option_map fault_cause (first_fault n (tree_view t).limit (all_owns bs))) text_is
      ∙ ap (option_map fault_cause)
      (fault_told n (tree_view t).limit (without w body) by new (clean_left t (Some id) fits) (numbered_left t (Some id)) sound nums v place (provision_at t parent) (without w (below_at t parent)) (differ_without w body (wids_differ t))
      (λ beneath. let r : IsPutInstead w (brought by new) v place (provision_at t parent) (below_at t parent) child_there body = below_node beneath in r.there))

  pub held_instead : (fault : BuildFault) → Some fault ≡ substitution_fault t id parent new → within_limits (tree_view t) (Ok (substituted_at t id (brought by new))) ≡ Err (fault_cause fault)
  held_instead fault is = ap (λ c. unless_for c (substituted_at t id (brought by new))) (fault_of_substitution ∙ ap (option_map fault_cause) (sym is))

  pub done_instead : None ≡ substitution_fault t id parent new → within_limits (tree_view t) (Ok (substituted_at t id (brought by new))) ≡ Ok (substituted_at t id (brought by new))
  done_instead is = ap (λ c. unless_for c (substituted_at t id (brought by new))) (fault_of_substitution ∙ ap (option_map fault_cause) (sym is))

-- the text that is asked for, by the node of the wId
pub node_is : (t : Tree) (by : Id) (new : Branches Own) (id : ℕ) (wid : List ℕ) → is_in wid (tree_view t).body ≡ true → (provision_at t id).wid ≡ wid → nodes_substituted by wid new (tree_view t).body ≡ Ok (substituted_at t id (brought by new))
node_is t by new id wid there same =
    ap {B = Result (Branches Provision) Cause} (λ s. if s then Ok (substituted wid (brought by new) (tree_view t).body) else Err TargetMissing) there
    ∙ ap {B = Result (Branches Provision) Cause} (λ u. Ok (substituted u (brought by new) (tree_view t).body)) (sym same)

-- in the place of the root what is brought is all
pub all_is : (t : Tree) (by : Id) (new : Branches Own) (id : ℕ) (wid : List ℕ) → id ≡ 0 → (provision_at t id).wid ≡ wid → nodes_substituted by wid new (tree_view t).body ≡ Ok (brought by new)
all_is t by new id wid root same =
    let is : bytes_eq wid root_wid ≡ true = equal_text wid root_wid (sym same ∙ ap (λ j. (provision_at t j).wid) root ∙ root_says t) in
    ap {B = Result (Branches Provision) Cause} (λ s. if s then Ok (substituted wid (brought by new) (tree_view t).body) else Err TargetMissing) (ap (λ s. s || any_holds wid (tree_view t).body) is)
    ∙ ap {B = Result (Branches Provision) Cause} (λ s. Ok (cond s (brought by new) (changed (instead (brought by new)) wid (tree_view t).body))) is
