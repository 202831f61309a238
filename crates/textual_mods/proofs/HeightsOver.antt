-- How high what is left of a tree is with others beneath a node is told by how deep the node stands.
use Rattle.std.proofs.Common.{◌≡◌, ◌∙◌, sym, ap, refl, subst, ℕ, ◌+◌, ◌≤◌, true, false, ◌||◌, cond, max, min, nat_lt, List, [], ◌∷◌, Option, Some, None, inl, inr, arith}
use Rattle.std.specs.Str.{bytes_eq}
use Rattle.std.proofs.lemmas.Bool.{cases_Bool, cond_both, cases_eq, eq-eqb, or_cases, cases_lt, lt-ltb, le-ltb}
use Rattle.eid_paths.specs.declared.numbering.Numbering.{Numbering}
use Rattle.act_tree.specs.declared.limits.TheConstants.{MAX_DEPTH}
use Rattle.act_tree.specs.declared.surveying.TheConstants.{NONE_THROUGHOUT}
use Rattle.act_tree.specs.declared.tree.Tree.{Tree}
use Rattle.act_tree.specs.Arena.{Laid, below_in, StandAll, IsWhole}
use Rattle.act_tree.specs.Branches.{Branches, branch, no_branches, more_branches, heights}
use Rattle.act_tree.specs.Changes.{any_holds, is_in, root_wid}
use Rattle.act_tree.specs.Depths.{depth_of, steps_up}
use Rattle.act_tree.specs.Faults.{all_owns, first_fault, first_cause}
use Rattle.act_tree.specs.Provisions.{Own, Provision}
use Rattle.act_tree.specs.Seen.{tree_view, has_node, provision_at}
use Rattle.act_tree.specs.Slots.{at, number, size}
use Rattle.act_tree.proofs.EidsDiffer.{LowerAll, lower_below, lower_first, lower_rest, body_lower}
use Rattle.act_tree.proofs.HowDeep.{steps_root, one_up, depth_is}
use Rattle.act_tree.proofs.ReplacedNodes.{not_root}
use Rattle.act_tree.proofs.StayingNodes.{leads_node}
use Rattle.act_tree.proofs.Texts.{same_text, equal_text}
use Rattle.textual_mods.specs.Insertions.{heights_over, height_with}
use Rattle.textual_mods.specs.Substitutions.{goes, left, wid_of, text_left}
use Rattle.textual_mods.proofs.InsertedTrees.{root_says}
use Rattle.textual_mods.proofs.LeftNodes.{left_none, left_more}
use Rattle.textual_mods.proofs.Limits.{IsPlaced, is_placed, heights_owns}
use Rattle.textual_mods.proofs.Substituted.{clean_left}
use Rattle.act_tree.specs.declared.limits.NodeLimit.TheVariants.{Plain}

module _ (at : ℕ → Option Laid) (number : List ℕ → Option ℕ) (size : ℕ) (whole : IsWhole at number size) (n : Numbering) (g : Option (List ℕ)) (w : List ℕ) (i high : ℕ) (leads : number w ≡ Some i) where
  -- how deep a number stands
  abbrev deep : ℕ → ℕ
  deep k = steps_up size at k

  -- provisions below a number reach no deeper than they do without the others, or than the others do; and as deep as those, if the wId is there
  abbrev Reach : ℕ → Branches Provision → Type 0
  Reach u bs = (heights_over w high bs + deep u ≤ max (heights bs + deep u) (deep i + high)) × (any_holds w bs ≡ true → deep i + high ≤ heights_over w high bs + deep u)

  reach_on : (p : Provision) (under later : Branches Provision) (u k : ℕ) → deep k ≡ deep u + 1 → (bytes_eq p.wid w ≡ true → deep k ≡ deep i) → Reach k under → Reach u later → Reach u (more_branches (branch p under) later)
  reach_on p under later u k step here beneath behind =
      elim (cases_Bool (bytes_eq p.wid w)) [
        | inl it ↦
            let own : cond (bytes_eq p.wid w) high 0 ≡ high = ap (λ t. cond t high 0) it in
            (omega (arith, own, step, here it, beneath.0, behind.0), λ held. omega (arith, own, step, here it))
        | inr other ↦
            let own : cond (bytes_eq p.wid w) high 0 ≡ 0 = ap (λ t. cond t high 0) other in (
              omega (arith, own, step, beneath.0, behind.0),
              λ held. elim (or_cases (any_holds w under) (any_holds w later) (sym (ap (λ t. (t || any_holds w under) || any_holds w later) other) ∙ held)) [
                | inl inside ↦ omega (arith, own, step, beneath.1 inside)
                | inr after ↦ omega (arith, behind.1 after)
              ],
            )
      ]

  reach : (bs : Branches Provision) (u : ℕ) (ids : List ℕ) → StandAll at number u ids bs → LowerAll at number size whole n bs → Reach u (left g bs)
  reach no_branches u ids s l = subst (Reach u) (sym (left_none g)) (omega arith, λ held. absurd cc)
  reach (more_branches b bs) u [] s l = absurd s
  reach (more_branches (branch p below) bs) u (k ∷ ids) s l =
      let first = lower_first at number size whole n (branch p below) bs l in
      let later : Reach u (left g bs) = reach bs u ids s.1 (lower_rest at number size whole n (branch p below) bs l) in
      let under : Reach k (left g below) = reach below k (below_in (at k)) s.0.1.1 (lower_below at number size whole n p below first) in
      let here : bytes_eq p.wid w ≡ true → deep k ≡ deep i = λ it. (let one : Some k ≡ Some i = sym s.0.1.0 ∙ ap number (same_text p.wid w it) ∙ leads in let same : k ≡ i = cc in ap deep same) in
      subst (Reach u) (sym (left_more g p below bs))
      (cond_both (goes g p.wid) (left g bs) (more_branches (branch p (left g below)) (left g bs)) (Reach u) (λ _. later)
      (λ _. reach_on p (left g below) (left g bs) u k (one_up at number size whole n p below u k s.0 first) here under later))

-- what is left of a tree, with others of this height beneath a node
reached : (t : Tree) (gone : Option ℕ) (parent high : ℕ) → has_node t parent ≡ true
    → let w = (provision_at t parent).wid in let over = heights_over w high (text_left t gone) in let deep = depth_of w (tree_view t).body + high in (over ≤ max (heights (text_left t gone)) deep) × (any_holds w (text_left t gone) ≡ true → deep ≤ over)
unfolding has_node tree_view provision_at
reached t gone parent high node =
    let w : List ℕ = (provision_at t parent).wid in
    let top : steps_up (size t.arena) (at t.arena) 0 ≡ 0 = steps_root (size t.arena) (at t.arena) 0 refl in
    let is = reach (at t.arena) (number t.arena) (size t.arena) t.whole t.numbering (wid_of t gone) w parent high (leads_node t.arena t.whole parent node) (tree_view t).body 0 (below_in (at t.arena 0)) t.whole.stands.1.1
    (body_lower (at t.arena) (number t.arena) (size t.arena) t.whole t.numbering) in
    (omega (arith, top, is.0, depth_is t parent node), λ held. omega (arith, top, is.1 held, depth_is t parent node))

-- whether it is too deep, by the depth of a node that is left
pub deep_told : (t : Tree) (gone : Option ℕ) (parent depth high told : ℕ) (new : Branches Own) → first_cause (tree_view t) ≡ None → first_fault NONE_THROUGHOUT Plain new ≡ None
    → has_node t parent ≡ true → is_in (provision_at t parent).wid (text_left t gone) ≡ true
    → depth ≡ depth_of (provision_at t parent).wid (tree_view t).body → high ≡ min (heights new) 4294967295 → told ≡ min (depth + high) 4294967295
    → nat_lt MAX_DEPTH told ≡ nat_lt MAX_DEPTH (height_with (provision_at t parent).wid (heights new) (text_left t gone))
deep_told t gone parent depth high told new fits sound node stays is_deep is_high is =
    let w : List ℕ = (provision_at t parent).wid in
    let text : Branches Provision = text_left t gone in
    let over : ℕ = heights_over w (heights new) text in
    let placed : IsPlaced (tree_view t).numbering (tree_view t).limit (all_owns text) = is_placed (tree_view t).numbering (tree_view t).limit (all_owns text) (clean_left t gone fits) in
    let new_placed : IsPlaced NONE_THROUGHOUT Plain new = is_placed NONE_THROUGHOUT Plain new sound in
    let low : heights text ≤ MAX_DEPTH = (let l : heights (all_owns text) ≤ MAX_DEPTH = placed.low in omega (arith, heights_owns text)) in
    let low_new : heights new ≤ MAX_DEPTH = new_placed.low in
    elim (cases_eq parent 0) [
      | inl zero ↦
          let none : depth ≡ 0 = is_deep ∙ depth_is t parent node ∙ steps_root (size t.arena) (at t.arena) parent (eq-eqb parent 0 zero) in
          let root : bytes_eq w root_wid ≡ true = equal_text w root_wid (ap (λ k. (provision_at t k).wid) zero ∙ root_says t) in
          le-ltb MAX_DEPTH told (omega arith) ∙ sym (ap (λ s. nat_lt MAX_DEPTH (cond s (max (heights text) (heights new)) over)) root ∙ le-ltb MAX_DEPTH (max (heights text) (heights new)) (omega arith))
      | inr other ↦
          let below : bytes_eq w root_wid ≡ false = not_root t parent node other in
          let r = reached t gone parent (heights new) node in
          let least : depth_of w (tree_view t).body + heights new ≤ over = r.1 (sym (ap (λ s. s || any_holds w text) below) ∙ stays) in
          elim (cases_lt MAX_DEPTH told) [
            | inl less ↦ lt-ltb MAX_DEPTH told less ∙ sym (lt-ltb MAX_DEPTH over (omega arith))
            | inr most ↦ le-ltb MAX_DEPTH told most ∙ sym (le-ltb MAX_DEPTH over (omega (arith, r.0)))
          ]
          ∙ sym (ap (λ s. nat_lt MAX_DEPTH (cond s (max (heights text) (heights new)) over)) below)
    ]
