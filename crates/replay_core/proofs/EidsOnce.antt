-- In a version that is replayed no two provisions have one eId: an edit is applied only where that leaves a tree well-formed, and in an act as enacted the eIds are the wIds.
use Rattle.std.proofs.Common.{◌≡◌, ◌∙◌, sym, ap, refl, ℕ, false, List, [], ◌∷◌, Option, Some, None, Result, Ok, Err, ◌⊎◌, inl, inr}
use Rattle.desk_base.specs.declared.id.Id.{Id}
use Rattle.act_tree.specs.declared.cause.Cause.{Cause}
use Rattle.act_tree.specs.declared.tree.Tree.{Tree}
use Rattle.act_tree.specs.Branches.{Branches, branches_of}
use Rattle.act_tree.specs.Faults.{all_owns, all_eids, eids_of, first_cause}
use Rattle.act_tree.specs.Provisions.{Provision}
use Rattle.act_tree.specs.Seen.{tree_view}
use Rattle.act_tree.specs.Trees.{TreeValue}
use Rattle.act_tree.specs.Wids.{all_wids, one_twice}
use Rattle.act_tree.proofs.FirstFaults.{all_wids-enacted}
use Rattle.act_tree.proofs.WidsDiffer.{wids_differ}
use Rattle.textual_mods.specs.Edits.{edited, unless_for, within_limits}
use Rattle.textual_mods.specs.declared.edit.TextualMod.{TextualMod}
use Rattle.textual_mods.proofs.Limits.{faultless, is_placed}
use Rattle.textual_mods.proofs.Starting.{owns_again}
use Rattle.law_register.specs.declared.register.known.Known.{Known}
use Rattle.law_register.specs.declared.register.known.KnownMod.{KnownMod}
use Rattle.law_register.specs.declared.answer.question.Reading.{Reading}
use Rattle.law_register.specs.Answer.Order.{order}
use Rattle.law_register.specs.Answer.Replay.{VersionValue, as_enacted, taken, edit_of, edited_by, replayed, replay_on}

module _ (old : TreeValue) where
  -- a tree is well-formed, or is the one that there was
  abbrev FitsOr : TreeValue → Type 0
  FitsOr new = (first_cause new ≡ None) ⊎ (new ≡ old)

  tried : (v : VersionValue) (id : Id) (r : Result (Branches Provision) Cause) → FitsOr v.tree → FitsOr (taken v id (within_limits v.tree r)).tree
  tried v id (Err cause) fits = fits
  tried v id (Ok body) fits = by (first_cause (record v.tree { body = body })) refl where
    by : (cause : Option Cause) → first_cause (record v.tree { body = body }) ≡ cause → FitsOr (taken v id (unless_for cause body)).tree
    by None is = inl is
    by (Some cause) is = fits

  one_tried : (v : VersionValue) (id : Id) (edit : Option TextualMod) → FitsOr v.tree → FitsOr (edited_by v id edit).tree
  one_tried v id None fits = fits
  one_tried v id (Some edit) fits = tried v id (edited id edit v.tree.body) fits

  all_tried : (mods : List KnownMod) (v : VersionValue) (ids : List Id) → FitsOr v.tree → FitsOr (replayed mods v ids).tree
  all_tried mods v [] fits = fits
  all_tried mods v (id ∷ ids) fits = all_tried mods (edited_by v id (edit_of mods id)) ids (one_tried v id (edit_of mods id) fits)

-- in a tree that is replayed no eId stands twice
pub eids_once : (known : Known) (reading : Reading) (day : ℕ) (t : Tree) → tree_view t ≡ (replay_on known reading day).tree → one_twice (eids_of (tree_view t)) ≡ false
eids_once known reading day t is = by (all_tried (as_enacted known.act).tree known.mods (as_enacted known.act) (order known reading day) (inr refl))
  where
    by : FitsOr (as_enacted known.act).tree (replay_on known reading day).tree → one_twice (eids_of (tree_view t)) ≡ false
    by (inl fits) = (is_placed (tree_view t).numbering (tree_view t).limit (all_owns (tree_view t).body) (faultless (tree_view t) (ap first_cause is ∙ fits))).once
    by (inr same) =
        let enacted : tree_view t ≡ (as_enacted known.act).tree = is ∙ same in
        ap (λ (v : TreeValue). one_twice (eids_of v)) enacted
        ∙ ap (λ os. one_twice (all_eids known.act.numbering None os)) (owns_again known.act.numbering None (branches_of known.act.body))
        ∙ ap one_twice (sym (all_wids-enacted known.act.numbering None (branches_of known.act.body)))
        ∙ ap (λ (v : TreeValue). one_twice (all_wids v.body)) (sym enacted)
        ∙ wids_differ t
