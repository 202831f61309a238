-- The eId of a wId in a text, as a table has it.
use Rattle.std.proofs.Common.{◌≡◌, ◌∙◌, sym, ap, ℕ, false, cond, List, [], option_map, None, Some}
use Rattle.std.specs.Str.{bytes_eq}
use Rattle.eid_paths.specs.Eids.{eid_text}
use Rattle.act_tree.specs.Changes.{any_holds, is_in, root_wid}
use Rattle.act_tree.specs.EidsOfWids.{eid_of_wid, levels_along}
use Rattle.act_tree.specs.Trees.{TreeValue}
use Rattle.act_tree.proofs.Frames.{none_right}
use Rattle.act_tree.proofs.Ways.{no_way}
use Rattle.law_reports.specs.Correspondences.{eid_in, eid_or_nothing}

-- a provision that is found has its own
pub found_eid : (tree : TreeValue) (w wid eid : List ℕ) → bytes_eq wid root_wid ≡ false → w ≡ wid → eid_of_wid tree w ≡ Some eid → eid ≡ eid_in tree wid
found_eid tree w wid eid other same is =
    sym (ap (λ b. cond b [] (eid_or_nothing (eid_of_wid tree wid))) other
    ∙ ap (λ v. eid_or_nothing (eid_of_wid tree v)) (sym same)
    ∙ ap eid_or_nothing is)

no_eid : (tree : TreeValue) (wid : List ℕ) → is_in wid tree.body ≡ false → eid_of_wid tree wid ≡ None
unfolding eid_of_wid
no_eid tree wid out =
    ap (option_map (λ way. eid_text (levels_along tree.numbering [] way))) (no_way wid tree.body (none_right (bytes_eq wid root_wid) (any_holds wid tree.body) out))

-- where none is found, there is nothing
pub missing_eid : (tree : TreeValue) (wid : List ℕ) → bytes_eq wid root_wid ≡ false → is_in wid tree.body ≡ false → [] ≡ eid_in tree wid
missing_eid tree wid other out =
    sym (ap (λ b. cond b [] (eid_or_nothing (eid_of_wid tree wid))) other ∙ ap eid_or_nothing (no_eid tree wid out))
