use Rattle.std.proofs.Common.{◌≡◌, ◌∙◌, sym, false, ◌||◌}
use Rattle.eid_paths.specs.Elements.{is_throughout}
use Rattle.act_tree.specs.Seen.{tree_view}
use Rattle.act_tree.proofs.Frames.{none_left, none_right}
use Rattle.textual_mods.specs.Insertions.{is_root}
use Rattle.textual_mods.proofs.SplitTrees.{level_taken_begun, level_taken_on}
use Rattle.textual_mods.proofs.inserting.is_level_taken.Goals as goal

pub returns-then-begins_below : goal.returns-then-begins_below
returns-then-begins_below c =
    level_taken_begun c.args.tree.now c.args.parent c.args.element c.args.num.now c.has_level.result (sym c.begins_below.ensures ∙ c.if-begins_below.true) c.has_level.ensures

pub returns-else-begins_below : goal.returns-else-begins_below
returns-else-begins_below c =
    let t = c.args.tree.now in
    let free : (is_root t c.args.parent || is_throughout (tree_view t).numbering c.args.element) ≡ false = sym c.begins_below.ensures ∙ c.if-begins_below.false in
    level_taken_on t c.args.parent c.args.element c.args.num.now c.has_child_level.result (none_left _ _ free) (none_right (is_root t c.args.parent) _ free) c.has_child_level.ensures
