use Rattle.std.proofs.Common.{◌∙◌}
use Rattle.eid_paths.specs.Levels.{level_text}
use Rattle.act_tree.specs.Seen.{tree_view}
use Rattle.act_tree.specs.Slots.{at, number, size}
use Rattle.act_tree.proofs.LaidDown.{laid_within}
use Rattle.act_tree.proofs.LevelsBegun.{decided}
use Rattle.act_tree.proofs.tree.Tree.has_level.Goals as goal

pub returns : goal.returns
unfolding tree_view
returns c =
    let t = c.args.self.now in
    c.begins.ensures ∙ decided t.numbering (at t.arena) (number t.arena) (size t.arena) t.whole (level_text c.args.element c.args.num.now) (laid_within t.arena.slots.items)

pub begins-requires : goal.begins-requires
begins-requires c = c.args.self.now.whole.fits
