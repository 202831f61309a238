use Rattle.std.proofs.Common.{◌∙◌}
use Rattle.eid_paths.specs.Levels.{level_text}
use Rattle.act_tree.specs.Seen.{tree_view, has_node, provision_at}
use Rattle.act_tree.proofs.LevelsLeft.{left}
use Rattle.act_tree.proofs.tree.Tree.has_level_without.Goals as goal

pub returns : goal.returns
unfolding tree_view has_node provision_at
returns c =
    let t = c.args.self.now in
    c.begins_without.ensures ∙ left t.numbering t.arena t.whole (level_text c.args.element c.args.num.now) c.args.gone c.requires

pub begins_without-requires : goal.begins_without-requires
begins_without-requires c = c.args.self.now.whole.fits
