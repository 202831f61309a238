use Rattle.std.proofs.Common.{◌∙◌, ap}
use Rattle.eid_paths.specs.Levels.{level_text}
use Rattle.act_tree.specs.LevelsOfNodes.{some_past}
use Rattle.act_tree.specs.Slots.{at, size}
use Rattle.act_tree.proofs.LevelsLeft.{some_past_root}
use Rattle.act_tree.proofs.arena.Arena.begins.Goals as goal

pub returns : goal.returns
returns c =
    let arena = c.args.self.now in
    c.begins_without.ensures ∙ ap (λ g. some_past c.args.numbering (at arena) (size arena) g (level_text c.args.element c.args.num.now) (size arena)) c.root.ensures ∙ some_past_root c.args.numbering (at arena) (size arena) (level_text c.args.element c.args.num.now) (size arena)
