use Rattle.std.proofs.Common.{◌∙◌, ap}
use Rattle.act_tree.specs.LevelsOfNodes.{begins_one}
use Rattle.act_tree.specs.Slots.{at, size}
use Rattle.act_tree.proofs.LevelsLeft.{one_past_root}
use Rattle.act_tree.proofs.arena.Arena.begins_eid.Goals as goal

pub returns : goal.returns
returns c =
    let arena = c.args.self.now in
    c.begins_one.ensures ∙ ap (λ g. begins_one c.args.numbering (at arena) (size arena) g c.args.id) c.root.ensures ∙ one_past_root c.args.numbering (at arena) (size arena) c.args.id
