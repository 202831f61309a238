use Rattle.std.proofs.Common.{rules, sym, ◌+◌, ◌≤◌, arith}
use Rattle.std.proofs.lemmas.Bool.{le-ltb}
use Rattle.act_tree.specs.Branches.{counts}
use Rattle.act_tree.specs.NodeLimits.{most_nodes}
use Rattle.act_tree.specs.Seen.{tree_view}
use Rattle.textual_mods.specs.Substitutions.{text_left}
use Rattle.textual_mods.proofs.FewNodes.{few_left}
use Rattle.textual_mods.proofs.staying.are_too_many.Goals as goal

pub returns-then-saturating_add-most : goal.returns-then-saturating_add-most
returns-then-saturating_add-most c =
    let few : counts (text_left c.args.tree.now c.args.gone.now) ≤ c.laid_down.result = few_left c.args.tree.now c.args.gone.now c.laid_down.result c.laid_down.ensures.past in
    let low : c.laid_down.result + c.args.others ≤ most_nodes (tree_view c.args.tree.now).limit = search rules in
    sym (le-ltb (most_nodes (tree_view c.args.tree.now).limit) (counts (text_left c.args.tree.now c.args.gone.now) + c.args.others) (omega arith))
