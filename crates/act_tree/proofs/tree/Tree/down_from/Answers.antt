use Rattle.std.proofs.Common.{◌∙◌, sym, ap, ◌&&◌, take, drop}
use Rattle.eid_paths.specs.Eids.{eid_text}
use Rattle.act_tree.specs.Seen.{tree_view, below_at}
use Rattle.act_tree.specs.WaysDown.{has_way}
use Rattle.act_tree.proofs.GoingDown.{begins_down}
use Rattle.act_tree.proofs.LowNodes.{below_low}
use Rattle.act_tree.proofs.tree.Tree.down_from.Goals as goal

pub go_on-requires-clause-node : goal.go_on-requires-clause-node
go_on-requires-clause-node c = begins_down c.args.self.now c.args.id (eid_text (take 1 c.args.levels.now)) (sym c.begins_eid.ensures ∙ c.if-begins_eid.true) c.requires.level

pub go_on-requires-clause-depth : goal.go_on-requires-clause-depth
go_on-requires-clause-depth c =
    let node = begins_down c.args.self.now c.args.id (eid_text (take 1 c.args.levels.now)) (sym c.begins_eid.ensures ∙ c.if-begins_eid.true) c.requires.level in
    below_low c.args.self.now c.args.id node.0

pub returns-then-begins_eid-clause-found : goal.returns-then-begins_eid-clause-found
unfolding tree_view
returns-then-begins_eid-clause-found c =
    c.go_on.ensures.found
    ∙ sym (ap (λ s. s && has_way c.args.self.now.numbering (drop 1 c.args.levels.now) (below_at c.args.self.now c.args.id)) (sym c.begins_eid.ensures ∙ c.if-begins_eid.true))

pub returns-else-begins_eid-clause-found : goal.returns-else-begins_eid-clause-found
unfolding tree_view
returns-else-begins_eid-clause-found c =
    sym (ap (λ s. s && has_way c.args.self.now.numbering (drop 1 c.args.levels.now) (below_at c.args.self.now c.args.id)) (sym c.begins_eid.ensures ∙ c.if-begins_eid.false))
