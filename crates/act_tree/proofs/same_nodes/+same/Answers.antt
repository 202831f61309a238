use Rattle.std.proofs.Common.{◌∙◌, sym}
use Rattle.act_tree.proofs.NotAsMany.{not_as_many}
use Rattle.act_tree.proofs.same_nodes.+same.Goals as goal

pub are_same_nodes-returns-then-len-clause-same : goal.are_same_nodes-returns-then-len-clause-same
are_same_nodes-returns-then-len-clause-same t c =
    not_as_many c.a.inside.items.items c.b.inside.items.items _ _ c.a.view_is c.b.view_is
    (λ e. c.if-len.true (c.len.ensures ∙ c.a.inside.items.ok.0 ∙ e ∙ sym c.b.inside.items.ok.0 ∙ sym c.len-2.ensures))
