use Rattle.std.proofs.Common.{◌∙◌, sym, ap, min}
use Rattle.act_tree.specs.Branches.{counts}
use Rattle.act_tree.specs.Seen.{below_at}
use Rattle.act_tree.proofs.Walking.{body_is}
use Rattle.act_tree.proofs.tree.Tree.count.Goals as goal

pub returns : goal.returns
returns c =
    c.count.ensures
    ∙ ap (λ bs. min (counts bs) 4294967295) (c.children.ensures.branches ∙ ap (below_at c.args.self.now) c.root.ensures.root ∙ sym (body_is c.args.self.now))
