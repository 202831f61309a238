use Rattle.std.proofs.Common.{◌∙◌, ap, sym}
use Rattle.act_tree.specs.Seen.{below_at}
use Rattle.act_tree.proofs.Walking.{body_is}
use Rattle.replay_core.proofs.answering.top.Goals as goal

pub returns-clause-branches : goal.returns-clause-branches
returns-clause-branches c = c.children.ensures.branches ∙ ap (below_at c.args.tree.now) c.root.ensures.root ∙ sym (body_is c.args.tree.now)
