use Rattle.std.proofs.Common.{◌∙◌}
use Rattle.textual_mods.proofs.Placing.{branches_are}
use Rattle.textual_mods.proofs.joining.next_provision.Goals as goal

pub returns-clause-next : goal.returns-clause-next
returns-clause-next c = branches_are c.args.tree.now c.next.result ∙ c.next.ensures.branch
