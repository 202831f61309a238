use Rattle.std.proofs.Common.{rules}
use Rattle.std.proofs.lemmas.Fn.{filter_same}
use Rattle.act_tree.proofs.numbers.leave_out.Goals as goal

pub returns : goal.returns
returns c = filter_same _ _ _ (λ n b f' told. search rules) _ _ c.retain.ensures.filtered
