use Rattle.act_tree.proofs.KeptNumbers.{same_number}
use Rattle.act_tree.proofs.laws.nodes_keep_numbers.Goals as goal

pub returns : goal.returns
returns c =
    same_number c.args.earlier.now c.args.later.now c.args.before c.args.after c.requires.stay c.requires.before c.requires.after c.requires.same
