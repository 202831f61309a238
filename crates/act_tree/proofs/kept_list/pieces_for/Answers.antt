use Rattle.act_tree.proofs.Pieces.{pieces_low, pieces_enough}
use Rattle.act_tree.proofs.kept_list.pieces_for.Goals as goal

pub returns-clause-low : goal.returns-clause-low
returns-clause-low c = pieces_low c.args.count c.args.size c.div_ceil.result c.div_ceil.ensures c.requires

pub returns-clause-enough : goal.returns-clause-enough
returns-clause-enough c = pieces_enough c.args.count c.args.size c.div_ceil.result c.div_ceil.ensures c.requires
