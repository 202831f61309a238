use Rattle.frbr_names.proofs.ExpressionLemmas.{expression_spelled}
use Rattle.frbr_names.proofs.laws.read_expression_is_spelled.Goals as goal

pub returns : goal.returns
returns c = expression_spelled c.args._text.now
