use Rattle.frbr_names.proofs.ExpressionLemmas.{expression_read, own_read}
use Rattle.frbr_names.proofs.laws.spelled_expression_is_read.Goals as goal

pub returns-clause-any : goal.returns-clause-any
returns-clause-any c = expression_read c.args._text.now

pub returns-clause-own : goal.returns-clause-own
returns-clause-own c = own_read
