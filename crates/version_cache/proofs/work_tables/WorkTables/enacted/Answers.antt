use Rattle.std.proofs.Common.{◌∙◌}
use Rattle.law_register.specs.declared.answer.question.Reading.TheVariants.{Force}
use Rattle.version_cache.proofs.work_tables.WorkTables.enacted.Goals as goal

pub returns-clause-right : goal.returns-clause-right
returns-clause-right c = λ known is. c.version.ensures.same ∙ (is.tables.right Force).enacted
