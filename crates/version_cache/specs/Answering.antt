-- The answer to a question from what is kept of its work.
use Rattle.std.specs.Prelude.{ℕ, Option, Some, None, Result}
use Rattle.law_register.specs.declared.answer.answer.Answer.{Answer}
use Rattle.law_register.specs.declared.answer.queries.QueryRule.{QueryRule}
use Rattle.law_register.specs.declared.answer.question.Question.{Question}
use Rattle.law_register.specs.Answer.Answers.{answer_of_text, first_rule, unless_broken}
use Rattle.law_register.specs.Answer.Replay.{as_enacted}
use Rattle.law_register.specs.Register.KnownNext.{bare, up_to}
use Rattle.version_cache.specs.Tables.{version_on}
use Rattle.version_cache.specs.Works.{WorkValue, table_in}

-- the answer from the version that is kept of a day, or without one from the act as enacted
abbrev pub answer_dated : WorkValue → Question → Option ℕ → Result Answer QueryRule
answer_dated work q None = answer_of_text (bare work.known) (as_enacted work.known.act) q
answer_dated work q (Some day) = answer_of_text work.known (version_on (table_in q.reading work) day) q

-- that answer once there are so many law entries, or the first rule that the question breaks
abbrev pub answer_kept : WorkValue → ℕ → Question → Result Answer QueryRule
answer_kept work front q = unless_broken (first_rule (up_to front work.known) q) (answer_dated work q q.version)
