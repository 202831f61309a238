-- The answer to a question by a register, at any viewpoint.
use Rattle.std.specs.Prelude.{ℕ, List, Option, Some, None, Result, Err}
use Rattle.law_register.specs.declared.law.act.Act.{Act}
use Rattle.law_register.specs.declared.answer.answer.Answer.{Answer}
use Rattle.law_register.specs.declared.register.entry.Entry.{Entry}
use Rattle.law_register.specs.declared.register.known.Known.{Known}
use Rattle.law_register.specs.declared.answer.question.Question.{Question}
use Rattle.law_register.specs.declared.answer.queries.QueryRule.{QueryRule}
use Rattle.law_register.specs.declared.answer.queries.QueryRule.TheVariants.{UnknownWork}
use Rattle.law_register.specs.Answer.Answers.{answer_on}
use Rattle.law_register.specs.Provisions.Carrying.{known_held}
use Rattle.law_register.specs.Register.KnownIds.{enacted, known_at}
use Rattle.law_register.specs.Register.LawList.{laws}

-- what is known of a work by the law entries up to the one that enacts it
abbrev pub known_when_enacted : List Entry → List ℕ → Option (ℕ × Act) → Option Known
known_when_enacted entries work None = None
known_when_enacted entries work (Some found) = known_at entries work found.0

-- what is known of the work that a question asks for: at its viewpoint, with what it carries of its provisions, or without the day of a
-- version when the act was enacted
abbrev pub known_for : List Entry → List ℕ → ℕ → Option ℕ → Option Known
known_for entries work viewpoint (Some day) = known_held entries work viewpoint
known_for entries work viewpoint None = known_when_enacted entries work (enacted work (laws entries))

-- the answer by what is known, or that the work is not
abbrev pub answer_by : Question → Option Known → Result Answer QueryRule
answer_by q None = Err (UnknownWork q.work)
answer_by q (Some known) = answer_on known q

-- the answer to a question by a register, or the first rule that it breaks
unfoldable pub answer_at : List Entry → Question → Result Answer QueryRule
answer_at entries q = answer_by q (known_for entries q.work q.viewpoint q.version)
