-- What is told of what bears: of the days on which a text may change, and of the modifications of a day.
use Rattle.std.specs.Prelude.{ℕ, List, [], ◌∷◌, ◌++◌, Option, Some, None, codes}
use Rattle.desk_base.specs.Days.{day_text}
use Rattle.desk_base.specs.Ids.{id_text}
use Rattle.desk_base.specs.declared.id.Id.{Id}
use Rattle.law_register.specs.Answer.Answers.{asked_day}
use Rattle.law_register.specs.Answer.Breakpoints.{breakpoints}
use Rattle.law_register.specs.Answer.Order.{order}
use Rattle.law_register.specs.declared.register.known.Known.{Known}
use Rattle.law_register.specs.declared.answer.question.Question.{Question}

-- days, each behind a space
abbrev pub spaced_days : List ℕ → List ℕ
spaced_days [] = []
spaced_days (day ∷ days) = codes " " ++ day_text day ++ spaced_days days

-- ids, each behind a space
abbrev pub spaced_ids : List Id → List ℕ
spaced_ids [] = []
spaced_ids (id ∷ ids) = codes " " ++ id_text id ++ spaced_ids ids

-- a line of days
abbrev pub days_text : List ℕ → List ℕ
days_text days = codes "days" ++ spaced_days days

-- a line of ids in an order
abbrev pub order_text : List Id → List ℕ
order_text ids = codes "order" ++ spaced_ids ids

-- the days on which the text of a work may change, if the work is known
abbrev pub days_line : Option Known → List ℕ
days_line None = codes "none"
days_line (Some known) = days_text (breakpoints known)

-- the modifications that bear on the day of a question, in their order, if its work is known
abbrev pub order_line : Question → Option Known → List ℕ
order_line question None = codes "none"
order_line question (Some known) = order_text (order known question.reading (asked_day question.version known.act))
