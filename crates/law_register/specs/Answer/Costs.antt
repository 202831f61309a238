-- What an answer costs, and what it costs to revise the versions of a work.
use Rattle.std.specs.Prelude.{ℕ, ◌+◌, nat_le, Bool, if◌then◌else◌, List, [], ◌∷◌, Option, Some, None, length, take}
use Rattle.desk_base.specs.declared.id.Id.{Id}
use Rattle.law_register.specs.declared.register.entry.Entry.{Entry}
use Rattle.law_register.specs.declared.register.known.Known.{Known}
use Rattle.law_register.specs.declared.answer.question.Question.{Question}
use Rattle.law_register.specs.declared.answer.question.Reading.{Reading}
use Rattle.law_register.specs.declared.answer.queries.QueryRule.{QueryRule}
use Rattle.law_register.specs.Answer.Answers.{asked_day, first_rule}
use Rattle.law_register.specs.Answer.Applied.{ids_applied}
use Rattle.law_register.specs.Answer.Asking.{known_for}
use Rattle.law_register.specs.Answer.Breakpoints.{breakpoints}
use Rattle.law_register.specs.Answer.Order.{order}
use Rattle.law_register.specs.Provisions.Costs.{held_cost_if}
use Rattle.law_register.specs.Provisions.Line.{line}
use Rattle.law_register.specs.Register.KnownIds.{known_at}
use Rattle.law_register.specs.Register.LawList.{laws}

-- nothing where a rule is broken, and else this number
abbrev pub unless_refused : Option QueryRule → ℕ → ℕ
unless_refused (Some rule) cost = 0
unless_refused None cost = cost

-- how many modifications of a work bear on the day that a question asks for; none are looked for where the question breaks a rule
-- that can be judged without a text
abbrev pub bearing_by : Question → Known → ℕ
bearing_by q known =
    unless_refused (first_rule known q) (length (order known q.reading (asked_day q.version known.act)))

-- the same, where the work is known
abbrev pub bearing_for : Question → Option Known → ℕ
bearing_for q None = 0
bearing_for q (Some known) = bearing_by q known

-- how many ids are applied at most to find what a work carries at a viewpoint
abbrev pub holding_at : List Entry → List ℕ → ℕ → ℕ
holding_at entries work viewpoint = held_cost_if (line (take viewpoint (laws entries))) (known_at entries work viewpoint)

-- the same, where the day of a version is asked for; the act as enacted carries nothing
abbrev pub holding_for : List Entry → List ℕ → ℕ → Option ℕ → ℕ
holding_for entries work viewpoint None = 0
holding_for entries work viewpoint (Some day) = holding_at entries work viewpoint

-- how many ids are applied at most to answer a question by what the register knew
unfoldable pub bearing_at : List Entry → Question → ℕ
bearing_at entries q =
    holding_for entries q.work q.viewpoint q.version + bearing_for q (known_for entries q.work q.viewpoint q.version)

-- how many ids are applied over the breakpoints from a day on, where these ids are those of the breakpoint before them
abbrev pub cost_after : Known → Reading → ℕ → List Id → List ℕ → ℕ
cost_after known reading touched before [] = 0
cost_after known reading touched before (day ∷ days) =
    (if nat_le touched day then ids_applied before (order known reading day) else 0)
    + cost_after known reading touched (order known reading day) days

-- how many ids are applied to revise the versions of a work from a day on
unfoldable pub revision_cost : Known → Reading → ℕ → ℕ
revision_cost known reading touched = cost_after known reading touched [] (breakpoints known)
