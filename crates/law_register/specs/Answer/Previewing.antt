-- The answer of a preview, and what it costs.
use Rattle.std.specs.Prelude.{ℕ, ◌+◌, List, Option, option_map, Result}
use Rattle.law_register.specs.declared.answer.answer.Answer.{Answer}
use Rattle.law_register.specs.declared.answer.question.Question.{Question}
use Rattle.law_register.specs.declared.answer.queries.QueryRule.{QueryRule}
use Rattle.law_register.specs.declared.register.entry.Entry.{Entry}
use Rattle.law_register.specs.declared.register.known.Known.{Known}
use Rattle.law_register.specs.Answer.Asking.{answer_by}
use Rattle.law_register.specs.Answer.Costs.{bearing_for}
use Rattle.law_register.specs.Answer.Previews.{known_previewed, law_previewed, question_by}
use Rattle.law_register.specs.Provisions.Carrying.{carrying}
use Rattle.law_register.specs.Provisions.Costs.{held_cost_if}
use Rattle.law_register.specs.Provisions.Line.{line}
use Rattle.law_register.specs.Register.LawList.{laws}

-- what a drafter's preview knows of a work, with what it carries of provisions: they are of other works, which the draft leaves as they are
abbrev pub held_previewed : List Entry → List ℕ → List ℕ → Option Known
held_previewed entries drafter work = option_map (carrying (line (laws entries))) (known_previewed entries drafter work)

-- a drafter's preview: the answer to a question about a version by the law with his draft of that work, and the whole of it known;
-- the viewpoint that the question names is not read
unfoldable pub preview_at : List Entry → List ℕ → Question → Result Answer QueryRule
preview_at entries drafter q =
    answer_by (question_by (law_previewed entries drafter q.work) q) (held_previewed entries drafter q.work)

-- how many ids are applied at most for a drafter's preview: to find what its work carries, and those that bear on the day that it asks for,
-- those of his draft among them
unfoldable pub previewing_at : List Entry → List ℕ → Question → ℕ
previewing_at entries drafter q =
    held_cost_if (line (laws entries)) (known_previewed entries drafter q.work)
    + bearing_for (question_by (law_previewed entries drafter q.work) q) (held_previewed entries drafter q.work)
