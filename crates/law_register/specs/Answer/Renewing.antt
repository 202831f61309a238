-- What it costs to keep the versions of works up to date, and what is known of their references: one step at most for each id that is applied,
-- and one for each reference that is judged.
use Rattle.std.specs.Prelude.{ℕ, ◌+◌, List, [], ◌∷◌, ◌++◌, Option, Some, None}
use Rattle.std.specs.List.{sum_by}
use Rattle.law_register.specs.declared.answer.question.Reading.TheVariants.{Force, Efficacy}
use Rattle.law_register.specs.declared.register.entry.Entry.{Entry}
use Rattle.law_register.specs.declared.register.known.Known.{Known}
use Rattle.law_register.specs.declared.register.verdict.Verdict.{Verdict}
use Rattle.law_register.specs.declared.register.verdict.Verdict.TheVariants.{Accepted, Repeat, Refused}
use Rattle.law_register.specs.Answer.Costs.{revision_cost}
use Rattle.law_register.specs.Provisions.Carrying.{held_now}
use Rattle.law_register.specs.Provisions.Touching.{touched_works}
use Rattle.law_register.specs.Register.LawList.{laws, works_enacted}
use Rattle.law_register.specs.Register.Verdicts.{verdict}

-- how many ids are applied to revise the versions of a work in both readings from the touched day on; none, where no day is touched
abbrev pub both_costs : Known → Option ℕ → ℕ
both_costs known None = 0
both_costs known (Some touched) = revision_cost known Force touched + revision_cost known Efficacy touched

-- the same from this day on, where the work is known
abbrev pub costs_from : Option Known → ℕ → ℕ
costs_from None touched = 0
costs_from (Some known) touched = both_costs known (Some touched)

-- the same of each of these works, each from its own day on, by what entries make known of them
abbrev pub costs_touched : List Entry → List (List ℕ × ℕ) → ℕ
costs_touched entries touched = sum_by (λ t. costs_from (held_now entries t.0) t.1) touched

-- how many ids are applied once an entry stands behind others: those of the works that it touches, by what is known with it
abbrev pub entry_cost : List Entry → Entry → ℕ
entry_cost entries entry = costs_touched (entries ++ entry ∷ []) (touched_works entries entry)

-- the same by what is said of the entry, whose law number is not known yet: one that is a repeat or is refused costs nothing
abbrev pub cost_said : List Entry → Entry → Verdict → ℕ
cost_said entries e (Accepted law reply) = entry_cost entries (record e { law = law })
cost_said entries e (Repeat reply) = 0
cost_said entries e (Refused rule) = 0

-- how many ids are applied at most for a command behind entries, given as an entry whose law number is not known yet
unfoldable pub command_cost : List Entry → Entry → ℕ
command_cost entries e = cost_said entries e (verdict entries e.drafter e.request e.command)

-- how many references are judged anew by what is said of the entry, where so many are for an entry that stands behind others; none for one
-- that is a repeat or is refused
abbrev pub judging_said : (List Entry → Entry → ℕ) → List Entry → Entry → Verdict → ℕ
judging_said judging entries e (Accepted law reply) = judging entries (record e { law = law })
judging_said judging entries e (Repeat reply) = 0
judging_said judging entries e (Refused rule) = 0

-- how many references are judged anew at most for a command behind entries, given as an entry whose law number is not known yet
unfoldable pub judging_cost : (List Entry → Entry → ℕ) → List Entry → Entry → ℕ
judging_cost judging entries e = judging_said judging entries e (verdict entries e.drafter e.request e.command)

-- how many ids are applied to make the versions of all works that entries enact, in both readings
unfoldable pub opening_cost : List Entry → ℕ
opening_cost entries = sum_by (λ work. costs_from (held_now entries work) 0) (works_enacted (laws entries))
