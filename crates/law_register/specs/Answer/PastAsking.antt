-- What an answer does to the tables of past viewpoints, and what it costs.
use Rattle.std.specs.Prelude.{◌≡◌, ◌⊎◌, ℕ, ◌+◌, Bool, ◌&&◌, ◌||◌, is_some, is_none, List, Option, Some, None, Result, Ok, Err, take, if◌then◌else◌}
use Rattle.law_register.specs.Answer.Answers.{first_rule}
use Rattle.law_register.specs.Answer.Costs.{revision_cost, unless_refused}
use Rattle.law_register.specs.Provisions.Carrying.{carrying}
use Rattle.law_register.specs.Provisions.Costs.{held_cost}
use Rattle.law_register.specs.Provisions.Line.{line}
use Rattle.law_register.specs.Register.KnownIds.{known_at}
use Rattle.law_register.specs.Register.LawList.{laws}
use Rattle.law_register.specs.declared.answer.queries.AskFault.{AskFault}
use Rattle.law_register.specs.declared.answer.queries.AskFault.TheVariants as fails
use Rattle.law_register.specs.declared.answer.queries.QueryRule.{QueryRule}
use Rattle.law_register.specs.declared.answer.queries.QueryRule.TheVariants.{UnknownWork}
use Rattle.law_register.specs.declared.answer.question.Question.{Question}
use Rattle.law_register.specs.declared.register.entry.Entry.{Entry}
use Rattle.law_register.specs.declared.register.known.Known.{Known}
use Rattle.law_register.specs.Answer.PastKeys.{has_key, key_of, keys_after}
use Rattle.law_register.specs.declared.answer.past_key.PastKey.{PastKey}

-- the first rule that a question breaks which can be judged without a text, by what is known of its work
abbrev pub refusal_by : Question → Option Known → Option QueryRule
refusal_by q None = Some (UnknownWork q.work)
refusal_by q (Some known) = first_rule known q

-- the same, by what the entries make known at its viewpoint
abbrev pub refusal : List Entry → Question → Option QueryRule
refusal entries q = refusal_by q (known_at entries q.work q.viewpoint)

-- a question is answered from a table: it has the day of a version, and breaks no rule that can be judged without a text
abbrev pub needs_table : List Entry → Question → Bool
needs_table entries q = is_some q.version && is_none (refusal entries q)

-- the keys once a question is answered: its own is the latest where it needs a table
abbrev pub keys_asked : List Entry → Question → List PastKey → List PastKey
keys_asked entries q keys = if needs_table entries q then keys_after (key_of q) keys else keys

-- the keys after a question was asked; where there was not enough memory they may be as before
abbrev pub AreKeysAfter : {A : Type 0} → Result A AskFault → (old asked new : List PastKey) → Type 0
AreKeysAfter (Ok answer) old asked new = new ≡ asked
AreKeysAfter (Err (fails.Query rule)) old asked new = new ≡ asked
AreKeysAfter (Err fails.Memory) old asked new = (new ≡ asked) ⊎ (new ≡ old)

-- how many ids are applied at most to make the table of a question by works in a line, where it breaks no rule before: to find what its
-- work carries, and to make the table by that
abbrev pub making_cost : List Known → Question → Option Known → ℕ
making_cost works q None = 0
making_cost works q (Some known) =
    unless_refused (first_rule known q) (held_cost works known + revision_cost (carrying works known) q.reading 0)

-- how many ids are applied at most to answer a question where tables of these keys are kept: none without the day of a version, and
-- none where its own key is one of them
abbrev pub past_cost : List Entry → Question → List PastKey → ℕ
past_cost entries q keys =
    if is_none q.version || has_key (key_of q) keys then 0
    else making_cost (line (take q.viewpoint (laws entries))) q (known_at entries q.work q.viewpoint)
