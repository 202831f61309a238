-- Which provision of one day is which of another: they are the same where they have one wId.
use Rattle.std.specs.Prelude.{ℕ, ◌+◌, length, not, nat_lt, List, [], ◌∷◌, ◌++◌, Option, Some, None, Result, Ok, Err, map, filter, if◌then◌else◌, codes}
use Rattle.std.specs.Option.{option_or}
use Rattle.std.specs.Str.{bytes_eq}
use Rattle.act_tree.specs.Changes.{is_in, root_wid}
use Rattle.act_tree.specs.EidsOfWids.{eid_of_wid}
use Rattle.act_tree.specs.Trees.{TreeValue}
use Rattle.act_tree.specs.Wids.{all_wids}
use Rattle.law_register.specs.declared.register.entry.Entry.{Entry}
use Rattle.law_register.specs.declared.register.known.Known.{Known}
use Rattle.law_register.specs.declared.answer.queries.QueryRule.{QueryRule}
use Rattle.law_register.specs.declared.answer.queries.QueryRule.TheVariants.{NotYetEnacted, UnknownWork}
use Rattle.law_register.specs.declared.answer.question.Reading.TheVariants.{Force}
use Rattle.law_register.specs.Answer.Order.{order}
use Rattle.law_register.specs.Answer.Replay.{replay_on}
use Rattle.law_register.specs.Answer.Costs.{holding_at}
use Rattle.law_register.specs.Provisions.Carrying.{held_now}
use Rattle.law_register.specs.Register.LawList.{front}
use Rattle.law_reports.specs.Tables.{table_text}

-- an eId, and nothing where there is none
abbrev pub eid_or_nothing : Option (List ℕ) → List ℕ
eid_or_nothing None = []
eid_or_nothing (Some eid) = eid

-- the eId that the provision of a wId has in a text, and nothing where the text has no such provision; the root has no eId
abbrev pub eid_in : TreeValue → List ℕ → List ℕ
eid_in tree wid = if bytes_eq wid root_wid then [] else eid_or_nothing (eid_of_wid tree wid)

-- the row of a provision of the first text
abbrev pub row_of_both : TreeValue → TreeValue → List ℕ → List (List ℕ)
row_of_both first second wid = wid ∷ eid_in first wid ∷ eid_in second wid ∷ []

-- the row of a provision that the second text alone has
abbrev pub row_of_second : TreeValue → List ℕ → List (List ℕ)
row_of_second second wid = wid ∷ [] ∷ eid_in second wid ∷ []

-- the rows of the first text in its order, each provision before those beneath it, and then those of what the second text
-- alone has, in its order
abbrev pub rows_between : TreeValue → TreeValue → List (List (List ℕ))
rows_between first second =
    map (row_of_both first second) (all_wids first.body)
    ++ map (row_of_second second) (filter (λ wid. not (is_in wid first.body)) (all_wids second.body))

-- the names of the columns
abbrev pub correspondence_names : List (List ℕ)
correspondence_names = codes "wId" ∷ codes "first" ∷ codes "second" ∷ []

-- the text of a work that is in force on a day
abbrev pub text_on : Known → ℕ → TreeValue
text_on known day = (replay_on known Force day).tree

-- the table of two texts
abbrev pub table_between : TreeValue → TreeValue → List ℕ
table_between first second = table_text correspondence_names (rows_between first second)

-- a day before that of the act is refused
abbrev pub day_rule : Known → ℕ → Option QueryRule
day_rule known day = if nat_lt day known.act.day then Some (NotYetEnacted known.act.day) else None

-- a text, unless a rule was broken before
abbrev pub unless_broken : Option QueryRule → List ℕ → Result (List ℕ) QueryRule
unless_broken None text = Ok text
unless_broken (Some rule) text = Err rule

-- the table of a work that is known, or the first of the days that is refused
abbrev pub correspondence_of : ℕ → ℕ → Known → Result (List ℕ) QueryRule
correspondence_of first second known =
    unless_broken (option_or (day_rule known first) (day_rule known second))
    (table_between (text_on known first) (text_on known second))

-- the same, or that the work is not known
abbrev pub correspondence_by : List ℕ → ℕ → ℕ → Option Known → Result (List ℕ) QueryRule
correspondence_by work first second None = Err (UnknownWork work)
correspondence_by work first second (Some known) = correspondence_of first second known

-- which provision of a work on the first day is which on the second, as all entries make it known, with what it carries
unfoldable pub correspondence : List Entry → List ℕ → ℕ → ℕ → Result (List ℕ) QueryRule
correspondence entries work first second =
    correspondence_by work first second (held_now entries work)

-- how many modifications bear on the one day and on the other
abbrev pub bearing_on_both : Known → ℕ → ℕ → ℕ
bearing_on_both known first second = length (order known Force first) + length (order known Force second)

-- the same, where the work is known
abbrev pub bearing_by : ℕ → ℕ → Option Known → ℕ
bearing_by first second None = 0
bearing_by first second (Some known) = bearing_on_both known first second

-- how many ids are applied at most: to find what the work carries, and on both days, as all entries make the work known
unfoldable pub bearing_between : List Entry → List ℕ → ℕ → ℕ → ℕ
bearing_between entries work first second =
    holding_at entries work (front entries) + bearing_by first second (held_now entries work)
