-- Refusals as JSON, with the keys of each object in ascending byte order.
use Rattle.std.specs.Prelude.{ℕ, List, ◌∷◌, ◌++◌, codes, encode_utf8_all}
use Rattle.std.specs.Fmt.{decimal}
use Rattle.serde_json.specs.Data.{Data, unsigned, number, string, object, no_members, member}
use Rattle.desk_base.specs.Days.{day_text}
use Rattle.desk_base.specs.Ids.{id_text}
use Rattle.act_tree.specs.Faults.{fault_number}
use Rattle.akn_json.specs.Faults.{rule_number, rule_name}
use Rattle.law_register.specs.Answer.Queries.{query_number, query_name}
use Rattle.law_register.specs.Register.Rules.{register_number, register_name}
use Rattle.law_register.specs.declared.register.rules.Rule.{Rule}
use Rattle.akn_json.specs.declared.fault.FormFault.{FormFault}
use Rattle.law_register.specs.declared.answer.queries.QueryRule.{QueryRule}
use Rattle.law_register.specs.declared.answer.queries.QueryRule.TheVariants.{UnknownWork, ViewpointAhead, NotYetEnacted, OtherLanguage, UnknownPortion}
use Rattle.law_register.specs.declared.register.rules.Rule.TheVariants as rules

-- a number
abbrev pub number_data : ℕ → Data
number_data n = number (unsigned n)

-- bytes that are not of a form: the rule that they break, by number and name, and the place
abbrev pub form_fault_data : FormFault → Data
form_fault_data f =
    object (member (codes "form") (number (unsigned (rule_number f.rule)))
    (member (codes "name") (string (rule_name f.rule))
    (member (codes "place") (number (unsigned f.place)) no_members)))

-- the value that the refusal of a question shows: the IRI of the work, the number of law entries, the day of the act, its
-- language, or the eId that was asked for
abbrev pub kept_data : QueryRule → Data
kept_data (UnknownWork work) = string work
kept_data (ViewpointAhead front) = number (unsigned front)
kept_data (NotYetEnacted day) = string (day_text day)
kept_data (OtherLanguage language) = string (encode_utf8_all language)
kept_data (UnknownPortion eid) = string eid

-- a question that is refused: the value that the refusal shows, and the rule by name and number
abbrev pub query_data : QueryRule → Data
query_data r =
    object (member (codes "kept") (kept_data r)
    (member (codes "name") (string (query_name r))
    (member (codes "query") (number (unsigned (query_number r))) no_members)))

-- the id `n.i` that an unknown modification is asked for by, both in decimal
abbrev pub item_text : ℕ → ℕ → List ℕ
item_text law item = decimal law ++ 46 ∷ decimal item

-- the value that the refusal of a command shows: the IRI of a work, an id, of a text that is not well-formed the number of its
-- first fault, and else the number that the rule names
abbrev pub rule_kept_data : Rule → Data
rule_kept_data (rules.NumberReused n) = number_data n
rule_kept_data (rules.DraftersFull most) = number_data most
rule_kept_data (rules.UnknownWork work) = string work
rule_kept_data (rules.WorkExists n) = number_data n
rule_kept_data (rules.BadTree fault) = number_data (fault_number fault)
rule_kept_data (rules.BadModification item) = number_data item
rule_kept_data (rules.BadPeriod item) = number_data item
rule_kept_data (rules.UnknownModification law item) = string (item_text law item)
rule_kept_data (rules.AlreadyWithdrawn n) = number_data n
rule_kept_data (rules.NotWithdrawn id) = string (id_text id)
rule_kept_data (rules.WrongKind id) = string (id_text id)
rule_kept_data (rules.Stale n) = number_data n
rule_kept_data (rules.EmptyDraft work) = string work
rule_kept_data (rules.DraftFull most) = number_data most
rule_kept_data (rules.WorkFull most) = number_data most
rule_kept_data (rules.LawFull most) = number_data most
rule_kept_data (rules.RegisterFull most) = number_data most

-- a command that is refused: the value that the refusal shows, and the rule by name and number
abbrev pub rule_data : Rule → Data
rule_data r =
    object (member (codes "kept") (rule_kept_data r)
    (member (codes "name") (string (register_name r))
    (member (codes "rule") (number (unsigned (register_number r))) no_members)))
