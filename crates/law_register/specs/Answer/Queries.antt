-- The rules of questions, as refusals print them.
use Rattle.std.specs.Prelude.{ℕ, List, codes}
use Rattle.law_register.specs.declared.answer.queries.QueryRule.{QueryRule}
use Rattle.law_register.specs.declared.answer.queries.QueryRule.TheVariants.{UnknownWork, ViewpointAhead, NotYetEnacted, OtherLanguage, UnknownPortion}

-- the number of a rule, as refusals print it
abbrev pub query_number : QueryRule → ℕ
query_number (UnknownWork work) = 1
query_number (ViewpointAhead front) = 2
query_number (NotYetEnacted day) = 3
query_number (OtherLanguage language) = 4
query_number (UnknownPortion eid) = 5

-- the name of a rule, as refusals print it
abbrev pub query_name : QueryRule → List ℕ
query_name (UnknownWork work) = codes "UnknownWork"
query_name (ViewpointAhead front) = codes "ViewpointAhead"
query_name (NotYetEnacted day) = codes "NotYetEnacted"
query_name (OtherLanguage language) = codes "OtherLanguage"
query_name (UnknownPortion eid) = codes "UnknownPortion"
