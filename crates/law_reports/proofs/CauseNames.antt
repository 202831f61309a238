-- The name of a cause is that of the rule with its number.
use Rattle.std.proofs.Common.{◌≡◌, refl}
use Rattle.law_register.specs.declared.answer.queries.QueryRule.{QueryRule}
use Rattle.law_register.specs.declared.answer.queries.QueryRule.TheVariants.{UnknownWork, ViewpointAhead, NotYetEnacted, OtherLanguage, UnknownPortion}
use Rattle.law_register.specs.Answer.Queries.{query_name, query_number}
use Rattle.law_reports.specs.Dangling.{cause_named}

pub named_as_rules : (rule : QueryRule) → cause_named (query_number rule) ≡ query_name rule
named_as_rules (UnknownWork work) = refl
named_as_rules (ViewpointAhead front) = refl
named_as_rules (NotYetEnacted day) = refl
named_as_rules (OtherLanguage language) = refl
named_as_rules (UnknownPortion eid) = refl
