-- The rules of names.
use Rattle.std.specs.Prelude.{ℕ, List, codes}
use Rattle.frbr_names.specs.declared.fault.NameRule.{NameRule}
use Rattle.frbr_names.specs.declared.fault.NameRule.TheVariants.{NotAkn, BadJurisdiction, NotAnAct, BadDate, BadNumber, BadLanguage, OtherComponent, BadPortion}

-- the number of a rule, as refusals print it
abbrev pub rule_number : NameRule → ℕ
rule_number NotAkn = 1
rule_number BadJurisdiction = 2
rule_number NotAnAct = 3
rule_number BadDate = 4
rule_number BadNumber = 5
rule_number BadLanguage = 6
rule_number OtherComponent = 7
rule_number BadPortion = 8

-- the name of a rule, as refusals print it
abbrev pub rule_name : NameRule → List ℕ
rule_name NotAkn = codes "NotAkn"
rule_name BadJurisdiction = codes "BadJurisdiction"
rule_name NotAnAct = codes "NotAnAct"
rule_name BadDate = codes "BadDate"
rule_name BadNumber = codes "BadNumber"
rule_name BadLanguage = codes "BadLanguage"
rule_name OtherComponent = codes "OtherComponent"
rule_name BadPortion = codes "BadPortion"
