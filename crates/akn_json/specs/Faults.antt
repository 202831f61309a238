-- The rules of forms, and their faults.
use Rattle.std.specs.Prelude.{ℕ, List, codes}
use Rattle.akn_json.specs.declared.fault.FormRule.{FormRule}
use Rattle.akn_json.specs.declared.fault.FormRule.TheVariants.{NotJson, WrongShape, BadName, BadDay, BadElement, BadNumber, UnknownWord, DateDiffers, TooLong}

-- the number of a rule, as refusals print it
abbrev pub rule_number : FormRule → ℕ
rule_number NotJson = 1
rule_number WrongShape = 2
rule_number BadName = 3
rule_number BadDay = 4
rule_number BadElement = 5
rule_number BadNumber = 6
rule_number UnknownWord = 7
rule_number DateDiffers = 8
rule_number TooLong = 9

-- the name of a rule, as refusals print it
abbrev pub rule_name : FormRule → List ℕ
rule_name NotJson = codes "NotJson"
rule_name WrongShape = codes "WrongShape"
rule_name BadName = codes "BadName"
rule_name BadDay = codes "BadDay"
rule_name BadElement = codes "BadElement"
rule_name BadNumber = codes "BadNumber"
rule_name UnknownWord = codes "UnknownWord"
rule_name DateDiffers = codes "DateDiffers"
rule_name TooLong = codes "TooLong"
