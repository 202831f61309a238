-- The rules of eIds.
use Rattle.std.specs.Prelude.{ℕ, List, codes}
use Rattle.eid_paths.specs.declared.eid_fault.EidRule.{EidRule}
use Rattle.eid_paths.specs.declared.eid_fault.EidRule.TheVariants.{UnknownElement, BadNum, EmptyLevel}

-- the number of a rule
abbrev pub rule_number : EidRule → ℕ
rule_number UnknownElement = 1
rule_number BadNum = 2
rule_number EmptyLevel = 3

-- the name of a rule
abbrev pub rule_name : EidRule → List ℕ
rule_name UnknownElement = codes "UnknownElement"
rule_name BadNum = codes "BadNum"
rule_name EmptyLevel = codes "EmptyLevel"
