-- The rules of the register's commands, as refusals print them.
use Rattle.std.specs.Prelude.{ℕ, List, codes}
use Rattle.law_register.specs.declared.register.rules.Rule.{Rule}
use Rattle.law_register.specs.declared.register.rules.Rule.TheVariants as rule

-- the number of a rule of the register, as refusals print it
abbrev pub register_number : Rule → ℕ
register_number (rule.NumberReused kept) = 1
register_number (rule.DraftersFull kept) = 2
register_number (rule.UnknownWork kept) = 3
register_number (rule.WorkExists kept) = 4
register_number (rule.BadTree kept) = 5
register_number (rule.BadModification kept) = 6
register_number (rule.BadPeriod kept) = 7
register_number (rule.UnknownModification law item) = 8
register_number (rule.AlreadyWithdrawn kept) = 9
register_number (rule.NotWithdrawn kept) = 10
register_number (rule.WrongKind kept) = 11
register_number (rule.Stale kept) = 12
register_number (rule.EmptyDraft kept) = 13
register_number (rule.DraftFull kept) = 14
register_number (rule.WorkFull kept) = 15
register_number (rule.LawFull kept) = 16
register_number (rule.RegisterFull kept) = 17

-- the name of a rule of the register, as refusals print it
abbrev pub register_name : Rule → List ℕ
register_name (rule.NumberReused kept) = codes "NumberReused"
register_name (rule.DraftersFull kept) = codes "DraftersFull"
register_name (rule.UnknownWork kept) = codes "UnknownWork"
register_name (rule.WorkExists kept) = codes "WorkExists"
register_name (rule.BadTree kept) = codes "BadTree"
register_name (rule.BadModification kept) = codes "BadModification"
register_name (rule.BadPeriod kept) = codes "BadPeriod"
register_name (rule.UnknownModification law item) = codes "UnknownModification"
register_name (rule.AlreadyWithdrawn kept) = codes "AlreadyWithdrawn"
register_name (rule.NotWithdrawn kept) = codes "NotWithdrawn"
register_name (rule.WrongKind kept) = codes "WrongKind"
register_name (rule.Stale kept) = codes "Stale"
register_name (rule.EmptyDraft kept) = codes "EmptyDraft"
register_name (rule.DraftFull kept) = codes "DraftFull"
register_name (rule.WorkFull kept) = codes "WorkFull"
register_name (rule.LawFull kept) = codes "LawFull"
register_name (rule.RegisterFull kept) = codes "RegisterFull"
