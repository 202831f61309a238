-- Verdicts that depend on what all drafters have.
use Rattle.std.specs.Prelude.{Bool, true, false}
use Rattle.law_register.specs.declared.register.rules.Rule.{Rule}
use Rattle.law_register.specs.declared.register.rules.Rule.TheVariants.{DraftersFull, RegisterFull}
use Rattle.law_register.specs.declared.register.verdict.Verdict.{Verdict}
use Rattle.law_register.specs.declared.register.verdict.Verdict.TheVariants.{Refused}

-- a rule of the room that all drafters share: for one more drafter, or for more bytes
abbrev pub is_of_room : Rule → Bool
is_of_room (DraftersFull most) = true
is_of_room (RegisterFull most) = true
is_of_room rule = false

-- a command is refused for want of that room
abbrev pub finds_no_room : Verdict → Bool
finds_no_room (Refused rule) = is_of_room rule
finds_no_room verdict = false
