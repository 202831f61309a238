-- Which modifications stand.
use Rattle.std.specs.Prelude.{Bool, true, false}
use Rattle.law_register.specs.declared.register.standing.Standing.{Standing}
use Rattle.law_register.specs.declared.register.standing.Standing.TheVariants.{Live, Withdrawn}

-- a modification stands: no law entry withdrew it, or a later one restored it
abbrev pub is_live : Standing → Bool
is_live Live = true
is_live (Withdrawn number) = false
