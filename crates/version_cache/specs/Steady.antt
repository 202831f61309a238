-- Works of which what is carried changes on known days alone.
use Rattle.std.specs.List.{All}
use Rattle.law_register.specs.declared.register.known.Known.{Known}
use Rattle.law_register.specs.Answer.Soundness.{IsSteady}

-- what the modifications of a work carry changes on days of the works on which it depends
abbrev pub CarrySteadily : Known → Type 0
CarrySteadily known = All (λ m. IsSteady known.source_days m.carried) known.mods
