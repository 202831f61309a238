-- Where modifications come from.
use Rattle.std.specs.Prelude.{Bool, is_some}
use Rattle.law_register.specs.declared.law.modification.ModSource.{ModSource}
use Rattle.law_register.specs.declared.law.modification.Modification.{Modification}
use Rattle.law_register.specs.declared.law.modification.Modification.TheVariants.{Textual, Force, Efficacy}

-- where a modification comes from
abbrev pub source_of : Modification → ModSource
source_of (Textual source force edit) = source
source_of (Force source destination on effect) = source
source_of (Efficacy source destination on effect) = source

-- a modification names the provision that makes it
abbrev pub names_provision : Modification → Bool
names_provision m = is_some (source_of m).provision
