-- Which provisions are looked at: those of acts of a later day, that make a textual modification.
use Rattle.std.specs.Prelude.{ℕ, Bool, false, ◌&&◌, is_some, nat_lt, List, Option, Some, None}
use Rattle.std.specs.List.{list_any}
use Rattle.law_register.specs.declared.law.modification.ModSource.{ModSource}
use Rattle.law_register.specs.declared.law.modification.Modification.{Modification}
use Rattle.law_register.specs.declared.law.modification.Modification.TheVariants.{Textual, Force, Efficacy}
use Rattle.law_register.specs.declared.register.known.Known.{Known}
use Rattle.law_register.specs.Law.Sources.{names_provision}
use Rattle.law_register.specs.Provisions.Line.{work_in}

-- a work is enacted, by an act of a later day than this one
abbrev pub is_after : ℕ → Option Known → Bool
is_after day None = false
is_after day (Some known) = nat_lt day known.act.day

-- the provision of a source is looked at from an act of this day: one is named, and the work of the source is enacted in the line, by
-- an act of a later day
abbrev pub source_looked_at : List Known → ℕ → ModSource → Bool
source_looked_at line day source = is_some source.provision && is_after day (work_in source.href line)

-- the provision that makes a modification of an act of this day is looked at; that of one of force or efficacy never is
abbrev pub looked_at : List Known → ℕ → Modification → Bool
looked_at line day (Textual source force edit) = source_looked_at line day source
looked_at line day (Force source destination on effect) = false
looked_at line day (Efficacy source destination on effect) = false

-- a modification of a work names a provision
abbrev pub names_any : Known → Bool
names_any known = list_any (λ m. names_provision m.body) known.mods
