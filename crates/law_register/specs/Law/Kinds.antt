-- The kinds of modifications.
use Rattle.std.specs.Prelude.{Bool, true, false}
use Rattle.law_register.specs.declared.law.modification.Kind.{Kind}
use Rattle.law_register.specs.declared.law.modification.Kind.TheVariants as kinds
use Rattle.law_register.specs.declared.law.modification.Modification.{Modification}
use Rattle.law_register.specs.declared.law.modification.Modification.TheVariants.{Textual, Force, Efficacy}

-- the kind of a modification
abbrev pub kind_of : Modification → Kind
kind_of (Textual source force edit) = kinds.Textual
kind_of (Force source destination on effect) = kinds.Force
kind_of (Efficacy source destination on effect) = kinds.Efficacy

-- two kinds are one
abbrev pub is_same_kind : Kind → Kind → Bool
is_same_kind kinds.Textual kinds.Textual = true
is_same_kind kinds.Force kinds.Force = true
is_same_kind kinds.Efficacy kinds.Efficacy = true
is_same_kind _ _ = false
