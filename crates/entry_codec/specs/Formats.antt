-- Where the formats of entries differ: in how the limit of an act and the provision of a source are spelled. All else is spelled
-- alike in every format, around what it is given here.
use Rattle.std.specs.Prelude.{ℕ, ◌==◌, Bool, not, ◌||◌, List, [], length, Option, Some, None, is_some, unwrap_or, if◌then◌else◌}
use Rattle.act_tree.specs.declared.limits.NodeLimit.{NodeLimit}
use Rattle.act_tree.specs.declared.limits.NodeLimit.TheVariants.{Plain, Wide}
use Rattle.frbr_names.specs.Rules.{is_portion}
use Rattle.law_register.specs.Law.Formats.{is_wide}
use Rattle.law_register.specs.Law.Spelling.{is_spelled_provision}
use Rattle.law_register.specs.declared.law.format.EntryFormat.{EntryFormat}
use Rattle.law_register.specs.declared.law.format.EntryFormat.TheVariants.{First, Second}
use Rattle.entry_codec.specs.Fields.{Field, nothing, tested, made, made_where}
use Rattle.entry_codec.specs.Values.{number16, text_where}

-- how a format spells the limit of an act, and the provision that a source names
pub record Format : Type 0 where
  pub limit : Field NodeLimit
  pub provision : Field (Option (List ℕ))

-- what a format does not say takes no bytes, and has one value
abbrev pub unsaid : {V : Type 0} → (V → Bool) → V → Field V
unsaid is_it value = made_where is_it (λ _. value) (λ _. Some tt) nothing

-- format 1: acts are plain, and no source names a provision
abbrev pub first_format : Format
first_format = record {
  limit = unsaid (λ l. not (is_wide l)) Plain;
  provision = unsaid (λ p. not (is_some p)) None;
}

-- the limit of an act, as the number of its nodes
abbrev pub limit_number : NodeLimit → ℕ
limit_number Plain = 4096
limit_number Wide = 8192

abbrev pub limit_numbered : ℕ → NodeLimit
limit_numbered n = if n == 8192 then Wide else Plain

unfoldable pub limit : Field NodeLimit
limit = made limit_numbered (λ l. Some (limit_number l)) (tested (λ n. n == 4096 || n == 8192) number16)

-- the provision that a source names, or an empty text for none
abbrev pub some_but_empty : List ℕ → Option (List ℕ)
some_but_empty t = if length t == 0 then None else Some t

abbrev pub is_empty_or_portion : List ℕ → Bool
is_empty_or_portion t = length t == 0 || is_portion t

unfoldable pub provision : Field (Option (List ℕ))
provision =
    made_where is_spelled_provision some_but_empty (λ p. Some (unwrap_or p []))
    (text_where is_empty_or_portion)

-- format 2
abbrev pub second_format : Format
second_format = record { limit = limit; provision = provision }

-- the format that an entry stands in
abbrev pub format_in : EntryFormat → Format
format_in First = first_format
format_in Second = second_format
