-- The fields of the values that stand in entries.
use Rattle.std.specs.Prelude.{ℕ, ◌==◌, ◌/◌, ◌%◌, ◌+◌, nat_le, nat_lt, Bool, ◌&&◌, ◌||◌, List, [], ◌∷◌, length, map, Option, Some, None, unwrap_or, is_ok, if◌then◌else◌}
use Rattle.std.specs.Int.{w16, w32, w64}
use Rattle.std.specs.Str.{is_utf8}
use Rattle.desk_base.specs.declared.id.Id.{Id}
use Rattle.desk_base.specs.declared.period.Period.{Period}
use Rattle.eid_paths.specs.Elements.{is_throughout}
use Rattle.eid_paths.specs.Nums.{is_num}
use Rattle.eid_paths.specs.declared.element.Element.{Element}
use Rattle.eid_paths.specs.declared.element.Element.TheVariants as element
use Rattle.eid_paths.specs.declared.numbering.Numbering.{Numbering}
use Rattle.frbr_names.specs.Expressions.{is_expression, is_language}
use Rattle.frbr_names.specs.Works.{work_of, date_named}
use Rattle.law_register.specs.Law.Spelling.{is_spelled_day}
use Rattle.law_register.specs.Register.Drafters.{is_drafter}
use Rattle.law_register.specs.declared.law.modification.Destination.{Destination}
use Rattle.law_register.specs.declared.law.modification.Destination.TheVariants as to
use Rattle.textual_mods.specs.declared.edit.Spot.{Spot}
use Rattle.entry_codec.specs.Fields.{Field, Kind, HeldBy, byte, number, chunk, tested, pair, made, made_where, kind, first, second, one_of, counted, each}

-- numbers of two, four and eight bytes
unfoldable pub number16 : Field ℕ
number16 = number w16

unfoldable pub number32 : Field ℕ
number32 = number w32

unfoldable pub number64 : Field ℕ
number64 = number w64

-- so many bytes of UTF-8
unfoldable pub text_of : ℕ → Field (List ℕ)
text_of n = tested is_utf8 (chunk n)

-- so many bytes of UTF-8 that keep a rule
abbrev pub ruled_text : (List ℕ → Bool) → ℕ → Field (List ℕ)
ruled_text rule n = tested rule (text_of n)

-- a text behind a length of two bytes, and one that keeps a rule
unfoldable pub text : Field (List ℕ)
text = counted 65535 number16 text_of

abbrev pub text_where : (List ℕ → Bool) → Field (List ℕ)
text_where rule = counted 65535 number16 (ruled_text rule)

-- a name behind a length of one byte
abbrev pub name_where : (List ℕ → Bool) → Field (List ℕ)
name_where rule = counted 255 byte (ruled_text rule)

-- the name of a drafter, and a num
unfoldable pub drafter : Field (List ℕ)
drafter = name_where is_drafter

unfoldable pub num : Field (List ℕ)
num = name_where is_num

-- a text is the IRI of a work
abbrev pub is_work : List ℕ → Bool
is_work iri = is_ok (work_of iri)

-- the IRI of a work, and of an expression
unfoldable pub work : Field (List ℕ)
work = text_where is_work

unfoldable pub expression : Field (List ℕ)
expression = text_where is_expression

-- a list behind a count of two bytes
abbrev pub list_of : {V : Type 0} → Field V → Field (List V)
list_of field = counted 65535 number16 (each field)

unfoldable pub refs : Field (List (List ℕ))
refs = list_of expression

-- a number is that of a day
abbrev pub is_day : ℕ → Bool
is_day n = nat_le 1 n && nat_le n 3652059

-- a day
unfoldable pub day : Field ℕ
day = tested is_day number32

-- a number that is not 0, or 0 for none
abbrev pub some_but_zero : ℕ → Option ℕ
some_but_zero n = if n == 0 then None else Some n

abbrev pub or_none : Field ℕ → Field (Option ℕ)
or_none field = made_where (λ o. nat_lt 0 (unwrap_or o 1)) some_but_zero (λ o. Some (unwrap_or o 0)) field

-- a day, or none
unfoldable pub day_or_none : Field (Option ℕ)
day_or_none = or_none (tested (λ n. n == 0 || is_day n) number32)

-- the number of a law entry, or none
unfoldable pub law : Field (Option ℕ)
law = or_none number32

-- a period: its start, and its end or none
abbrev pub period_from : ℕ × Option ℕ → Period
period_from p = record { start = p.0; end = p.1 }

unfoldable pub period : Field Period
period = made period_from (λ p. Some (p.start, p.end)) (pair day day_or_none)

-- an id: its law number and its item
abbrev pub id_from : ℕ × ℕ → Id
id_from p = record { law = p.0; item = p.1 }

unfoldable pub id : Field Id
id = made id_from (λ i. Some (i.law, i.item)) (pair number32 number16)

-- a language
unfoldable pub language : Field (List ℕ)
language = tested is_language (chunk 3)

-- the day of an act, which agrees with the IRI of its work
unfoldable pub act_day : List ℕ → Field ℕ
act_day iri = tested (is_spelled_day (date_named iri)) day

-- the bit of each element in a numbering, in their order
abbrev pub bits : List ℕ
bits = 1 ∷ 2 ∷ 4 ∷ 8 ∷ 16 ∷ 32 ∷ 64 ∷ 128 ∷ 256 ∷ 512 ∷ 1024 ∷ 2048 ∷ 4096 ∷ 8192 ∷ []

-- a number has a bit
abbrev pub has_bit : ℕ → ℕ → Bool
has_bit n bit = n / bit % 2 == 1

abbrev pub numbering_from : ℕ → Numbering
numbering_from n = record { throughout = map (has_bit n) bits }

-- the bit of an element, where it is numbered throughout
abbrev pub bit_of : Numbering → Element → ℕ → ℕ
bit_of numbering e bit = if is_throughout numbering e then bit else 0

unfoldable pub numbering_number : Numbering → ℕ
numbering_number n =
    bit_of n element.Article 1 + bit_of n element.Section 2 + bit_of n element.Chapter 4 + bit_of n element.Paragraph 8
    + bit_of n element.Subparagraph 16 + bit_of n element.Subsection 32 + bit_of n element.Clause 64
    + bit_of n element.Subclause 128 + bit_of n element.Alinea 256 + bit_of n element.Part 512
    + bit_of n element.Title 1024
    + bit_of n element.Book 2048 + bit_of n element.Point 4096 + bit_of n element.Indent 8192

-- which elements are numbered throughout: a bit for each, and the two highest are clear
unfoldable pub numbering : Field Numbering
numbering =
    made_where (λ n. length n.throughout == 14) numbering_from (λ n. Some (numbering_number n))
    (tested (λ n. nat_lt n 16384) number16)

-- what a modification is directed at: a modification by its id, or a provision by its wId
abbrev pub destination_kinds : List (Kind Destination)
destination_kinds = kind 0 (λ i. to.Modification i) id ∷ kind 1 (λ w. to.Node w) text ∷ []

abbrev pub destination_parts : Destination → HeldBy destination_kinds
destination_parts (to.Modification i) = first i
destination_parts (to.Node wid) = second wid

unfoldable pub destination : Field Destination
destination = one_of destination_kinds destination_parts

-- an occurrence of a text
abbrev pub spot_from : List ℕ × ℕ → Spot
spot_from p = record { old = p.0; occurrence = p.1 }

unfoldable pub spot : Field Spot
spot = made spot_from (λ s. Some (s.old, s.occurrence)) (pair text number16)
