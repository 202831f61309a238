-- The bytes of an entry: its one spelling, and how bytes are decoded.
use Rattle.std.specs.Prelude.{ℕ, ◌-◌, ◌==◌, Bool, List, [], ◌∷◌, length, slice_get, Option, Some, Result, Ok, Err, if◌then◌else◌}
use Rattle.law_register.specs.Law.Formats.{format_number, format_of}
use Rattle.law_register.specs.declared.law.command.Command.{Command}
use Rattle.law_register.specs.declared.law.format.EntryFormat.{EntryFormat}
use Rattle.law_register.specs.declared.law.format.EntryFormat.TheVariants.{First, Second}
use Rattle.law_register.specs.declared.register.entry.Entry.{Entry}
use Rattle.entry_codec.specs.declared.fault.CodecFault.{CodecFault}
use Rattle.entry_codec.specs.Reads.{Read}
use Rattle.entry_codec.specs.Fields.{Field, Kind, HeldBy, pair, made, kind, first, second, one_of}
use Rattle.entry_codec.specs.Values.{number64, day, law, drafter}
use Rattle.entry_codec.specs.Formats.{Format, format_in}
use Rattle.entry_codec.specs.Commands.{command}

-- the fields of an entry behind the byte for its format
abbrev pub entry_from : List ℕ × (ℕ × (ℕ × (Option ℕ × Command))) → Entry
entry_from p = record { drafter = p.0; request = p.1.0; day = p.1.1.0; law = p.1.1.1.0; command = p.1.1.1.1 }

abbrev pub entry_parts : Entry → Option (List ℕ × (ℕ × (ℕ × (Option ℕ × Command))))
entry_parts e = Some (e.drafter, (e.request, (e.day, (e.law, e.command))))

unfoldable pub fields : Format → Field Entry
fields format = made entry_from entry_parts (pair drafter (pair number64 (pair day (pair law (command format)))))

-- the kinds of an entry: it stands in one of the formats, which its first byte tells
abbrev pub standing : EntryFormat → Kind (EntryFormat × Entry)
standing format = kind (format_number format) (λ e. (format, e)) (fields (format_in format))

abbrev pub formats : List (Kind (EntryFormat × Entry))
formats = standing First ∷ standing Second ∷ []

abbrev pub format_parts : EntryFormat → Entry → HeldBy formats
format_parts First e = first e
format_parts Second e = second e

-- an entry in a format: the byte for the format, and its fields
unfoldable pub entry : Field (EntryFormat × Entry)
entry = one_of formats (λ x. format_parts x.0 x.1)

-- an entry, in the format that its command asks for
abbrev pub asked : Entry → EntryFormat × Entry
asked e = (format_of e.command, e)

-- the bytes of an entry
unfoldable pub spelling : Entry → List ℕ
spelling e = entry.spell (asked e)

-- an entry keeps the rules of its fields, and can be counted by them
unfoldable pub keeps_rules : Entry → Bool
keeps_rules e = entry.fits (asked e)

-- the fault at a field from which on so many of these bytes are left
abbrev pub fault_at : List ℕ → ℕ → CodecFault
fault_at bytes left = record { place = length bytes - left; byte = slice_get bytes (length bytes - left) }

-- an entry stands in the format that its command asks for; else the byte for its format is a fault
abbrev pub is_asked : EntryFormat × Entry → Bool
is_asked x = format_number x.0 == format_number (format_of x.1.command)

abbrev pub if_asked : List ℕ → EntryFormat × Entry → Result Entry CodecFault
if_asked bytes x = if is_asked x then Ok x.1 else Err (fault_at bytes (length bytes))

-- what was read is all that the bytes say; bytes that are left over are a fault at the first of them. Whether the entry stands in
-- the right format is judged last
abbrev pub told : List ℕ → Read (EntryFormat × Entry) → Result Entry CodecFault
told bytes (Ok x) = if length x.1 == 0 then if_asked bytes x.0 else Err (fault_at bytes (length x.1))
told bytes (Err left) = Err (fault_at bytes left)

-- the entry that bytes spell, or their first fault
unfoldable pub decoding : List ℕ → Result Entry CodecFault
decoding bytes = told bytes (entry.read bytes)
