-- What is told of entries as bytes.
use Rattle.std.specs.Prelude.{ℕ, List, ◌++◌, Option, Some, None, Result, Ok, Err, codes}
use Rattle.std.specs.Fmt.{decimal}
use Rattle.hex.specs.Hex.{encode_lower}
use Rattle.entry_codec.specs.Entries.{spelling}
use Rattle.entry_codec.specs.declared.fault.CodecFault.{CodecFault}
use Rattle.law_register.specs.declared.register.entry.Entry.{Entry}

-- an entry: its bytes, two digits for each
abbrev pub entry_line : Entry → List ℕ
entry_line e = codes "entry " ++ encode_lower (spelling e)

-- a byte, or that there is none
abbrev pub byte_text : Option ℕ → List ℕ
byte_text (Some byte) = decimal byte
byte_text None = codes "none"

-- a fault: its place, and the byte there
abbrev pub fault_line : CodecFault → List ℕ
fault_line fault = codes "fault " ++ decimal fault.place ++ codes " " ++ byte_text fault.byte

-- what bytes are: an entry, or their fault
abbrev pub bytes_line : Result Entry CodecFault → List ℕ
bytes_line (Ok e) = entry_line e
bytes_line (Err fault) = fault_line fault
