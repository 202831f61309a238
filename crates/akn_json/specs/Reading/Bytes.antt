-- The JSON value that bytes are.
use Rattle.std.specs.Prelude.{ℕ, nat_le, List, length, Option, None, if◌then◌else◌}
use Rattle.std.specs.Str.{is_utf8}
use Rattle.serde_json.specs.Data.{Data}
use Rattle.serde_json.specs.Read.{read}
use Rattle.akn_json.specs.declared.fault.FormRule.TheVariants.{NotJson, TooLong}
use Rattle.akn_json.specs.declared.reading.bytes.TheConstants.{MAX_DOSSIER_BYTES}
use Rattle.akn_json.specs.Reading.Reads.{Read, ◌>>◌, broken, or_fault, unless_broken}

-- the most bytes of a dossier, and of a command
abbrev pub most_bytes : ℕ
most_bytes = MAX_DOSSIER_BYTES

-- the JSON value that bytes are, if they are one; where an object repeats a key, its last value counts
abbrev pub json_of : List ℕ → Option Data
json_of bytes = if is_utf8 bytes then read bytes else None

-- the JSON value of bytes that are to be of a form, or their first fault: their length is judged before all else
abbrev pub value_of : List ℕ → Read Data
value_of bytes = do
  unless_broken (broken TooLong) (nat_le (length bytes) most_bytes)
  or_fault (broken NotJson) (json_of bytes)
