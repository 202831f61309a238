-- Laws of forms that several functions rest on.
use Rattle.std.proofs.Common.{◌≡◌, ℕ, Bool, true, false, List, ◌++◌, Some, None, Ok, Err, if◌then◌else◌, refl, ap}
use Rattle.std.proofs.lemmas.Str.{IsUtf8-from_is_utf8, is_utf8-from_IsUtf8}
use Rattle.std.specs.Str.{IsUtf8, is_utf8}
use Rattle.serde_json.specs.Data.{Data}
use Rattle.serde_json.specs.Read.{read}
use Rattle.akn_json.specs.declared.fault.FormRule.TheVariants.{NotJson}
use Rattle.akn_json.specs.Reading.Reads.{Read, ◌>>=◌, broken, or_fault}
use Rattle.akn_json.specs.Reading.Bytes.{json_of}

-- the JSON value of a text is what is read of it
pub json_of-read : (bytes : List ℕ) (d : Data) → IsUtf8 bytes → read bytes ≡ Some d → or_fault (broken NotJson) (json_of bytes) ≡ Ok d
json_of-read bytes d utf8 reads = rw (is_utf8-from_IsUtf8 bytes utf8, reads)

pub json_of-text : (bytes text : List ℕ) → text ≡ bytes → IsUtf8 bytes → or_fault (broken NotJson) (read text) ≡ or_fault (broken NotJson) (json_of bytes)
json_of-text bytes text same utf8 = rw (is_utf8-from_IsUtf8 bytes utf8, same)

-- bytes that are no text are no JSON value
pub json_of-refused : (bytes : List ℕ) → (IsUtf8 bytes → ⊥) → or_fault (broken NotJson) (json_of bytes) ≡ Err (broken NotJson)
json_of-refused bytes refused = by (is_utf8 bytes) refl
  where
    by : (b : Bool) → is_utf8 bytes ≡ b → or_fault (broken NotJson) (if b then read bytes else None) ≡ Err (broken NotJson)
    by true is = absurd (refused (IsUtf8-from_is_utf8 bytes is))
    by false is = refl

-- what a reading of the rest of a list gives, behind what was read so far
abbrev pub with_front : {A : Type 0} → List A → Read (List A) → Read (List A)
with_front front reading = reading >>= λ rest. Ok (front ++ rest)
