-- What the fields of a head say of its body (RFC 9112, section 6).
use Rattle.std.specs.Prelude.{ℕ, Bool, true, false, not, ◌&&◌, ◌||◌, ◌==◌, nat_lt, nat_le, bytes_eq, List, [], ◌∷◌, length, codes, Result, Ok, Err, if◌then◌else◌}
use Rattle.std.specs.Str.Parse.{digits_value}
use Rattle.http1.specs.Fields.{Header, is_number, values_named, known_fields}
use Rattle.http1.specs.declared.fields.TransferEncoding.{TransferEncoding}
use Rattle.http1.specs.declared.fields.TransferEncoding.TheVariants as coding
use Rattle.law_http.specs.declared.framing.TheConstants.{MAX_BODY, MAX_DIGITS}
use Rattle.law_http.specs.declared.framing.Announced.{Announced}
use Rattle.law_http.specs.declared.framing.Announced.TheVariants.{Nothing, Bytes, Broken}
use Rattle.law_http.specs.declared.refusal.MessageRefusal.{MessageRefusal}
use Rattle.law_http.specs.declared.refusal.MessageRefusal.TheVariants.{BadHead, LengthMissing, BodyTooLong, TransferCoding}

-- the values of the Content-Length fields, in order; a name is compared without regard to case
abbrev pub lengths : List Header → List (List ℕ)
lengths fields = values_named (codes "content-length") fields

-- the length that a value writes: 1 to 19 digits, and so a number below 2 ^ 64
abbrev pub written_length : List ℕ → Announced
written_length value =
    if nat_le (length value) MAX_DIGITS && is_number value then Bytes (digits_value 10 value) else Broken

-- what the values come to: two are broken, equal ones too
abbrev pub announced : List (List ℕ) → Announced
announced [] = Nothing
announced (value ∷ []) = written_length value
announced (value ∷ other ∷ more) = Broken

abbrev pub is_broken : Announced → Bool
is_broken Nothing = false
is_broken (Bytes n) = false
is_broken Broken = true

-- a head has one Host field, and in HTTP/1.0 one or none; the summary of the fields counts them up to two
abbrev pub hosts_fit : ℕ → ℕ → Bool
hosts_fit minor hosts = (hosts == 1) || ((hosts == 0) && (minor == 0))

-- there is a Transfer-Encoding field
abbrev pub has_coding : TransferEncoding → Bool
has_coding coding.Absent = false
has_coding coding.Chunked = true
has_coding coding.Other = true
has_coding coding.Blank = true
has_coding coding.Invalid = true

-- a POST says how long its body is, and no body is too long; a request that says nothing has none
abbrev pub within_limit : List ℕ → Announced → Result ℕ MessageRefusal
within_limit method Nothing = if bytes_eq method (codes "POST") then Err LengthMissing else Ok 0
within_limit method (Bytes n) = if nat_lt MAX_BODY n then Err BodyTooLong else Ok n
within_limit method Broken = Err BadHead

-- how long the body is, or the first of the refusals
abbrev pub body_length : List ℕ → ℕ → List Header → Result ℕ MessageRefusal
body_length method minor fields =
    if is_broken (announced (lengths fields)) || not (hosts_fit minor (known_fields fields).hosts) then Err BadHead
    else (if has_coding (known_fields fields).transfer_encoding then Err TransferCoding
    else within_limit method (announced (lengths fields)))
