-- What a head says of its request. The grammar is httparse's, which is that of RFC 9112, sections 2 to 5.
use Rattle.std.specs.Prelude.{◌≡◌, ℕ, ◌<◌, ◌≤◌, Bool, ◌||◌, ◌==◌, List, [], length, map, Option, None, Some, Result, Ok, Err, IfOk}
use Rattle.httparse.specs.Grammar.{RequestHead, ReadsRequest}
use Rattle.httparse.specs.Spans.{name_and_value}
use Rattle.http1.specs.Fields.{Header, known_fields}
use Rattle.law_http.specs.Framing.{body_length}
use Rattle.law_http.specs.declared.framing.TheConstants.{MAX_BODY}
use Rattle.law_http.specs.declared.head.TheConstants.{MAX_FIELDS}
use Rattle.law_http.specs.declared.head.Framing.{Framing}
use Rattle.law_http.specs.declared.refusal.MessageRefusal.{MessageRefusal}
use Rattle.law_http.specs.declared.refusal.MessageRefusal.TheVariants.{BadHead}

-- the bytes, as a whole, are this head of at most 64 fields; or there is none that they are
abbrev pub IsHead : List ℕ → Option RequestHead → Type 0
IsHead bytes None = (head : RequestHead) → ReadsRequest bytes head [] → MAX_FIELDS < length head.fields
IsHead bytes (Some head) = ReadsRequest bytes head [] × (length head.fields ≤ MAX_FIELDS)

-- the request but for its body, where the fields give that a length
abbrev pub with_length : List ℕ → List ℕ → Bool → Result ℕ MessageRefusal → Result Framing MessageRefusal
with_length method target closes (Ok n) = Ok (record { method = method; target = target; closes = closes; length = n })
with_length method target closes (Err refusal) = Err refusal

-- the stream is closed after a request of HTTP/1.0, and after one whose Connection fields list `close`
abbrev pub framed : List ℕ → List ℕ → ℕ → List Header → Result Framing MessageRefusal
framed method target minor fields =
    with_length method target ((minor == 0) || (known_fields fields).close) (body_length method minor fields)

-- what a head says, or the refusal
abbrev pub framing : Option RequestHead → Result Framing MessageRefusal
framing None = Err BadHead
framing (Some head) = framed head.method head.target head.minor (map name_and_value head.fields)

-- this is what the bytes say as a head
abbrev pub IsSaid : List ℕ → Result Framing MessageRefusal → Type 0
IsSaid bytes said = (head : Option RequestHead) × IsHead bytes head × (said ≡ framing head)

-- the parts say this
abbrev pub IsFramed : List ℕ → List ℕ → ℕ → List Header → Result Framing MessageRefusal → Type 0
IsFramed method target minor fields said = said ≡ framed method target minor fields

-- the body that is announced is not too long
abbrev pub HasLimit : Result Framing MessageRefusal → Type 0
HasLimit said = IfOk said (λ framing. framing.length ≤ MAX_BODY)
