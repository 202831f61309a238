-- What is heard of a stream, cut from the whole list of its bytes: requests, and what is no request.
use Rattle.std.specs.Prelude.{◌≡◌, ℕ, ◌+◌, ◌<◌, ◌≤◌, nat_le, IsTrue, IsFalse, List, [], ◌∷◌, ◌++◌, length, take, drop, Option, None, Some, Result, Ok, Err, if◌then◌else◌, ⊤}
use Rattle.law_http.specs.Cutting.{after_empty_lines, head_length}
use Rattle.std.specs.Io.KnownBytes.{prepend_known}
use Rattle.law_http.specs.Heads.{IsSaid}
use Rattle.law_http.specs.declared.head.Framing.{Framing}
use Rattle.law_http.specs.declared.heard.HearFault.{HearFault}
use Rattle.law_http.specs.declared.heard.HearFault.TheVariants as faults
use Rattle.law_http.specs.declared.heard.Request.{Request}
use Rattle.law_http.specs.declared.heard.Heard.{Heard}
use Rattle.law_http.specs.declared.heard.Heard.TheVariants as heard
use Rattle.law_http.specs.declared.refusal.MessageRefusal.{MessageRefusal}
use Rattle.law_http.specs.declared.refusal.MessageRefusal.TheVariants.{Truncated}

-- the request that a head and a body make
abbrev pub request_of : Framing → List ℕ → Request
request_of f body = record { method = f.method; target = f.target; body = body; closes = f.closes }

-- a request whose head is n bytes, with its body behind, and the bytes behind that
abbrev pub with_body : ℕ → Framing → List ℕ → Heard × List ℕ
with_body n f bytes =
    if nat_le (n + f.length) (length bytes)
    then (heard.Request (request_of f (take f.length (drop n bytes))), drop (n + f.length) bytes)
    else (heard.Refused Truncated, bytes)

-- a head of n bytes says this
abbrev pub by_framing : ℕ → Result Framing MessageRefusal → List ℕ → Heard × List ℕ
by_framing n (Ok f) bytes = with_body n f bytes
by_framing n (Err refusal) bytes = (heard.Refused refusal, bytes)

-- the head is n bytes, or there is none
abbrev pub IsHeardBy : Result ℕ MessageRefusal → List ℕ → Heard × List ℕ → Type 0
IsHeardBy (Ok n) bytes member =
    (said : Result Framing MessageRefusal) × IsSaid (take n bytes) said × (member ≡ by_framing n said bytes)
IsHeardBy (Err refusal) bytes member = member ≡ (heard.Refused refusal, bytes)

-- the bytes begin where a request does
abbrev pub IsHeardFrom : List ℕ → Heard × List ℕ → Type 0
IsHeardFrom [] member = member ≡ (heard.End, [])
IsHeardFrom (b ∷ bytes) member = IsHeardBy (head_length (b ∷ bytes)) (b ∷ bytes) member

-- what is heard first of a stream of these bytes, and the bytes behind it; a refusal takes nothing but empty lines
abbrev pub IsFirstHeard : List ℕ → Heard → List ℕ → Type 0
IsFirstHeard bytes heard rest = IsHeardFrom (after_empty_lines bytes) (heard, rest)

-- the same of a link that tells what it has left
abbrev pub IsHeardOf : Option (List ℕ) → Option (List ℕ) → Heard → Type 0
IsHeardOf None now heard = ⊤
IsHeardOf (Some bytes) None heard = ⊥
IsHeardOf (Some bytes) (Some rest) heard = IsFirstHeard bytes heard rest

-- the member and the bytes behind it
abbrev pub Makes : Heard × List ℕ → Heard → List ℕ → Type 0
Makes member heard rest = (heard, rest) ≡ member

-- what a head of n bytes says is heard, where the link tells what it has left
abbrev pub IsBodyHeard : ℕ → List ℕ → Option (List ℕ) → Option (List ℕ) → Heard → Type 0
IsBodyHeard n head None now heard = ⊤
IsBodyHeard n head (Some bytes) None heard = ⊥
IsBodyHeard n head (Some bytes) (Some rest) heard =
    (said : Result Framing MessageRefusal) × IsSaid head said × ((heard, rest) ≡ by_framing n said bytes)

-- the same of the bytes that were read, and of a link before and after
abbrev pub HearsBody : ℕ → List ℕ → Option (List ℕ) → List ℕ → Option (List ℕ) → Heard → Type 0
HearsBody n bytes left now later heard =
    IsBodyHeard n (take n bytes) (prepend_known bytes left) (prepend_known now later) heard

-- what is heard first of bytes that were read and of those that a link has left, before and after
abbrev pub Hears : List ℕ → Option (List ℕ) → List ℕ → Option (List ℕ) → Heard → Type 0
Hears rest left now later heard = IsHeardOf (prepend_known rest left) (prepend_known now later) heard

-- this is heard first of the bytes that were read and of a piece that was read behind them, and the others are behind it; so it is of
-- a link that does not tell, too
pub record HearsWithPiece (old new : List ℕ) (heard : Heard) : Type 0 where
  pub piece : List ℕ
  pub is_first : IsFirstHeard (old ++ piece) heard new

-- the same of what a head of n bytes says
pub record HearsBodyWithPiece (n : ℕ) (old new : List ℕ) (heard : Heard) : Type 0 where
  pub piece : List ℕ
  pub is_heard : IsBodyHeard n (take n old) (Some (old ++ piece)) (Some new) heard

-- a request takes a byte at least
abbrev pub Spends : ℕ → ℕ → Heard → Type 0
Spends before now (heard.Request request) = now < before
Spends before now heard.End = now ≤ before
Spends before now (heard.Refused refusal) = now ≤ before

-- all that is heard of a stream of these bytes, to its end or to the first member after which it is closed
abbrev pub AreHeard : List ℕ → List Heard → Type 0
AreHeard bytes [] = IsFirstHeard bytes heard.End []
AreHeard bytes (heard.Request request ∷ more) =
    (rest : List ℕ) × IsFirstHeard bytes (heard.Request request) rest
    × (IsTrue request.closes → more ≡ []) × (IsFalse request.closes → AreHeard rest more)
AreHeard bytes (heard.End ∷ more) = ⊥
AreHeard bytes (heard.Refused refusal ∷ more) =
    (rest : List ℕ) × IsFirstHeard bytes (heard.Refused refusal) rest × (more ≡ [])

-- what is heard where a stream ends too early for a request: nothing, or a request that is cut short
abbrev pub IsCutShort : Heard → Type 0
IsCutShort (heard.Request request) = ⊥
IsCutShort heard.End = ⊤
IsCutShort (heard.Refused refusal) = refusal ≡ Truncated

-- these bytes hold no whole request, nor anything that is refused before more of them come: were they all the bytes of a
-- stream, it would end too early for one
pub record HoldsNoRequest (bytes : List ℕ) : Type 0 where
  pub member : Heard
  pub behind : List ℕ
  pub is_first : IsFirstHeard bytes member behind
  pub is_cut_short : IsCutShort member

-- where a read failed, what was read holds no whole request
abbrev pub HeldNoRequest : {T : Type 0} → Result T HearFault → List ℕ → Type 0
HeldNoRequest (Ok value) bytes = ⊤
HeldNoRequest (Err faults.ReadFault) bytes = HoldsNoRequest bytes
HeldNoRequest (Err faults.Memory) bytes = ⊤
