-- What reading does to a stream: the bytes that were read and not used, with those that the link has left.
use Rattle.std.specs.Prelude.{◌≡◌, ℕ, List, [], ◌++◌, Option, None, Some, Result, Ok, Err, option_map, ⊤}
use Rattle.std.specs.Io.KnownBytes.{Keeps, prepend_known}
use Rattle.desk_base.specs.Streams.{risen}
use Rattle.law_http.specs.Cutting.{after_empty_lines, head_length}
use Rattle.law_http.specs.declared.heard.HearFault.{HearFault}
use Rattle.law_http.specs.declared.heard.HearFault.TheVariants.{ReadFault, Memory}

-- a read fails only where the count of faults rose by one, and else that is as it was
abbrev pub HasHearCause : {T : Type 0} → ℕ → ℕ → Result T HearFault → Type 0
HasHearCause before now (Ok value) = now ≡ before
HasHearCause before now (Err ReadFault) = now ≡ risen before
HasHearCause before now (Err Memory) = now ≡ before

-- nothing of a stream is lost but empty lines where a request would begin, where the link tells
abbrev pub KeepsRequest : Option (List ℕ) → Option (List ℕ) → Type 0
KeepsRequest before now = Keeps (option_map after_empty_lines before) (option_map after_empty_lines now)

-- nothing is lost of the bytes that were read, with those that a link has left, where it tells them
abbrev pub KeepsBytes : List ℕ → Option (List ℕ) → List ℕ → Option (List ℕ) → Type 0
KeepsBytes bytes left now later = Keeps (prepend_known bytes left) (prepend_known now later)

-- the same but for empty lines
abbrev pub KeepsStream : List ℕ → Option (List ℕ) → List ℕ → Option (List ℕ) → Type 0
KeepsStream bytes left now later = KeepsRequest (prepend_known bytes left) (prepend_known now later)

-- the bytes that were read stay, with a piece that was read behind them, but for empty lines where a request would begin; so it is
-- of a link that does not tell, too
pub record KeepsWithPiece (old new : List ℕ) : Type 0 where
  pub piece : List ℕ
  pub kept : after_empty_lines new ≡ after_empty_lines (old ++ piece)

-- the bytes begin where the request does, and say of its head what the whole stream says
pub record IsReadyFor (bytes left : List ℕ) : Type 0 where
  pub begins : after_empty_lines (bytes ++ left) ≡ bytes ++ left
  pub head : head_length (bytes ++ left) ≡ head_length bytes
  pub empty : bytes ≡ [] → left ≡ []

-- the same where the link tells what it has left
abbrev pub IsReady : List ℕ → Option (List ℕ) → Type 0
IsReady bytes None = ⊤
IsReady bytes (Some left) = IsReadyFor bytes left
