-- Where a request begins in a stream, and where its head ends (RFC 9112, sections 2.1 and 2.2).
use Rattle.std.specs.Prelude.{◌≡◌, ◌<◌, ◌≤◌, ℕ, ◌+◌, Bool, true, false, ◌&&◌, ◌==◌, nat_lt, List, [], ◌∷◌, length, take, codes, Option, None, Some, option_map, Result, Ok, Err, IfOk, if◌then◌else◌}
use Rattle.std.specs.List.{starts_with}
use Rattle.law_http.specs.declared.cutting.TheConstants.{MAX_HEAD}
use Rattle.law_http.specs.declared.refusal.MessageRefusal.{MessageRefusal}
use Rattle.law_http.specs.declared.refusal.MessageRefusal.TheVariants.{HeadTooLong, Truncated}

-- the bytes from the place where a request begins: each CR LF before it is passed over
abbrev pub after_empty_lines : List ℕ → List ℕ
after_empty_lines [] = []
after_empty_lines (a ∷ []) = a ∷ []
after_empty_lines (a ∷ b ∷ bytes) = if (a == 13) && (b == 10) then after_empty_lines bytes else a ∷ b ∷ bytes

-- how many bytes go up to and with the first CR LF CR LF
abbrev pub head_end : List ℕ → Option ℕ
head_end [] = None
head_end (a ∷ bytes) =
    if starts_with ◌==◌ (a ∷ bytes) (codes "\r\n\r\n") then Some 4 else option_map (λ n. n + 1) (head_end bytes)

-- the head that ends there, or the refusal where none does
abbrev pub or_refusal : Option ℕ → Bool → Result ℕ MessageRefusal
or_refusal (Some n) ends = Ok n
or_refusal None true = Err Truncated
or_refusal None false = Err HeadTooLong

-- how long the head is: it ends within so many bytes, and these are all the bytes of the stream
abbrev pub head_length : List ℕ → Result ℕ MessageRefusal
head_length bytes = or_refusal (head_end (take MAX_HEAD bytes)) (nat_lt (length bytes) MAX_HEAD)

-- this is how long the head is, which ends within the bytes
pub record IsHeadOf (bytes : List ℕ) (head : Result ℕ MessageRefusal) : Type 0 where
  pub value : head ≡ head_length bytes
  pub within : IfOk head (λ n. (0 < n) × (n ≤ length bytes))
  pub limit : IfOk head (λ n. n ≤ MAX_HEAD)
