-- Behind the end of a stream there is nothing.
use Rattle.std.proofs.Common.{◌≡◌, ℕ, ◌+◌, Bool, true, false, List, [], ◌∷◌, length, take, drop, Result, Ok, Err, sym, ap}
use Rattle.std.specs.Prelude.{◌≢◌, nat_le, if◌then◌else◌}
use Rattle.law_http.specs.Cutting.{after_empty_lines, head_length}
use Rattle.law_http.specs.Hearing.{IsFirstHeard, IsHeardBy, IsHeardFrom, by_framing, request_of}
use Rattle.law_http.specs.declared.head.Framing.{Framing}
use Rattle.law_http.specs.declared.heard.Heard.{Heard}
use Rattle.law_http.specs.declared.heard.Heard.TheVariants as heard
use Rattle.law_http.specs.declared.refusal.MessageRefusal.{MessageRefusal}
use Rattle.law_http.specs.declared.refusal.MessageRefusal.TheVariants.{Truncated}

neither : (t : Bool) (a b : Heard × List ℕ) → a.0 ≢ heard.End → b.0 ≢ heard.End → (if t then a else b).0 ≢ heard.End
neither true a b x y = x
neither false a b x y = y

no_end : (n : ℕ) (said : Result Framing MessageRefusal) (bytes : List ℕ) → (by_framing n said bytes).0 ≢ heard.End
no_end n (Ok f) bytes =
    neither (nat_le (n + f.length) (length bytes)) (heard.Request (request_of f (take f.length (drop n bytes))), drop (n + f.length) bytes) (heard.Refused Truncated, bytes)
    (λ e. cc) (λ e. cc)
no_end n (Err refusal) bytes = λ e. cc

behind_by : (r : Result ℕ MessageRefusal) (bytes rest : List ℕ) → IsHeardBy r bytes (heard.End, rest) → rest ≡ []
behind_by (Ok n) bytes rest (said, holds, is) = absurd (no_end n said bytes (sym (ap (λ (m : Heard × List ℕ). m.0) is)))
behind_by (Err refusal) bytes rest is = absurd (let e : heard.End ≡ heard.Refused refusal = ap (λ (m : Heard × List ℕ). m.0) is in cc)

behind_from : (bytes rest : List ℕ) → IsHeardFrom bytes (heard.End, rest) → rest ≡ []
behind_from [] rest is = ap (λ (m : Heard × List ℕ). m.1) is
behind_from (b ∷ bytes) rest is = behind_by (head_length (b ∷ bytes)) (b ∷ bytes) rest is

pub none_behind : (bytes rest : List ℕ) → IsFirstHeard bytes heard.End rest → rest ≡ []
none_behind bytes rest is = behind_from (after_empty_lines bytes) rest is
