-- What a stream keeps from one read to the next.
use Rattle.std.proofs.Common.{◌≡◌, ℕ, ◌<◌, ◌≤◌, List, [], ◌++◌, length, Option, None, Some, Ok, refl, sym, ap, subst, ◌∙◌, arith, append_assoc}
use Rattle.std.specs.Prelude.{option_map, is_err, false, IfOk, Result, Err}
use Rattle.law_http.specs.declared.refusal.MessageRefusal.{MessageRefusal}
use Rattle.std.specs.Io.KnownBytes.{Keeps, Consumes, IsAtEnd, prepend_known}
use Rattle.std.proofs.lemmas.List.{append-nil}
use Rattle.law_http.specs.Cutting.{IsHeadOf, after_empty_lines, head_length}
use Rattle.law_http.specs.Streams.{KeepsRequest, IsReady}
use Rattle.law_http.specs.declared.cutting.TheConstants.{MAX_HEAD}
use Rattle.law_http.proofs.EmptyLines.{after_append, begins_on}
use Rattle.law_http.proofs.HeadEnds.{head_append, head_full, head_long}

pub keeps_same : (a : Option (List ℕ)) → Keeps a a
keeps_same None = tt
keeps_same (Some xs) = refl

pub keeps_then : (a b c : Option (List ℕ)) → Keeps a b → Keeps b c → Keeps a c
keeps_then None b c first second = tt
keeps_then (Some xs) None c first second = absurd first
keeps_then (Some xs) (Some ys) None first second = absurd second
keeps_then (Some xs) (Some ys) (Some zs) first second = second ∙ first

-- bytes in front change nothing
pub keeps_behind : (bytes : List ℕ) (a b : Option (List ℕ)) → Keeps a b → Keeps (prepend_known bytes a) (prepend_known bytes b)
keeps_behind bytes None b kept = tt
keeps_behind bytes (Some xs) None kept = absurd kept
keeps_behind bytes (Some xs) (Some ys) kept = ap (λ l. bytes ++ l) kept

-- a piece goes from what is left behind what was read
pub keeps_piece : (bytes piece : List ℕ) (old new : Option (List ℕ)) → Consumes old new piece → Keeps (prepend_known bytes old) (prepend_known (bytes ++ piece) new)
keeps_piece bytes piece None new read = tt
keeps_piece bytes piece (Some xs) None read = absurd read
keeps_piece bytes piece (Some xs) (Some ys) read = append_assoc bytes piece ys ∙ sym (ap (λ l. bytes ++ l) read)

pub keeps_request : (a b : Option (List ℕ)) → Keeps a b → KeepsRequest a b
keeps_request None b kept = tt
keeps_request (Some xs) None kept = absurd kept
keeps_request (Some xs) (Some ys) kept = ap after_empty_lines kept

pub keeps_skipped : (bytes : List ℕ) (left : Option (List ℕ)) → KeepsRequest (prepend_known bytes left) (prepend_known (after_empty_lines bytes) left)
keeps_skipped bytes None = tt
keeps_skipped bytes (Some ys) = after_append bytes ys

pub request_then : (a b c : Option (List ℕ)) → KeepsRequest a b → KeepsRequest b c → KeepsRequest a c
request_then a b c first second = keeps_then (option_map after_empty_lines a) (option_map after_empty_lines b) (option_map after_empty_lines c) first second

not_empty : (bytes left : List ℕ) → 2 ≤ length bytes → bytes ≡ [] → left ≡ []
not_empty bytes left long none = absurd (omega (arith, long, ap length none))

-- a whole head has come
pub ready_found : (bytes : List ℕ) (left : Option (List ℕ)) (n : ℕ) → after_empty_lines bytes ≡ bytes → head_length bytes ≡ Ok n → IsReady bytes left
ready_found bytes None n begins found = tt
ready_found bytes (Some left) n begins found = record {
  begins = begins_on bytes left begins (head_long bytes n found);
  head = head_append bytes left n found ∙ sym found;
  empty = not_empty bytes left (head_long bytes n found);
}

-- as many bytes have come as a head may have
pub ready_full : (bytes : List ℕ) (left : Option (List ℕ)) → after_empty_lines bytes ≡ bytes → MAX_HEAD ≤ length bytes → IsReady bytes left
ready_full bytes None begins full = tt
ready_full bytes (Some left) begins full = record {
  begins = begins_on bytes left begins (omega (arith, full));
  head = head_full bytes left full;
  empty = not_empty bytes left (omega (arith, full));
}

-- the stream has ended
pub ready_ended : (bytes : List ℕ) (left : Option (List ℕ)) → after_empty_lines bytes ≡ bytes → IsAtEnd left → IsReady bytes left
ready_ended bytes None begins ended = tt
ready_ended bytes (Some left) begins ended =
    let whole : bytes ++ left ≡ bytes = ap (λ l. bytes ++ l) ended ∙ append-nil bytes in record {
      begins = ap after_empty_lines whole ∙ begins ∙ sym whole;
      head = ap head_length whole;
      empty = λ _. ended;
    }

-- how long the head is of a slice of the bytes
pub head_of : (slice bytes : List ℕ) (head : Result ℕ MessageRefusal) → slice ≡ bytes → head ≡ head_length slice
    → IfOk head (λ n. (0 < n) × (n ≤ length slice)) → IfOk head (λ n. n ≤ MAX_HEAD) → IsHeadOf bytes head
head_of slice bytes head same value within limit =
    subst (λ (l : List ℕ). IsHeadOf l head) same (record { value = value; within = within; limit = limit })

pub found_where : (r : Result ℕ MessageRefusal) → is_err r ≡ false → (n : ℕ) × (r ≡ Ok n)
found_where (Ok n) e = (n, refl)
found_where (Err refusal) e = absurd (cc e)
