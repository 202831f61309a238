-- What is heard of the bytes that have come is what is heard of the whole stream.
use Rattle.std.proofs.Common.{◌≡◌, ℕ, ◌+◌, ◌<◌, ◌≤◌, Bool, true, false, List, [], ◌∷◌, ◌++◌, length, take, drop, Option, None, Some, Result, Ok, Err, refl, sym, ap, subst, ◌∙◌, arith, length-append, length-drop}
use Rattle.std.specs.Prelude.{nat_le, OnErr, if◌then◌else◌}
use Rattle.std.specs.Io.KnownBytes.{Keeps, IsAtEnd, prepend_known}
use Rattle.std.proofs.lemmas.List.{append-nil, take-append-le, drop-append-le}
use Rattle.std.proofs.lemmas.Bool.{le-leb, leb-true, leb-false}
use Rattle.law_http.specs.Cutting.{IsHeadOf, after_empty_lines, head_length}
use Rattle.law_http.specs.Heads.{IsSaid}
use Rattle.law_http.specs.Hearing.{with_body, IsHeardBy, IsHeardFrom, IsHeardOf, IsBodyHeard}
use Rattle.law_http.specs.Streams.{KeepsRequest, IsReady}
use Rattle.law_http.specs.declared.head.Framing.{Framing}
use Rattle.law_http.specs.declared.heard.Heard.{Heard}
use Rattle.law_http.specs.declared.heard.Heard.TheVariants as heard
use Rattle.law_http.specs.declared.refusal.MessageRefusal.{MessageRefusal}
use Rattle.law_http.specs.declared.refusal.MessageRefusal.TheVariants.{Truncated}

-- a request and the bytes behind it, of a stream that has more bytes behind
abbrev pub requested : ℕ → Framing → List ℕ → Heard × List ℕ
requested n f bytes = (heard.Request (record { method = f.method; target = f.target; body = take f.length (drop n bytes); closes = f.closes }), drop (n + f.length) bytes)

abbrev pub made : ℕ → Framing → List ℕ → Bool → Heard × List ℕ
made n f bytes t = if t then requested n f bytes else (heard.Refused Truncated, bytes)

more_behind : (n : ℕ) (f : Framing) (bytes left : List ℕ) → n + f.length ≤ length bytes
    → requested n f (bytes ++ left) ≡ ((requested n f bytes).0, drop (n + f.length) bytes ++ left)
more_behind n f bytes left whole =
    let body : take f.length (drop n (bytes ++ left)) ≡ take f.length (drop n bytes) =
    ap (take f.length) (drop-append-le n bytes left (omega (arith, whole))) ∙ take-append-le f.length (drop n bytes) left (omega (arith, whole, length-drop n bytes)) in
    let behind : drop (n + f.length) (bytes ++ left) ≡ drop (n + f.length) bytes ++ left = drop-append-le (n + f.length) bytes left whole in
    λ i. (heard.Request (record { method = f.method; target = f.target; body = body i; closes = f.closes }), behind i)

heard_whole : (n : ℕ) (f : Framing) (bytes left rest : List ℕ) (h : Heard) → (length bytes < n + f.length → left ≡ [])
    → (h, rest) ≡ with_body n f bytes → (h, rest ++ left) ≡ with_body n f (bytes ++ left)
heard_whole n f bytes left rest h ended is = by_test (nat_le (n + f.length) (length bytes)) refl is
  where
    by_test : (t : Bool) → nat_le (n + f.length) (length bytes) ≡ t → (h, rest) ≡ made n f bytes t → (h, rest ++ left) ≡ with_body n f (bytes ++ left)
    by_test true enough is =
        let whole = leb-true (n + f.length) (length bytes) enough in
        let enough_here : nat_le (n + f.length) (length (bytes ++ left)) ≡ true = le-leb (n + f.length) (length (bytes ++ left)) (omega (arith, whole, length-append bytes left)) in
        ap (λ (p : Heard × List ℕ). (p.0, p.1 ++ left)) is ∙ sym (more_behind n f bytes left whole) ∙ sym (ap (made n f (bytes ++ left)) enough_here)
    by_test false enough is =
        let none : left ≡ [] = ended (leb-false (n + f.length) (length bytes) enough) in
        let same : bytes ++ left ≡ bytes = ap (λ l. bytes ++ l) none ∙ append-nil bytes in
        let behind : rest ++ left ≡ rest = ap (λ l. rest ++ l) none ∙ append-nil rest in
        ap (λ l. (h, l)) behind ∙ is ∙ sym (ap (made n f bytes) enough) ∙ sym (ap (with_body n f) same)

-- by the head that was read and the bytes that came after it
pub body_heard : (n : ℕ) (f : Framing) (h : Heard) (before bytes rest : List ℕ) (left now : Option (List ℕ))
    → IsSaid (take n before) (Ok f) → Keeps (prepend_known before left) (prepend_known bytes now)
    → (length bytes < n + f.length → IsAtEnd now) → (h, rest) ≡ with_body n f bytes
    → IsBodyHeard n (take n before) (prepend_known before left) (prepend_known rest now) h
body_heard n f h before bytes rest None now said kept ended is = tt
body_heard n f h before bytes rest (Some l) None said kept ended is = absurd kept
body_heard n f h before bytes rest (Some l) (Some m) said kept ended is =
    (Ok f, said, heard_whole n f bytes m rest h ended is ∙ ap (with_body n f) kept)

pub heard_from : (bytes : List ℕ) (member : Heard × List ℕ) → 0 < length bytes → IsHeardBy (head_length bytes) bytes member → IsHeardFrom bytes member
heard_from [] member some is = absurd (omega (arith, some))
heard_from (b ∷ bytes) member some is = is

-- where a whole head has come
pub whole_heard : (old : Option (List ℕ)) (bytes rest : List ℕ) (left now : Option (List ℕ)) (n : ℕ) (h : Heard)
    → KeepsRequest old (prepend_known bytes left) → IsReady bytes left → head_length bytes ≡ Ok n → 0 < n → n ≤ length bytes
    → IsBodyHeard n (take n bytes) (prepend_known bytes left) (prepend_known rest now) h
    → IsHeardOf old (prepend_known rest now) h
whole_heard None bytes rest left now n h kept ready found some within is = tt
whole_heard (Some all) bytes rest None now n h kept ready found some within is = absurd kept
whole_heard (Some all) bytes rest (Some l) None n h kept ready found some within is = absurd is
whole_heard (Some all) bytes rest (Some l) (Some m) n h kept ready found some within is =
    let stream = bytes ++ l in
    let begins : stream ≡ after_empty_lines all = sym ready.begins ∙ kept in
    let head : take n stream ≡ take n bytes = take-append-le n bytes l within in
    let (said, holds, made_is) = is in
    let by : IsHeardBy (Ok n) stream (h, rest ++ m) = (said, subst (λ (t : List ℕ). IsSaid t said) (sym head) holds, made_is) in
    let here = heard_from stream (h, rest ++ m) (omega (arith, some, within, length-append bytes l)) (subst (λ r. IsHeardBy r stream (h, rest ++ m)) (sym (ready.head ∙ found)) by) in
    subst (λ (t : List ℕ). IsHeardFrom t (h, rest ++ m)) begins here

-- a head that has come ends within the bytes
pub head_found : (bytes : List ℕ) (head : Result ℕ MessageRefusal) (n : ℕ) → IsHeadOf bytes head → head ≡ Ok n → IsHeadOf bytes (Ok n)
head_found bytes head n has is = subst (IsHeadOf bytes) is has

-- where no head can come
pub refusal_heard : (old : Option (List ℕ)) (bytes : List ℕ) (left : Option (List ℕ)) (refusal : MessageRefusal)
    → KeepsRequest old (prepend_known bytes left) → IsReady bytes left → head_length bytes ≡ Err refusal → 0 < length bytes
    → IsHeardOf old (prepend_known bytes left) (heard.Refused refusal)
refusal_heard None bytes left refusal kept ready found some = tt
refusal_heard (Some all) bytes None refusal kept ready found some = absurd kept
refusal_heard (Some all) bytes (Some l) refusal kept ready found some =
    let stream = bytes ++ l in
    let member : Heard × List ℕ = (heard.Refused refusal, stream) in
    let here = heard_from stream member (omega (arith, some, length-append bytes l)) (subst (λ r. IsHeardBy r stream member) (sym (ready.head ∙ found)) refl) in
    subst (λ (t : List ℕ). IsHeardFrom t member) (sym ready.begins ∙ kept) here

pub on_err_on : {A E P Q : Type 0} (r : Result A E) → (P → Q) → OnErr r P → OnErr r Q
on_err_on (Ok a) on holds = tt
on_err_on (Err e) on holds = on holds
