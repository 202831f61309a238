-- What httparse found is what the bytes say as a head.
use Rattle.std.proofs.Common.{◌≡◌, ℕ, ◌≤◌, List, ◌++◌, length, map, take, Some, Ok, Err, Result, ap, ◌∙◌, arith, length-take}
use Rattle.std.specs.Prelude.{IfOk}
use Rattle.std.proofs.lemmas.List.{drop_all, length-map}
use Rattle.httparse.specs.Grammar.{print_request}
use Rattle.httparse.specs.Spans.{IsRequestOf, span_bytes, header_bytes, name_and_value}
use Rattle.httparse.specs.declared.spans.HeaderSpan.{HeaderSpan}
use Rattle.httparse.specs.declared.spans.RequestSpans.{RequestSpans}
use Rattle.law_http.specs.Heads.{IsSaid, framed}
use Rattle.law_http.specs.declared.head.TheConstants.{MAX_FIELDS}
use Rattle.law_http.specs.declared.head.Framing.{Framing}
use Rattle.law_http.specs.declared.refusal.MessageRefusal.{MessageRefusal}

pub head_said : (bytes : List ℕ) (headers : List HeaderSpan) (spans : RequestSpans) (said : Result Framing MessageRefusal)
    → IsRequestOf bytes headers spans → length bytes ≤ spans.len → length headers ≤ MAX_FIELDS
    → said ≡ framed (span_bytes bytes spans.method) (span_bytes bytes spans.path) spans.version (map (header_bytes bytes) (take spans.headers headers))
    → IsSaid bytes said
head_said bytes headers spans said (head, at) whole room is =
    let few : length head.fields ≤ MAX_FIELDS = omega (arith, room, ap length at.fields, length-map (take spans.headers headers) (header_bytes bytes), length-map head.fields name_and_value, length-take spans.headers headers) in
    let reads = at.reads.1 ∙ ap (λ l. print_request head ++ l) (drop_all spans.len bytes (omega (arith, whole))) in
    (Some head, ((at.reads.0, reads), few), is ∙ (λ i. framed (at.method i) (at.path i) (at.version i) (at.fields i)))

pub if_ok_on : {A E : Type 0} {P Q : A → Type 0} (r : Result A E) → ((a : A) → P a → Q a) → IfOk r P → IfOk r Q
if_ok_on (Ok a) on holds = on a holds
if_ok_on (Err e) on holds = tt
