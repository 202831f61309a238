-- What is put is a response of httparse's grammar, with its status, its fields and its body.
use Rattle.std.proofs.Common.{◌≡◌, ℕ, ◌+◌, ◌^◌, ◌<◌, Bool, true, false, List, [], ◌∷◌, ◌++◌, length, reverse, Option, None, Some, refl, sym, ap, subst, ◌∙◌, ◌%◌, arith, append_assoc}
use Rattle.std.specs.Prelude.{codes, not, if◌then◌else◌}
use Rattle.std.specs.List.{list_all}
use Rattle.std.specs.Char.{is_ascii_digit}
use Rattle.std.specs.Fmt.{decimal}
use Rattle.std.proofs.lemmas.Bool.{and_from, and_parts}
use Rattle.std.proofs.lemmas.Fmt.{decimal_by_steps}
use Rattle.std.proofs.lemmas.Grind.{flat_map-append}
use Rattle.std.proofs.lemmas.Bool.Decides.{nat_tests}
use Rattle.std.proofs.lemmas.List.Elements.{All-head, All-weaker}
use Rattle.std.proofs.lemmas.List.Sums.{AllPass-from_list_all, list_all-from_AllPass}
use Rattle.httparse.specs.Grammar.{AllPass, is_token_byte, is_ows, is_value_byte, ReadsResponse}
use Rattle.httparse.proofs.TrimLemmas.{AllPass-reverse}
use Rattle.http1.specs.declared.error.WriteError.TheVariants.{InvalidStartLine, InvalidHeader}
use Rattle.http1.specs.Head.{are_headers, is_trimmed_value, starts_visible, print_header, print_headers, status_digits, response_text, head_refusal, is_status_line}
use Rattle.http1.proofs.HeadLemmas.{response_text_is, are_headers-append}
use Rattle.http1.proofs.HeadRoundTrip.{response_reads_back}
use Rattle.law_http.specs.Responses.{Reply, reply_bytes, status_text, status_number, status_phrase, allow_field, allow_fields, close_field, close_fields, body_lines, body_fields, fields_of, head_of, ReadsBack}
use Rattle.law_http.specs.declared.status.Status.{Status}
use Rattle.law_http.specs.declared.status.Status.TheVariants as status
use Rattle.law_http.specs.declared.status.Allow.{Allow}
use Rattle.law_http.specs.declared.status.Allow.TheVariants.{Get, Post}

-- ---- the value of Content-Length may be sent

all_of_both : (xs ys : List ℕ) → list_all is_ascii_digit xs ≡ true → list_all is_ascii_digit ys ≡ true → list_all is_ascii_digit (xs ++ ys) ≡ true
all_of_both [] ys a b = b
all_of_both (x ∷ xs) ys a b = let (first, later) = and_parts (is_ascii_digit x) (list_all is_ascii_digit xs) a in and_from _ _ first (all_of_both xs ys later b)

digits_all : (n : ℕ) → n < 2 ^ 64 → list_all is_ascii_digit (decimal n) ≡ true
digits_all = decimal_by_steps (λ n ds. list_all is_ascii_digit ds ≡ true)
    (λ n small. and_from _ _ (digit_is n small) refl)
    (λ n ds some before. all_of_both ds _ before (and_from _ _ (last_is n) refl))
  where
    digit_is : (n : ℕ) → n < 10 → is_ascii_digit (48 + n) ≡ true
    digit_is n small = grind (arith, nat_tests)

    last_is : (n : ℕ) → is_ascii_digit (48 + n % 10) ≡ true
    last_is n = grind (arith, nat_tests)

digit_is_visible : (c : ℕ) → is_ascii_digit c ≡ true → (not (is_ows c) ≡ true) × (is_value_byte c ≡ true)
digit_is_visible c digit = grind (arith, nat_tests)

starts : (text : List ℕ) → AllPass is_ascii_digit text → starts_visible text ≡ true
starts [] all = refl
starts (c ∷ cs) all = (digit_is_visible c (All-head (λ b. is_ascii_digit b ≡ true) c cs all)).0

length_may_be_sent : (n : ℕ) → n < 2 ^ 64 → is_trimmed_value (decimal n) ≡ true
length_may_be_sent n fits =
    let text = decimal n in
    let all = AllPass-from_list_all is_ascii_digit text (digits_all n fits) in
    let values = All-weaker (λ b. is_ascii_digit b ≡ true) (λ b. is_value_byte b ≡ true) (λ b digit. (digit_is_visible b digit).1) text all in
    and_from _ _ (starts text all)
    (and_from _ _ (starts (reverse text) (AllPass-reverse is_ascii_digit text all)) (list_all-from_AllPass is_value_byte text values))

-- ---- the lines are those of http1's writer

same_line : (s : Status) → codes "HTTP/1.1 " ++ (status_text s ++ codes "\r\n")
    ≡ codes "HTTP/1." ++ (49 ∷ 32 ∷ (status_digits (status_number s) ++ (32 ∷ (status_phrase s ++ (13 ∷ 10 ∷ [])))))
same_line status.Ok = refl
same_line status.Created = refl
same_line status.BadRequest = refl
same_line status.NotFound = refl
same_line status.MethodNotAllowed = refl
same_line status.Conflict = refl
same_line status.LengthRequired = refl
same_line status.ContentTooLarge = refl
same_line status.FieldsTooLarge = refl
same_line status.InternalServerError = refl
same_line status.NotImplemented = refl
same_line status.ServiceUnavailable = refl

same_allow : (a : Option Allow) → allow_field a ≡ print_headers (allow_fields a)
same_allow None = refl
same_allow (Some Get) = refl
same_allow (Some Post) = refl

same_close : (closes : Bool) → close_field closes ≡ print_headers (close_fields closes)
same_close true = refl
same_close false = refl

three : (d x y z : List ℕ) → d ++ (x ++ (y ++ z)) ≡ ((d ++ x) ++ y) ++ z
three d x y z = simp append_assoc

same_body_lines : (n : ℕ) → body_lines n ≡ print_headers (body_fields n) ++ (13 ∷ 10 ∷ [])
same_body_lines n = ap (λ l. codes "Content-Length: " ++ l) (three (decimal n) (13 ∷ 10 ∷ []) (codes "Content-Type: application/json\r\n") (13 ∷ 10 ∷ []))

regroup : (a s e al cl pb last body : List ℕ) → (((((a ++ s) ++ e) ++ al) ++ cl) ++ (pb ++ last)) ++ body ≡ ((a ++ (s ++ e)) ++ ((al ++ (cl ++ pb)) ++ last)) ++ body
regroup a s e al cl pb last body = simp append_assoc

printed : (r : Reply) → print_headers (fields_of r) ≡ print_headers (allow_fields r.allow) ++ (print_headers (close_fields r.closes) ++ print_headers (body_fields (length r.body)))
printed r =
    flat_map-append print_header (allow_fields r.allow) (close_fields r.closes ++ body_fields (length r.body))
    ∙ ap (λ t. print_headers (allow_fields r.allow) ++ t) (flat_map-append print_header (close_fields r.closes) (body_fields (length r.body)))

same_reply : (r : Reply) → reply_bytes r ≡ response_text 1 (status_number r.status) (status_phrase r.status) (fields_of r) ++ r.body
same_reply r =
    (λ i. (((((codes "HTTP/1.1 " ++ status_text r.status) ++ codes "\r\n") ++ same_allow r.allow i) ++ same_close r.closes i) ++ same_body_lines (length r.body) i) ++ r.body)
    ∙ regroup (codes "HTTP/1.1 ") (status_text r.status) (codes "\r\n") (print_headers (allow_fields r.allow)) (print_headers (close_fields r.closes)) (print_headers (body_fields (length r.body))) (13 ∷ 10 ∷ []) r.body
    ∙ (λ i. (same_line r.status i ++ (sym (printed r) i ++ (13 ∷ 10 ∷ []))) ++ r.body)
    ∙ ap (λ t. t ++ r.body) (response_text_is 1 (status_number r.status) (status_phrase r.status) (fields_of r))

-- ---- the parts may be sent

line_is_sent : (s : Status) → is_status_line 1 (status_number s) (status_phrase s) ≡ true
line_is_sent status.Ok = refl
line_is_sent status.Created = refl
line_is_sent status.BadRequest = refl
line_is_sent status.NotFound = refl
line_is_sent status.MethodNotAllowed = refl
line_is_sent status.Conflict = refl
line_is_sent status.LengthRequired = refl
line_is_sent status.ContentTooLarge = refl
line_is_sent status.FieldsTooLarge = refl
line_is_sent status.InternalServerError = refl
line_is_sent status.NotImplemented = refl
line_is_sent status.ServiceUnavailable = refl

allow_is_sent : (a : Option Allow) → are_headers (allow_fields a) ≡ true
unfolding are_headers is_token_byte
allow_is_sent None = refl
allow_is_sent (Some Get) = refl
allow_is_sent (Some Post) = refl

close_is_sent : (closes : Bool) → are_headers (close_fields closes) ≡ true
unfolding are_headers is_token_byte
close_is_sent true = refl
close_is_sent false = refl

length_is_sent : (n : ℕ) → n < 2 ^ 64 → are_headers (body_fields n) ≡ true
unfolding are_headers is_token_byte
length_is_sent n fits = and_from _ _ (length_may_be_sent n fits) refl

fields_are_sent : (r : Reply) → length r.body < 2 ^ 64 → are_headers (fields_of r) ≡ true
fields_are_sent r fits =
    are_headers-append (allow_fields r.allow) (close_fields r.closes ++ body_fields (length r.body))
    ∙ and_from _ _ (allow_is_sent r.allow)
    (are_headers-append (close_fields r.closes) (body_fields (length r.body)) ∙ and_from _ _ (close_is_sent r.closes) (length_is_sent (length r.body) fits))

accepted : (r : Reply) → length r.body < 2 ^ 64 → head_refusal (is_status_line 1 (status_number r.status) (status_phrase r.status)) (fields_of r) ≡ None
accepted r fits = λ i. if line_is_sent r.status i then (if fields_are_sent r fits i then None else Some InvalidHeader) else Some InvalidStartLine

pub reads_back : (r : Reply) → length r.body < 2 ^ 64 → ReadsBack r
reads_back r fits =
    let back = response_reads_back 1 (status_number r.status) (status_phrase r.status) (fields_of r) r.body (accepted r fits) in record {
      reads = subst (λ (t : List ℕ). ReadsResponse t (head_of r) r.body) (sym (same_reply r)) back.reads;
      status = back.code;
      fields = back.fields;
    }
