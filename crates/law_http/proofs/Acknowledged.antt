-- The response to a command that is accepted, put piece by piece.
use Rattle.std.proofs.Common.{◌≡◌, ℕ, ◌+◌, List, ◌++◌, length, ap, ◌∙◌, append_assoc, length-append, arith}
use Rattle.std.specs.Prelude.{codes}
use Rattle.law_http.specs.Responses.{body_lines}

-- a body is as long as its pieces together
sized : (key digits end : List ℕ) → length key + length digits + length end ≡ length (key ++ digits ++ end)
sized key digits end = omega (arith, length-append (key ++ digits) end, length-append key digits)

pieces : (head key digits end : List ℕ) → head ++ key ++ digits ++ end ≡ head ++ (key ++ digits ++ end)
pieces head key digits end = rw (append_assoc, append_assoc, append_assoc)

-- first lines, the lines about a body of three pieces, and these, each put behind the others
pub laid : (first key digits m lined keyed counted message : List ℕ) (size : ℕ)
    → size ≡ length key + length digits + 1 → m ≡ first → lined ≡ m ++ body_lines size → keyed ≡ lined ++ key
    → counted ≡ keyed ++ digits → message ≡ counted ++ codes "}"
    → message ≡ first ++ body_lines (length (key ++ digits ++ codes "}")) ++ (key ++ digits ++ codes "}")
laid first key digits m lined keyed counted message size sum begun lines keys count end =
    let size_is : size ≡ length (key ++ digits ++ codes "}") = sum ∙ sized key digits (codes "}") in
    let head : lined ≡ first ++ body_lines (length (key ++ digits ++ codes "}")) =
    lines ∙ ap (λ x. x ++ body_lines size) begun ∙ ap (λ n. first ++ body_lines n) size_is in
    let with_key : keyed ≡ (first ++ body_lines (length (key ++ digits ++ codes "}"))) ++ key = keys ∙ ap (λ x. x ++ key) head in
    let with_digits : counted ≡ ((first ++ body_lines (length (key ++ digits ++ codes "}"))) ++ key) ++ digits =
    count ∙ ap (λ x. x ++ digits) with_key in
    end ∙ ap (λ x. x ++ codes "}") with_digits
    ∙ pieces (first ++ body_lines (length (key ++ digits ++ codes "}"))) key digits (codes "}")
