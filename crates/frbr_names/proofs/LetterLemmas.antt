-- The letters of a language are spelled as the bytes that they are.
use Rattle.std.proofs.Common.{◌≡◌, ◌∙◌, ap, ℕ, true, ◌==◌, ◌<◌, nat_le, List, [], ◌∷◌, ◌++◌, length, encode_utf8_all, refl, arith}
use Rattle.std.specs.List.{list_all}
use Rattle.std.specs.Char.{is_ascii_lowercase}
use Rattle.std.proofs.lemmas.Bool.{and_parts, leb-true}
use Rattle.std.proofs.lemmas.Str.{encode_ascii}
use Rattle.frbr_names.specs.Expressions.{is_language}

lowercase_encoded : (bs : List ℕ) → list_all is_ascii_lowercase bs ≡ true → encode_utf8_all bs ≡ bs
lowercase_encoded [] all = refl
lowercase_encoded (b ∷ bs) all =
    let parts = and_parts (is_ascii_lowercase b) (list_all is_ascii_lowercase bs) all in
    let range = and_parts (nat_le 97 b) (nat_le b 122) parts.0 in
    let small : b < 128 = omega (arith, leb-true b 122 range.1) in
    ap (λ xs. xs ++ encode_utf8_all bs) (encode_ascii b small) ∙ ap (λ xs. b ∷ xs) (lowercase_encoded bs parts.1)

pub letters_encoded : (bs : List ℕ) → is_language bs ≡ true → encode_utf8_all bs ≡ bs
unfolding is_language
letters_encoded bs is = lowercase_encoded bs (and_parts (length bs == 3) (list_all is_ascii_lowercase bs) is).1
