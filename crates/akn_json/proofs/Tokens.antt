-- A text has at most one token more than it has bytes.
use Rattle.std.proofs.Common.{◌≡◌, ℕ, suc, ◌+◌, ◌≤◌, Bool, true, false, List, [], ◌∷◌, length, arith}
use Rattle.json.specs.Token.{Token}
use Rattle.json.specs.Lex.{Lexeme, token, comma, colon, Class, quote, backslash, operator, space, other, class, Mode, between, in_word, in_string, in_escape, lex_byte, lex, Place, fresh, after_value, after_comma, after_key, may_begin, may_close, begins_colon, if_allowed, place_token, punctuate, tokens}

byte-le : (m : Mode) (c : Class) (x : ℕ) (xs : List ℕ) (k : Mode → List Lexeme) (n : ℕ) → ((next : Mode) → length (k next) ≤ n)
    → length (lex_byte m c x xs k) ≤ suc n
byte-le between quote x xs k n h = omega (arith, h in_string)
byte-le between backslash x xs k n h = omega (arith, h in_word)
byte-le between operator x xs k n h = omega (arith, h between)
byte-le between space x xs k n h = omega (arith, h between)
byte-le between other x xs k n h = omega (arith, h in_word)
byte-le in_word quote x xs k n h = omega (arith, h in_word)
byte-le in_word backslash x xs k n h = omega (arith, h in_word)
byte-le in_word operator x xs k n h = omega (arith, h between)
byte-le in_word space x xs k n h = omega (arith, h between)
byte-le in_word other x xs k n h = omega (arith, h in_word)
byte-le in_string quote x xs k n h = omega (arith, h between)
byte-le in_string backslash x xs k n h = omega (arith, h in_escape)
byte-le in_string operator x xs k n h = omega (arith, h in_string)
byte-le in_string space x xs k n h = omega (arith, h in_string)
byte-le in_string other x xs k n h = omega (arith, h in_string)
byte-le in_escape c x xs k n h = omega (arith, h in_string)

lex-le : (m : Mode) (xs : List ℕ) → length (lex m xs) ≤ length xs
unfolding lex
lex-le m [] = omega arith
lex-le m (x ∷ xs) = byte-le m (class x) x xs (λ next. lex next xs) (length xs) (λ next. lex-le next xs)

allowed-le : (b : Bool) (t : Token) (k : Place → List Token) (next : Place) (n : ℕ) → length (k next) ≤ n → length (if_allowed b t k next) ≤ suc n
allowed-le true t k next n h = omega (arith, h)
allowed-le false t k next n h = omega arith

placed-le : (p : Place) (t : Token) (b : Bool) (k : Place → List Token) (n : ℕ) → ((next : Place) → length (k next) ≤ n)
    → length (place_token p t b k) ≤ suc n
placed-le p Token.begin_object b k n h = allowed-le (may_begin p) Token.begin_object k fresh n (h fresh)
placed-le p Token.end_object b k n h = allowed-le (may_close p) Token.end_object k after_value n (h after_value)
placed-le p Token.begin_array b k n h = allowed-le (may_begin p) Token.begin_array k fresh n (h fresh)
placed-le p Token.end_array b k n h = allowed-le (may_close p) Token.end_array k after_value n (h after_value)
placed-le p (Token.key s) b k n h = omega arith
placed-le p (Token.string s) true k n h = allowed-le (may_begin p) (Token.key s) k after_key n (h after_key)
placed-le p (Token.string s) false k n h = allowed-le (may_begin p) (Token.string s) k after_value n (h after_value)
placed-le p (Token.number s) b k n h = allowed-le (may_begin p) (Token.number s) k after_value n (h after_value)
placed-le p (Token.boolean c) b k n h = allowed-le (may_begin p) (Token.boolean c) k after_value n (h after_value)
placed-le p Token.null b k n h = allowed-le (may_begin p) Token.null k after_value n (h after_value)
placed-le p Token.bad b k n h = omega arith

punctuate-le : (p : Place) (ls : List Lexeme) → length (punctuate p ls) ≤ suc (length ls)
unfolding punctuate
punctuate-le fresh [] = omega arith
punctuate-le after_value [] = omega arith
punctuate-le after_comma [] = omega arith
punctuate-le after_key [] = omega arith
punctuate-le fresh (token t ∷ ls) = placed-le fresh t (begins_colon ls) (λ next. punctuate next ls) (suc (length ls)) (λ next. punctuate-le next ls)
punctuate-le after_value (token t ∷ ls) = placed-le after_value t (begins_colon ls) (λ next. punctuate next ls) (suc (length ls)) (λ next. punctuate-le next ls)
punctuate-le after_comma (token t ∷ ls) = placed-le after_comma t (begins_colon ls) (λ next. punctuate next ls) (suc (length ls)) (λ next. punctuate-le next ls)
punctuate-le after_key (token t ∷ ls) = placed-le after_key t (begins_colon ls) (λ next. punctuate next ls) (suc (length ls)) (λ next. punctuate-le next ls)
punctuate-le fresh (comma ∷ ls) = omega arith
punctuate-le after_value (comma ∷ ls) = omega (arith, punctuate-le after_comma ls)
punctuate-le after_comma (comma ∷ ls) = omega arith
punctuate-le after_key (comma ∷ ls) = omega arith
punctuate-le fresh (colon ∷ ls) = omega arith
punctuate-le after_value (colon ∷ ls) = omega arith
punctuate-le after_comma (colon ∷ ls) = omega arith
punctuate-le after_key (colon ∷ ls) = omega (arith, punctuate-le fresh ls)

pub tokens-le : (text : List ℕ) → length (tokens text) ≤ suc (length text)
tokens-le text = omega (arith, punctuate-le fresh (lex between text), lex-le between text)
