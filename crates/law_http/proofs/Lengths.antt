-- What http1's summary says of one Content-Length field.
use Rattle.std.proofs.Common.{◌≡◌, ℕ, ◌≤◌, Bool, true, false, cond, ◌&&◌, List, [], ◌∷◌, length, refl, sym, ap}
use Rattle.std.specs.Prelude.{codes, nat_le}
use Rattle.std.specs.Str.Parse.{digits_value}
use Rattle.std.proofs.lemmas.Bool.{le-leb}
use Rattle.http1.specs.Fields.{is_number, known_fields}
use Rattle.http1.specs.Text.{eq_ignore_case}
use Rattle.http1.specs.declared.fields.ContentLength.{ContentLength}
use Rattle.http1.specs.declared.fields.ContentLength.TheVariants as http
use Rattle.law_http.specs.declared.framing.TheConstants.{MAX_DIGITS}
use Rattle.law_http.specs.declared.framing.Announced.{Announced}
use Rattle.law_http.specs.declared.framing.Announced.TheVariants.{Bytes, Broken}

abbrev pub number_or_not : List ℕ → Bool → ContentLength
number_or_not v t = cond t (http.Value (digits_value 10 v)) http.Invalid

pub one_field : (v : List ℕ) → (known_fields ((codes "content-length", v) ∷ [])).content_length ≡ number_or_not v (is_number v && true)
unfolding known_fields eq_ignore_case
one_field v = refl

abbrev pub length_or_not : List ℕ → Bool → Announced
length_or_not v t = cond t (Bytes (digits_value 10 v)) Broken

pub is_value : (v : List ℕ) (t : Bool) (n : ℕ) → number_or_not v (t && true) ≡ http.Value n → Bytes n ≡ length_or_not v t
is_value v true n e = ap Bytes (sym (cc e))
is_value v false n e = absurd (cc e)

pub is_no_value : (v : List ℕ) (t : Bool) → ((n : ℕ) → number_or_not v (t && true) ≡ http.Value n → ⊥) → Broken ≡ length_or_not v t
is_no_value v true = λ no. absurd (no (digits_value 10 v) refl)
is_no_value v false = λ _. refl

pub few_digits : (v : List ℕ) → length v ≤ MAX_DIGITS → (nat_le (length v) MAX_DIGITS && is_number v) ≡ is_number v
few_digits v few = ap (λ t. t && is_number v) (le-leb (length v) MAX_DIGITS few)
