-- Texts that were read keep their rule, and one that breaks it is a broken field.
use Rattle.std.proofs.Common.{◌≡◌, ℕ, Bool, true, false, List, length, Ok, Err, if◌then◌else◌, refl, sym, ap, ◌∙◌}
use Rattle.std.specs.Prelude.{is_ok}
use Rattle.std.specs.Str.{IsUtf8, is_utf8}
use Rattle.std.proofs.lemmas.Str.{IsUtf8-from_is_utf8, is_utf8-from_IsUtf8}
use Rattle.frbr_names.specs.Works.{Work, work_of}
use Rattle.frbr_names.proofs.WorkLemmas.{work_spelled}
use Rattle.entry_codec.specs.Reads.{Read, ◌>>=◌}
use Rattle.entry_codec.specs.Fields.{chunk_read}
use Rattle.entry_codec.specs.Values.{text_of, ruled_text, is_work}

-- a text that was read, where it keeps its rule
abbrev chosen : List ℕ → List ℕ → ℕ → Bool → Read (List ℕ)
chosen front rest start kept = if kept then Ok (front, rest) else Err start

abbrev then_test : (List ℕ → Bool) → ℕ → Read (List ℕ) → Read (List ℕ)
then_test rule start reading = reading >>= λ v. if rule v.0 then Ok v else Err start

pub text_read : (n : ℕ) (bytes front rest t : List ℕ) → chunk_read n bytes ≡ Ok (front, rest) → t ≡ front → IsUtf8 front
    → (text_of n).read bytes ≡ Ok (t, rest)
unfolding text_of
text_read n bytes front rest t e same utf8 =
    ap (then_test is_utf8 (length bytes)) e
    ∙ ap (chosen front rest (length bytes)) (is_utf8-from_IsUtf8 front utf8)
    ∙ ap (λ x. Ok (x, rest)) (sym same)

pub text_broken : (n : ℕ) (bytes front rest : List ℕ) → chunk_read n bytes ≡ Ok (front, rest) → (IsUtf8 front → ⊥)
    → (text_of n).read bytes ≡ Err (length bytes)
unfolding text_of
text_broken n bytes front rest e never = ap (then_test is_utf8 (length bytes)) e ∙ by (is_utf8 front) refl
  where
    by : (b : Bool) → is_utf8 front ≡ b → chosen front rest (length bytes) b ≡ Err (length bytes)
    by true is = absurd (never (IsUtf8-from_is_utf8 front is))
    by false is = refl

-- a text that keeps its rule is read where its bytes come
pub ruled_read : (rule : List ℕ → Bool) (n : ℕ) (bytes t rest : List ℕ) → chunk_read n bytes ≡ Ok (t, rest) → IsUtf8 t → rule t ≡ true
    → (ruled_text rule n).read bytes ≡ Ok (t, rest)
ruled_read rule n bytes t rest e utf8 kept =
    ap (then_test rule (length bytes)) (text_read n bytes t rest t e refl utf8)
    ∙ ap (chosen t rest (length bytes)) kept

-- what is read as the IRI of a work says its own text
pub own_text : (t : List ℕ) (w : Work) → work_of t ≡ Ok w → w.text ≡ t
own_text t w found = let spells = work_spelled t w found in ap (λ w. w.text) spells.same ∙ sym spells.spelled

pub work_read : (n : ℕ) (bytes t rest : List ℕ) (w : Work) → (text_of n).read bytes ≡ Ok (t, rest) → work_of t ≡ Ok w
    → (ruled_text is_work n).read bytes ≡ Ok (w.text, rest)
work_read n bytes t rest w e found =
    ap (then_test is_work (length bytes)) e
    ∙ ap (λ r. chosen t rest (length bytes) (is_ok r)) found
    ∙ ap (λ x. Ok (x, rest)) (sym (own_text t w found))
