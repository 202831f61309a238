-- Texts that are the same, and texts among others.
use Rattle.std.proofs.Common.{◌≡◌, ◌∙◌, sym, ℕ, true, false, List, ◌⊎◌, inl, inr}
use Rattle.std.specs.Str.{bytes_eq}
use Rattle.std.proofs.lemmas.Slice.Eq.{bytes_eq-Decides}
use Rattle.std.proofs.lemmas.Bool.{cases_Bool}

pub same_text : (v w : List ℕ) → bytes_eq v w ≡ true → v ≡ w
same_text v w same = (bytes_eq-Decides v w).0 same

pub equal_text : (v w : List ℕ) → v ≡ w → bytes_eq v w ≡ true
equal_text v w same = (bytes_eq-Decides v w).1 same

pub other_text : (v w : List ℕ) → (v ≡ w → ⊥) → bytes_eq v w ≡ false
other_text v w other =
    elim (cases_Bool (bytes_eq v w)) [ inl same ↦ absurd (other (same_text v w same)) | inr told ↦ told ]

pub text_cases : (v w : List ℕ) → (v ≡ w) ⊎ (v ≡ w → ⊥)
text_cases v w =
    elim (cases_Bool (bytes_eq v w)) [ inl same ↦ inl (same_text v w same) | inr told ↦ inr (λ same. absurd (let held : bytes_eq v w ≡ true = equal_text v w same in cc)) ]

pub bytes_eq_sym : (v w : List ℕ) → bytes_eq v w ≡ bytes_eq w v
bytes_eq_sym v w =
    elim (text_cases v w) [
      | inl same ↦ equal_text v w same ∙ sym (equal_text w v (sym same))
      | inr other ↦ other_text v w other ∙ sym (other_text w v (λ same. other (sym same)))
    ]
