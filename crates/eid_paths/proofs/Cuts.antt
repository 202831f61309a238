-- A text, cut at its first `_` or at its first `__`.
use Rattle.std.proofs.Common.{◌≡◌, ◌≢◌, ℕ, suc, ◌+◌, ◌<◌, false, ◌==◌, ◌&&◌, List, [], ◌∷◌, ◌++◌, length, take, drop, Option, Some, None, refl, sym, ap, ◌∙◌, subst, arith}
use Rattle.std.specs.Prelude.{option_map, position}
use Rattle.std.specs.List.{onto_first, position_or_len}
use Rattle.std.proofs.lemmas.Bool.Decides.{nat_tests}
use Rattle.std.proofs.lemmas.List.{take-append-drop}
use Rattle.std.proofs.lemmas.Str.Pattern.{IsSplitOnceResult, split_once_first}
use denote.Ref.{Bor}
use Rattle.eid_paths.specs.Levels.{word_and_num}
use Rattle.eid_paths.specs.Parts.{parts_of}

-- what `split_once` gives at `_` is what stands around the first one
pub halves : (text : List ℕ) (r : Option (Bor (List ℕ) × Bor (List ℕ))) → IsSplitOnceResult 95 text r → option_map (λ h. (h.0.now, h.1.now)) r ≡ word_and_num text
halves text None cut =
    let none : position_or_len (λ b. b == 95) text ≡ length text = split_once_first 95 text None cut (omega arith) in
    let same : position (λ b. b == 95) text ≡ None = grind (arith, nat_tests) in
    sym (ap (option_map (λ i. (take i text, drop (i + 1) text))) same)
halves text (Some (word, num)) cut =
    let found = split_once_first 95 text (Some (word, num)) cut (omega arith) in
    let same : position (λ b. b == 95) text ≡ Some (position_or_len (λ b. b == 95) text) = grind (arith, nat_tests) in
    rw (found.1, found.2) (sym (ap (option_map (λ i. (take i text, drop (i + 1) text))) same))

-- two bytes that begin no `__`
no_pair : (b c : ℕ) (text : List ℕ) → ((rest : List ℕ) → b ∷ c ∷ text ≢ 95 ∷ 95 ∷ rest) → (b == 95 && c == 95) ≡ false
no_pair b c text lacks =
    let apart : b ≡ 95 → c ≢ 95 = λ first second. lacks text (ap (λ x. x ∷ c ∷ text) first ∙ ap (λ x. 95 ∷ x ∷ text) second) in
    grind (arith, nat_tests)

-- the bytes of `__` stand nowhere before a place
abbrev pub LacksBefore : ℕ → List ℕ → Type 0
LacksBefore n text = (i : ℕ) → i < n → (rest : List ℕ) → drop i text ≢ 95 ∷ 95 ∷ rest

later : (n b : ℕ) (text : List ℕ) → LacksBefore (suc n) (b ∷ text) → LacksBefore n text
later n b text lacks i below = lacks (suc i) (omega arith)

-- where a text has no `__`, it is its only part
pub one_part : (text : List ℕ) → LacksBefore (length text) text → parts_of text ≡ text ∷ []
one_part [] lacks = refl
one_part (b ∷ []) lacks = refl
one_part (b ∷ c ∷ text) lacks =
    rw (no_pair b c text (lacks 0 (omega arith)))
    (ap (onto_first b) (one_part (c ∷ text) (later (length (c ∷ text)) b (c ∷ text) lacks)))

-- the first part ends at the first `__`
pub first_of : (part rest : List ℕ) → LacksBefore (length part) (part ++ 95 ∷ 95 ∷ rest) → parts_of (part ++ 95 ∷ 95 ∷ rest) ≡ part ∷ parts_of rest
first_of [] rest lacks = refl
first_of (b ∷ []) rest lacks = rw (no_pair b 95 (95 ∷ rest) (lacks 0 (omega arith))) refl
first_of (b ∷ c ∷ part) rest lacks =
    rw (no_pair b c (part ++ 95 ∷ 95 ∷ rest) (lacks 0 (omega arith)))
    (ap (onto_first b) (first_of (c ∷ part) rest (later (length (c ∷ part)) b (c ∷ part ++ 95 ∷ 95 ∷ rest) lacks)))

-- what `split_once` gives at `__` is the first part and what stands behind it
pub first_at : (text part rest : List ℕ) (i j : ℕ) → LacksBefore i text → drop i text ≡ 95 ∷ 95 ∷ drop j text → part ≡ take i text → rest ≡ drop j text → length part ≡ i → parts_of text ≡ part ∷ parts_of rest
first_at text part rest i j lacks there front behind long =
    let whole : part ++ 95 ∷ 95 ∷ rest ≡ text = ap (λ t. t ++ 95 ∷ 95 ∷ rest) front ∙ ap (λ t. take i text ++ 95 ∷ 95 ∷ t) behind ∙ ap (λ t. take i text ++ t) (sym there) ∙ take-append-drop i text in
    let P : List ℕ → Type 0 = λ t. LacksBefore (length part) t → parts_of t ≡ part ∷ parts_of rest in
    subst P whole (first_of part rest) (λ k below. lacks k (omega arith))
