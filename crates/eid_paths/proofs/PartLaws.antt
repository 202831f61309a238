-- Parts that are joined by `__`, and cut there again.
use Rattle.std.proofs.Common.{◌≡◌, ℕ, ◌<◌, Bool, true, false, not, cond, ◌==◌, ◌&&◌, List, [], ◌∷◌, ◌++◌, length, refl, sym, ap, ◌∙◌, arith}
use Rattle.std.specs.List.{onto_first}
use Rattle.std.proofs.lemmas.Bool.Decides.{nat_tests}
use Rattle.eid_paths.specs.Parts.{parts_of}

-- no `__` stands in a text, nor does it end in `_`
abbrev pub is_whole : List ℕ → Bool
is_whole [] = true
is_whole (b ∷ []) = not (b == 95)
is_whole (b ∷ c ∷ text) = not (b == 95 && c == 95) && is_whole (c ∷ text)

whole_first : (b : Bool) (rest : Bool) → (not b && rest) ≡ true → b ≡ false
whole_first true rest whole = cc
whole_first false rest whole = refl

whole_rest : (b : Bool) (rest : Bool) → (not b && rest) ≡ true → rest ≡ true
whole_rest true rest whole = cc
whole_rest false rest whole = whole

last_is_none : (b : Bool) → not b ≡ true → (b && true) ≡ false
last_is_none true whole = cc
last_is_none false whole = refl

-- such a text is its only part
pub whole_alone : (text : List ℕ) → is_whole text ≡ true → parts_of text ≡ text ∷ []
whole_alone [] whole = refl
whole_alone (b ∷ []) whole = refl
whole_alone (b ∷ c ∷ text) whole =
    rw (whole_first (b == 95 && c == 95) (is_whole (c ∷ text)) whole)
    (ap (onto_first b) (whole_alone (c ∷ text) (whole_rest (b == 95 && c == 95) (is_whole (c ∷ text)) whole)))

-- and the first part of what begins with it and `__`
pub whole_in_front : (text rest : List ℕ) → is_whole text ≡ true → parts_of (text ++ 95 ∷ 95 ∷ rest) ≡ text ∷ parts_of rest
whole_in_front [] rest whole = refl
whole_in_front (b ∷ []) rest whole = rw (last_is_none (b == 95) whole) refl
whole_in_front (b ∷ c ∷ text) rest whole =
    rw (whole_first (b == 95 && c == 95) (is_whole (c ∷ text)) whole)
    (ap (onto_first b) (whole_in_front (c ∷ text) rest (whole_rest (b == 95 && c == 95) (is_whole (c ∷ text)) whole)))

-- parts, each behind a `__`
abbrev pub behind_parts : List (List ℕ) → List ℕ
behind_parts [] = []
behind_parts (part ∷ parts) = 95 ∷ 95 ∷ (part ++ behind_parts parts)

-- parts with `__` between them
abbrev pub joined : List (List ℕ) → List ℕ
joined [] = []
joined (part ∷ parts) = part ++ behind_parts parts

joined-onto_first : (b : ℕ) (parts : List (List ℕ)) → joined (onto_first b parts) ≡ b ∷ joined parts
joined-onto_first b [] = refl
joined-onto_first b (part ∷ parts) = refl

some_first : (b : ℕ) (parts : List (List ℕ)) → 0 < length (onto_first b parts)
some_first b [] = omega arith
some_first b (part ∷ parts) = omega arith

-- a text has at least one part
pub some_part : (text : List ℕ) → 0 < length (parts_of text)
some_part [] = omega arith
some_part (b ∷ []) = omega arith
some_part (b ∷ c ∷ text) =
    let first = some_first b (parts_of (c ∷ text)) in
    elim (b == 95 && c == 95) as (λ t. 0 < length (cond t ([] ∷ parts_of text) (onto_first b (parts_of (c ∷ text))))) [ true ↦ omega arith | false ↦ first ]

joined-empty : (parts : List (List ℕ)) → 0 < length parts → joined ([] ∷ parts) ≡ 95 ∷ 95 ∷ joined parts
joined-empty [] some = absurd (omega arith)
joined-empty (part ∷ parts) some = refl

both_underscores : (b c : ℕ) → (b == 95 && c == 95) ≡ true → (b ≡ 95) × (c ≡ 95)
both_underscores b c both = grind (arith, nat_tests)

-- the parts of a text, with `__` between them, are the text
pub joined-parts_of : (text : List ℕ) → joined (parts_of text) ≡ text
joined-parts_of [] = refl
joined-parts_of (b ∷ []) = refl
joined-parts_of (b ∷ c ∷ text) =
    let cut = joined-empty (parts_of text) (some_part text) ∙ ap (λ t. 95 ∷ 95 ∷ t) (joined-parts_of text) in
    let kept = joined-onto_first b (parts_of (c ∷ text)) ∙ ap (λ t. b ∷ t) (joined-parts_of (c ∷ text)) in
    let pair = both_underscores b c in
    elim (b == 95 && c == 95) as (λ t. (t ≡ true → (b ≡ 95) × (c ≡ 95)) → joined (cond t ([] ∷ parts_of text) (onto_first b (parts_of (c ∷ text)))) ≡ b ∷ c ∷ text) [
      | true ↦ λ are. let them = are refl in cut ∙ ap (λ x. x ∷ 95 ∷ text) (sym them.0) ∙ ap (λ x. b ∷ x ∷ text) (sym them.1)
      | false ↦ λ are. kept
    ] pair
