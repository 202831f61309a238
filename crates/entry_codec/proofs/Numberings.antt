-- A numbering is told by its number, and an element by its place.
use Rattle.std.proofs.Common.{◌≡◌, ℕ, zero, suc, ◌+◌, ◌*◌, ◌/◌, ◌%◌, ◌<◌, ◌==◌, Bool, true, false, if◌then◌else◌, List, [], ◌∷◌, ◌++◌, length, map, Option, Some, None, Ok, refl, sym, ap, subst, ◌∙◌, arith}
use Rattle.std.specs.Prelude.{nat_lt, slice_get}
use Rattle.std.specs.List.{list_all}
use Rattle.std.specs.Int.{w16}
use Rattle.std.proofs.lemmas.Bool.{and_parts, ltb-true, eqb-true}
use Rattle.eid_paths.specs.Elements.{all_elements, element_place}
use Rattle.eid_paths.specs.declared.element.Element.{Element}
use Rattle.eid_paths.specs.declared.element.Element.TheVariants.{Article, Section, Chapter, Paragraph, Subparagraph, Subsection, Clause, Subclause, Alinea, Part, Title, Book, Point, Indent}
use Rattle.eid_paths.specs.declared.numbering.Numbering.{Numbering}
use Rattle.entry_codec.specs.Fields.{tested}
use Rattle.entry_codec.specs.Values.{bits, has_bit, numbering_from, numbering_number, numbering, number16}
use Rattle.entry_codec.specs.Nodes.{element, or_broken}
use Rattle.entry_codec.proofs.Exact.{AreBytes, Taken, IsExact, is_byte, ok_is, some_is, made_exact, tested_exact, number_exact, wide16}

-- the element of a place has that place
place_at : (k : ℕ) (e : Element) → slice_get all_elements k ≡ Some e → element_place e ≡ k
place_at zero e h = ap element_place (sym (some_is Article e h))
place_at (suc zero) e h = ap element_place (sym (some_is Section e h))
place_at (suc (suc zero)) e h = ap element_place (sym (some_is Chapter e h))
place_at (suc (suc (suc zero))) e h = ap element_place (sym (some_is Paragraph e h))
place_at (suc (suc (suc (suc zero)))) e h = ap element_place (sym (some_is Subparagraph e h))
place_at (suc (suc (suc (suc (suc zero))))) e h = ap element_place (sym (some_is Subsection e h))
place_at (suc (suc (suc (suc (suc (suc zero)))))) e h = ap element_place (sym (some_is Clause e h))
place_at (suc (suc (suc (suc (suc (suc (suc zero))))))) e h = ap element_place (sym (some_is Subclause e h))
place_at (suc (suc (suc (suc (suc (suc (suc (suc zero)))))))) e h = ap element_place (sym (some_is Alinea e h))
place_at (suc (suc (suc (suc (suc (suc (suc (suc (suc zero))))))))) e h = ap element_place (sym (some_is Part e h))
place_at (suc (suc (suc (suc (suc (suc (suc (suc (suc (suc zero)))))))))) e h = ap element_place (sym (some_is Title e h))
place_at (suc (suc (suc (suc (suc (suc (suc (suc (suc (suc (suc zero))))))))))) e h = ap element_place (sym (some_is Book e h))
place_at (suc (suc (suc (suc (suc (suc (suc (suc (suc (suc (suc (suc zero)))))))))))) e h = ap element_place (sym (some_is Point e h))
place_at (suc (suc (suc (suc (suc (suc (suc (suc (suc (suc (suc (suc (suc zero))))))))))))) e h = ap element_place (sym (some_is Indent e h))
place_at (suc (suc (suc (suc (suc (suc (suc (suc (suc (suc (suc (suc (suc (suc k)))))))))))))) e h = absurd cc

at_place : (e : Element) → slice_get all_elements (element_place e) ≡ Some e
at_place Article = refl
at_place Section = refl
at_place Chapter = refl
at_place Paragraph = refl
at_place Subparagraph = refl
at_place Subsection = refl
at_place Clause = refl
at_place Subclause = refl
at_place Alinea = refl
at_place Part = refl
at_place Title = refl
at_place Book = refl
at_place Point = refl
at_place Indent = refl

element_takes : (bytes : List ℕ) (v : Element) (rest : List ℕ) → AreBytes bytes → element.read bytes ≡ Ok (v, rest)
    → Taken bytes (element_place v ∷ []) rest true
unfolding element
element_takes [] v rest are e = absurd cc
element_takes (b ∷ bs) v rest are e = by (slice_get all_elements b) refl e
  where
    by : (o : Option Element) → slice_get all_elements b ≡ o → or_broken (length (b ∷ bs)) o bs ≡ Ok (v, rest)
        → Taken (b ∷ bs) (element_place v ∷ []) rest true
    by None found read = absurd cc
    by (Some x) found read =
        subst (λ (p : Element × List ℕ). Taken (b ∷ bs) (element_place p.0 ∷ []) p.1 true) (ok_is (x, bs) (v, rest) read)
        (record { parts = ap (λ k. k ∷ bs) (sym (place_at b x found)); left = (and_parts (is_byte b) (list_all is_byte bs) are).1; fits = refl })

element_again : (v : Element) (rest : List ℕ) → element.fits v ≡ true → element.read (element.spell v ++ rest) ≡ Ok (v, rest)
unfolding element
element_again v rest fits = ap (λ o. or_broken (length (element_place v ∷ rest)) o rest) (at_place v)

pub element_exact : IsExact element
unfolding element
element_exact = record { takes = element_takes; again = element_again }

pub number16_exact : IsExact number16
unfolding number16
number16_exact = number_exact w16 wide16

-- a bit of a number, by what is left of it
bit_is : (r w : ℕ) → r < 2 → (if r == 1 then w else 0) ≡ w * r
bit_is zero w lt = omega arith
bit_is (suc zero) w lt = omega arith
bit_is (suc (suc r)) w lt = absurd (omega arith)

total : (q0 q1 q2 q3 q4 q5 q6 q7 q8 q9 q10 q11 q12 q13 q14 r0 r1 r2 r3 r4 r5 r6 r7 r8 r9 r10 r11 r12 r13 : ℕ) → q0 ≡ 2 * q1 + r0 → q1 ≡ 2 * q2 + r1 → q2 ≡ 2 * q3 + r2 → q3 ≡ 2 * q4 + r3 → q4 ≡ 2 * q5 + r4 → q5 ≡ 2 * q6 + r5 → q6 ≡ 2 * q7 + r6 → q7 ≡ 2 * q8 + r7 → q8 ≡ 2 * q9 + r8 → q9 ≡ 2 * q10 + r9 → q10 ≡ 2 * q11 + r10 → q11 ≡ 2 * q12 + r11 → q12 ≡ 2 * q13 + r12 → q13 ≡ 2 * q14 + r13 → q14 ≡ 0
    → 1 * r0 + 2 * r1 + 4 * r2 + 8 * r3 + 16 * r4 + 32 * r5 + 64 * r6 + 128 * r7 + 256 * r8 + 512 * r9 + 1024 * r10 + 2048 * r11 + 4096 * r12 + 8192 * r13 ≡ q0
total q0 q1 q2 q3 q4 q5 q6 q7 q8 q9 q10 q11 q12 q13 q14 r0 r1 r2 r3 r4 r5 r6 r7 r8 r9 r10 r11 r12 r13 h0 h1 h2 h3 h4 h5 h6 h7 h8 h9 h10 h11 h12 h13 top = omega arith

half0 : (n : ℕ) → n / 1 ≡ 2 * (n / 2) + n / 1 % 2
half0 n = omega arith

half1 : (n : ℕ) → n / 2 ≡ 2 * (n / 4) + n / 2 % 2
half1 n = omega arith

half2 : (n : ℕ) → n / 4 ≡ 2 * (n / 8) + n / 4 % 2
half2 n = omega arith

half3 : (n : ℕ) → n / 8 ≡ 2 * (n / 16) + n / 8 % 2
half3 n = omega arith

half4 : (n : ℕ) → n / 16 ≡ 2 * (n / 32) + n / 16 % 2
half4 n = omega arith

half5 : (n : ℕ) → n / 32 ≡ 2 * (n / 64) + n / 32 % 2
half5 n = omega arith

half6 : (n : ℕ) → n / 64 ≡ 2 * (n / 128) + n / 64 % 2
half6 n = omega arith

half7 : (n : ℕ) → n / 128 ≡ 2 * (n / 256) + n / 128 % 2
half7 n = omega arith

half8 : (n : ℕ) → n / 256 ≡ 2 * (n / 512) + n / 256 % 2
half8 n = omega arith

half9 : (n : ℕ) → n / 512 ≡ 2 * (n / 1024) + n / 512 % 2
half9 n = omega arith

half10 : (n : ℕ) → n / 1024 ≡ 2 * (n / 2048) + n / 1024 % 2
half10 n = omega arith

half11 : (n : ℕ) → n / 2048 ≡ 2 * (n / 4096) + n / 2048 % 2
half11 n = omega arith

half12 : (n : ℕ) → n / 4096 ≡ 2 * (n / 8192) + n / 4096 % 2
half12 n = omega arith

half13 : (n : ℕ) → n / 8192 ≡ 2 * (n / 16384) + n / 8192 % 2
half13 n = omega arith

small : (n : ℕ) → n % 2 < 2
small n = omega arith

top : (n : ℕ) → n < 16384 → n / 16384 ≡ 0
top n lt = omega arith

whole : (n : ℕ) → n / 1 ≡ n
whole n = omega arith

abbrev summed : ℕ → ℕ → ℕ → ℕ → ℕ → ℕ → ℕ → ℕ → ℕ → ℕ → ℕ → ℕ → ℕ → ℕ → ℕ
summed c0 c1 c2 c3 c4 c5 c6 c7 c8 c9 c10 c11 c12 c13 = c0 + c1 + c2 + c3 + c4 + c5 + c6 + c7 + c8 + c9 + c10 + c11 + c12 + c13

numbered : (n : ℕ) → n < 16384 → numbering_number (numbering_from n) ≡ n
unfolding numbering_number
numbered n lt =
    ap (λ x. summed x (if n / 2 % 2 == 1 then 2 else 0) (if n / 4 % 2 == 1 then 4 else 0) (if n / 8 % 2 == 1 then 8 else 0) (if n / 16 % 2 == 1 then 16 else 0) (if n / 32 % 2 == 1 then 32 else 0) (if n / 64 % 2 == 1 then 64 else 0) (if n / 128 % 2 == 1 then 128 else 0) (if n / 256 % 2 == 1 then 256 else 0) (if n / 512 % 2 == 1 then 512 else 0) (if n / 1024 % 2 == 1 then 1024 else 0) (if n / 2048 % 2 == 1 then 2048 else 0) (if n / 4096 % 2 == 1 then 4096 else 0) (if n / 8192 % 2 == 1 then 8192 else 0)) (bit_is (n / 1 % 2) 1 (small (n / 1)))
    ∙ ap (λ x. summed (1 * (n / 1 % 2)) x (if n / 4 % 2 == 1 then 4 else 0) (if n / 8 % 2 == 1 then 8 else 0) (if n / 16 % 2 == 1 then 16 else 0) (if n / 32 % 2 == 1 then 32 else 0) (if n / 64 % 2 == 1 then 64 else 0) (if n / 128 % 2 == 1 then 128 else 0) (if n / 256 % 2 == 1 then 256 else 0) (if n / 512 % 2 == 1 then 512 else 0) (if n / 1024 % 2 == 1 then 1024 else 0) (if n / 2048 % 2 == 1 then 2048 else 0) (if n / 4096 % 2 == 1 then 4096 else 0) (if n / 8192 % 2 == 1 then 8192 else 0)) (bit_is (n / 2 % 2) 2 (small (n / 2)))
    ∙ ap (λ x. summed (1 * (n / 1 % 2)) (2 * (n / 2 % 2)) x (if n / 8 % 2 == 1 then 8 else 0) (if n / 16 % 2 == 1 then 16 else 0) (if n / 32 % 2 == 1 then 32 else 0) (if n / 64 % 2 == 1 then 64 else 0) (if n / 128 % 2 == 1 then 128 else 0) (if n / 256 % 2 == 1 then 256 else 0) (if n / 512 % 2 == 1 then 512 else 0) (if n / 1024 % 2 == 1 then 1024 else 0) (if n / 2048 % 2 == 1 then 2048 else 0) (if n / 4096 % 2 == 1 then 4096 else 0) (if n / 8192 % 2 == 1 then 8192 else 0)) (bit_is (n / 4 % 2) 4 (small (n / 4)))
    ∙ ap (λ x. summed (1 * (n / 1 % 2)) (2 * (n / 2 % 2)) (4 * (n / 4 % 2)) x (if n / 16 % 2 == 1 then 16 else 0) (if n / 32 % 2 == 1 then 32 else 0) (if n / 64 % 2 == 1 then 64 else 0) (if n / 128 % 2 == 1 then 128 else 0) (if n / 256 % 2 == 1 then 256 else 0) (if n / 512 % 2 == 1 then 512 else 0) (if n / 1024 % 2 == 1 then 1024 else 0) (if n / 2048 % 2 == 1 then 2048 else 0) (if n / 4096 % 2 == 1 then 4096 else 0) (if n / 8192 % 2 == 1 then 8192 else 0)) (bit_is (n / 8 % 2) 8 (small (n / 8)))
    ∙ ap (λ x. summed (1 * (n / 1 % 2)) (2 * (n / 2 % 2)) (4 * (n / 4 % 2)) (8 * (n / 8 % 2)) x (if n / 32 % 2 == 1 then 32 else 0) (if n / 64 % 2 == 1 then 64 else 0) (if n / 128 % 2 == 1 then 128 else 0) (if n / 256 % 2 == 1 then 256 else 0) (if n / 512 % 2 == 1 then 512 else 0) (if n / 1024 % 2 == 1 then 1024 else 0) (if n / 2048 % 2 == 1 then 2048 else 0) (if n / 4096 % 2 == 1 then 4096 else 0) (if n / 8192 % 2 == 1 then 8192 else 0)) (bit_is (n / 16 % 2) 16 (small (n / 16)))
    ∙ ap (λ x. summed (1 * (n / 1 % 2)) (2 * (n / 2 % 2)) (4 * (n / 4 % 2)) (8 * (n / 8 % 2)) (16 * (n / 16 % 2)) x (if n / 64 % 2 == 1 then 64 else 0) (if n / 128 % 2 == 1 then 128 else 0) (if n / 256 % 2 == 1 then 256 else 0) (if n / 512 % 2 == 1 then 512 else 0) (if n / 1024 % 2 == 1 then 1024 else 0) (if n / 2048 % 2 == 1 then 2048 else 0) (if n / 4096 % 2 == 1 then 4096 else 0) (if n / 8192 % 2 == 1 then 8192 else 0)) (bit_is (n / 32 % 2) 32 (small (n / 32)))
    ∙ ap (λ x. summed (1 * (n / 1 % 2)) (2 * (n / 2 % 2)) (4 * (n / 4 % 2)) (8 * (n / 8 % 2)) (16 * (n / 16 % 2)) (32 * (n / 32 % 2)) x (if n / 128 % 2 == 1 then 128 else 0) (if n / 256 % 2 == 1 then 256 else 0) (if n / 512 % 2 == 1 then 512 else 0) (if n / 1024 % 2 == 1 then 1024 else 0) (if n / 2048 % 2 == 1 then 2048 else 0) (if n / 4096 % 2 == 1 then 4096 else 0) (if n / 8192 % 2 == 1 then 8192 else 0)) (bit_is (n / 64 % 2) 64 (small (n / 64)))
    ∙ ap (λ x. summed (1 * (n / 1 % 2)) (2 * (n / 2 % 2)) (4 * (n / 4 % 2)) (8 * (n / 8 % 2)) (16 * (n / 16 % 2)) (32 * (n / 32 % 2)) (64 * (n / 64 % 2)) x (if n / 256 % 2 == 1 then 256 else 0) (if n / 512 % 2 == 1 then 512 else 0) (if n / 1024 % 2 == 1 then 1024 else 0) (if n / 2048 % 2 == 1 then 2048 else 0) (if n / 4096 % 2 == 1 then 4096 else 0) (if n / 8192 % 2 == 1 then 8192 else 0)) (bit_is (n / 128 % 2) 128 (small (n / 128)))
    ∙ ap (λ x. summed (1 * (n / 1 % 2)) (2 * (n / 2 % 2)) (4 * (n / 4 % 2)) (8 * (n / 8 % 2)) (16 * (n / 16 % 2)) (32 * (n / 32 % 2)) (64 * (n / 64 % 2)) (128 * (n / 128 % 2)) x (if n / 512 % 2 == 1 then 512 else 0) (if n / 1024 % 2 == 1 then 1024 else 0) (if n / 2048 % 2 == 1 then 2048 else 0) (if n / 4096 % 2 == 1 then 4096 else 0) (if n / 8192 % 2 == 1 then 8192 else 0)) (bit_is (n / 256 % 2) 256 (small (n / 256)))
    ∙ ap (λ x. summed (1 * (n / 1 % 2)) (2 * (n / 2 % 2)) (4 * (n / 4 % 2)) (8 * (n / 8 % 2)) (16 * (n / 16 % 2)) (32 * (n / 32 % 2)) (64 * (n / 64 % 2)) (128 * (n / 128 % 2)) (256 * (n / 256 % 2)) x (if n / 1024 % 2 == 1 then 1024 else 0) (if n / 2048 % 2 == 1 then 2048 else 0) (if n / 4096 % 2 == 1 then 4096 else 0) (if n / 8192 % 2 == 1 then 8192 else 0)) (bit_is (n / 512 % 2) 512 (small (n / 512)))
    ∙ ap (λ x. summed (1 * (n / 1 % 2)) (2 * (n / 2 % 2)) (4 * (n / 4 % 2)) (8 * (n / 8 % 2)) (16 * (n / 16 % 2)) (32 * (n / 32 % 2)) (64 * (n / 64 % 2)) (128 * (n / 128 % 2)) (256 * (n / 256 % 2)) (512 * (n / 512 % 2)) x (if n / 2048 % 2 == 1 then 2048 else 0) (if n / 4096 % 2 == 1 then 4096 else 0) (if n / 8192 % 2 == 1 then 8192 else 0)) (bit_is (n / 1024 % 2) 1024 (small (n / 1024)))
    ∙ ap (λ x. summed (1 * (n / 1 % 2)) (2 * (n / 2 % 2)) (4 * (n / 4 % 2)) (8 * (n / 8 % 2)) (16 * (n / 16 % 2)) (32 * (n / 32 % 2)) (64 * (n / 64 % 2)) (128 * (n / 128 % 2)) (256 * (n / 256 % 2)) (512 * (n / 512 % 2)) (1024 * (n / 1024 % 2)) x (if n / 4096 % 2 == 1 then 4096 else 0) (if n / 8192 % 2 == 1 then 8192 else 0)) (bit_is (n / 2048 % 2) 2048 (small (n / 2048)))
    ∙ ap (λ x. summed (1 * (n / 1 % 2)) (2 * (n / 2 % 2)) (4 * (n / 4 % 2)) (8 * (n / 8 % 2)) (16 * (n / 16 % 2)) (32 * (n / 32 % 2)) (64 * (n / 64 % 2)) (128 * (n / 128 % 2)) (256 * (n / 256 % 2)) (512 * (n / 512 % 2)) (1024 * (n / 1024 % 2)) (2048 * (n / 2048 % 2)) x (if n / 8192 % 2 == 1 then 8192 else 0)) (bit_is (n / 4096 % 2) 4096 (small (n / 4096)))
    ∙ ap (λ x. summed (1 * (n / 1 % 2)) (2 * (n / 2 % 2)) (4 * (n / 4 % 2)) (8 * (n / 8 % 2)) (16 * (n / 16 % 2)) (32 * (n / 32 % 2)) (64 * (n / 64 % 2)) (128 * (n / 128 % 2)) (256 * (n / 256 % 2)) (512 * (n / 512 % 2)) (1024 * (n / 1024 % 2)) (2048 * (n / 2048 % 2)) (4096 * (n / 4096 % 2)) x) (bit_is (n / 8192 % 2) 8192 (small (n / 8192)))
    ∙ total (n / 1) (n / 2) (n / 4) (n / 8) (n / 16) (n / 32) (n / 64) (n / 128) (n / 256) (n / 512) (n / 1024) (n / 2048) (n / 4096) (n / 8192) (n / 16384) (n / 1 % 2) (n / 2 % 2) (n / 4 % 2) (n / 8 % 2) (n / 16 % 2) (n / 32 % 2) (n / 64 % 2) (n / 128 % 2) (n / 256 % 2) (n / 512 % 2) (n / 1024 % 2) (n / 2048 % 2) (n / 4096 % 2) (n / 8192 % 2) (half0 n) (half1 n) (half2 n) (half3 n) (half4 n) (half5 n) (half6 n) (half7 n) (half8 n) (half9 n) (half10 n) (half11 n) (half12 n) (half13 n) (top n lt)
    ∙ whole n

-- the flags of a numbering again
abbrev worth : Bool → ℕ
worth b = if b then 1 else 0

worth_small : (b : Bool) → worth b < 2
worth_small true = omega arith
worth_small false = omega arith

worth_is : (b : Bool) → (worth b == 1) ≡ b
worth_is true = refl
worth_is false = refl

flag_is : (b : Bool) (w : ℕ) → (if b then w else 0) ≡ w * worth b
flag_is true w = omega arith
flag_is false w = omega arith

abbrev all_of : ℕ → ℕ → ℕ → ℕ → ℕ → ℕ → ℕ → ℕ → ℕ → ℕ → ℕ → ℕ → ℕ → ℕ → ℕ
all_of x0 x1 x2 x3 x4 x5 x6 x7 x8 x9 x10 x11 x12 x13 = 1 * x0 + 2 * x1 + 4 * x2 + 8 * x3 + 16 * x4 + 32 * x5 + 64 * x6 + 128 * x7 + 256 * x8 + 512 * x9 + 1024 * x10 + 2048 * x11 + 4096 * x12 + 8192 * x13

digit0 : (low x high n : ℕ) → low < 1 → x < 2 → n ≡ low + 1 * x + 2 * high → n / 1 % 2 ≡ x
digit0 low x high n small bit is = omega arith

digit1 : (low x high n : ℕ) → low < 2 → x < 2 → n ≡ low + 2 * x + 4 * high → n / 2 % 2 ≡ x
digit1 low x high n small bit is = omega arith

digit2 : (low x high n : ℕ) → low < 4 → x < 2 → n ≡ low + 4 * x + 8 * high → n / 4 % 2 ≡ x
digit2 low x high n small bit is = omega arith

digit3 : (low x high n : ℕ) → low < 8 → x < 2 → n ≡ low + 8 * x + 16 * high → n / 8 % 2 ≡ x
digit3 low x high n small bit is = omega arith

digit4 : (low x high n : ℕ) → low < 16 → x < 2 → n ≡ low + 16 * x + 32 * high → n / 16 % 2 ≡ x
digit4 low x high n small bit is = omega arith

digit5 : (low x high n : ℕ) → low < 32 → x < 2 → n ≡ low + 32 * x + 64 * high → n / 32 % 2 ≡ x
digit5 low x high n small bit is = omega arith

digit6 : (low x high n : ℕ) → low < 64 → x < 2 → n ≡ low + 64 * x + 128 * high → n / 64 % 2 ≡ x
digit6 low x high n small bit is = omega arith

digit7 : (low x high n : ℕ) → low < 128 → x < 2 → n ≡ low + 128 * x + 256 * high → n / 128 % 2 ≡ x
digit7 low x high n small bit is = omega arith

digit8 : (low x high n : ℕ) → low < 256 → x < 2 → n ≡ low + 256 * x + 512 * high → n / 256 % 2 ≡ x
digit8 low x high n small bit is = omega arith

digit9 : (low x high n : ℕ) → low < 512 → x < 2 → n ≡ low + 512 * x + 1024 * high → n / 512 % 2 ≡ x
digit9 low x high n small bit is = omega arith

digit10 : (low x high n : ℕ) → low < 1024 → x < 2 → n ≡ low + 1024 * x + 2048 * high → n / 1024 % 2 ≡ x
digit10 low x high n small bit is = omega arith

digit11 : (low x high n : ℕ) → low < 2048 → x < 2 → n ≡ low + 2048 * x + 4096 * high → n / 2048 % 2 ≡ x
digit11 low x high n small bit is = omega arith

digit12 : (low x high n : ℕ) → low < 4096 → x < 2 → n ≡ low + 4096 * x + 8192 * high → n / 4096 % 2 ≡ x
digit12 low x high n small bit is = omega arith

digit13 : (low x high n : ℕ) → low < 8192 → x < 2 → n ≡ low + 8192 * x + 16384 * high → n / 8192 % 2 ≡ x
digit13 low x high n small bit is = omega arith

at0 : (x0 x1 x2 x3 x4 x5 x6 x7 x8 x9 x10 x11 x12 x13 : ℕ) → x0 < 2 → x1 < 2 → x2 < 2 → x3 < 2 → x4 < 2 → x5 < 2 → x6 < 2 → x7 < 2 → x8 < 2 → x9 < 2 → x10 < 2 → x11 < 2 → x12 < 2 → x13 < 2
    → all_of x0 x1 x2 x3 x4 x5 x6 x7 x8 x9 x10 x11 x12 x13 / 1 % 2 ≡ x0
at0 x0 x1 x2 x3 x4 x5 x6 x7 x8 x9 x10 x11 x12 x13 h0 h1 h2 h3 h4 h5 h6 h7 h8 h9 h10 h11 h12 h13 = digit0 (0) x0 (1 * x1 + 2 * x2 + 4 * x3 + 8 * x4 + 16 * x5 + 32 * x6 + 64 * x7 + 128 * x8 + 256 * x9 + 512 * x10 + 1024 * x11 + 2048 * x12 + 4096 * x13) (all_of x0 x1 x2 x3 x4 x5 x6 x7 x8 x9 x10 x11 x12 x13) (omega arith) h0 (omega arith)

at1 : (x0 x1 x2 x3 x4 x5 x6 x7 x8 x9 x10 x11 x12 x13 : ℕ) → x0 < 2 → x1 < 2 → x2 < 2 → x3 < 2 → x4 < 2 → x5 < 2 → x6 < 2 → x7 < 2 → x8 < 2 → x9 < 2 → x10 < 2 → x11 < 2 → x12 < 2 → x13 < 2
    → all_of x0 x1 x2 x3 x4 x5 x6 x7 x8 x9 x10 x11 x12 x13 / 2 % 2 ≡ x1
at1 x0 x1 x2 x3 x4 x5 x6 x7 x8 x9 x10 x11 x12 x13 h0 h1 h2 h3 h4 h5 h6 h7 h8 h9 h10 h11 h12 h13 = digit1 (1 * x0) x1 (1 * x2 + 2 * x3 + 4 * x4 + 8 * x5 + 16 * x6 + 32 * x7 + 64 * x8 + 128 * x9 + 256 * x10 + 512 * x11 + 1024 * x12 + 2048 * x13) (all_of x0 x1 x2 x3 x4 x5 x6 x7 x8 x9 x10 x11 x12 x13) (omega arith) h1 (omega arith)

at2 : (x0 x1 x2 x3 x4 x5 x6 x7 x8 x9 x10 x11 x12 x13 : ℕ) → x0 < 2 → x1 < 2 → x2 < 2 → x3 < 2 → x4 < 2 → x5 < 2 → x6 < 2 → x7 < 2 → x8 < 2 → x9 < 2 → x10 < 2 → x11 < 2 → x12 < 2 → x13 < 2
    → all_of x0 x1 x2 x3 x4 x5 x6 x7 x8 x9 x10 x11 x12 x13 / 4 % 2 ≡ x2
at2 x0 x1 x2 x3 x4 x5 x6 x7 x8 x9 x10 x11 x12 x13 h0 h1 h2 h3 h4 h5 h6 h7 h8 h9 h10 h11 h12 h13 = digit2 (1 * x0 + 2 * x1) x2 (1 * x3 + 2 * x4 + 4 * x5 + 8 * x6 + 16 * x7 + 32 * x8 + 64 * x9 + 128 * x10 + 256 * x11 + 512 * x12 + 1024 * x13) (all_of x0 x1 x2 x3 x4 x5 x6 x7 x8 x9 x10 x11 x12 x13) (omega arith) h2 (omega arith)

at3 : (x0 x1 x2 x3 x4 x5 x6 x7 x8 x9 x10 x11 x12 x13 : ℕ) → x0 < 2 → x1 < 2 → x2 < 2 → x3 < 2 → x4 < 2 → x5 < 2 → x6 < 2 → x7 < 2 → x8 < 2 → x9 < 2 → x10 < 2 → x11 < 2 → x12 < 2 → x13 < 2
    → all_of x0 x1 x2 x3 x4 x5 x6 x7 x8 x9 x10 x11 x12 x13 / 8 % 2 ≡ x3
at3 x0 x1 x2 x3 x4 x5 x6 x7 x8 x9 x10 x11 x12 x13 h0 h1 h2 h3 h4 h5 h6 h7 h8 h9 h10 h11 h12 h13 = digit3 (1 * x0 + 2 * x1 + 4 * x2) x3 (1 * x4 + 2 * x5 + 4 * x6 + 8 * x7 + 16 * x8 + 32 * x9 + 64 * x10 + 128 * x11 + 256 * x12 + 512 * x13) (all_of x0 x1 x2 x3 x4 x5 x6 x7 x8 x9 x10 x11 x12 x13) (omega arith) h3 (omega arith)

at4 : (x0 x1 x2 x3 x4 x5 x6 x7 x8 x9 x10 x11 x12 x13 : ℕ) → x0 < 2 → x1 < 2 → x2 < 2 → x3 < 2 → x4 < 2 → x5 < 2 → x6 < 2 → x7 < 2 → x8 < 2 → x9 < 2 → x10 < 2 → x11 < 2 → x12 < 2 → x13 < 2
    → all_of x0 x1 x2 x3 x4 x5 x6 x7 x8 x9 x10 x11 x12 x13 / 16 % 2 ≡ x4
at4 x0 x1 x2 x3 x4 x5 x6 x7 x8 x9 x10 x11 x12 x13 h0 h1 h2 h3 h4 h5 h6 h7 h8 h9 h10 h11 h12 h13 = digit4 (1 * x0 + 2 * x1 + 4 * x2 + 8 * x3) x4 (1 * x5 + 2 * x6 + 4 * x7 + 8 * x8 + 16 * x9 + 32 * x10 + 64 * x11 + 128 * x12 + 256 * x13) (all_of x0 x1 x2 x3 x4 x5 x6 x7 x8 x9 x10 x11 x12 x13) (omega arith) h4 (omega arith)

at5 : (x0 x1 x2 x3 x4 x5 x6 x7 x8 x9 x10 x11 x12 x13 : ℕ) → x0 < 2 → x1 < 2 → x2 < 2 → x3 < 2 → x4 < 2 → x5 < 2 → x6 < 2 → x7 < 2 → x8 < 2 → x9 < 2 → x10 < 2 → x11 < 2 → x12 < 2 → x13 < 2
    → all_of x0 x1 x2 x3 x4 x5 x6 x7 x8 x9 x10 x11 x12 x13 / 32 % 2 ≡ x5
at5 x0 x1 x2 x3 x4 x5 x6 x7 x8 x9 x10 x11 x12 x13 h0 h1 h2 h3 h4 h5 h6 h7 h8 h9 h10 h11 h12 h13 = digit5 (1 * x0 + 2 * x1 + 4 * x2 + 8 * x3 + 16 * x4) x5 (1 * x6 + 2 * x7 + 4 * x8 + 8 * x9 + 16 * x10 + 32 * x11 + 64 * x12 + 128 * x13) (all_of x0 x1 x2 x3 x4 x5 x6 x7 x8 x9 x10 x11 x12 x13) (omega arith) h5 (omega arith)

at6 : (x0 x1 x2 x3 x4 x5 x6 x7 x8 x9 x10 x11 x12 x13 : ℕ) → x0 < 2 → x1 < 2 → x2 < 2 → x3 < 2 → x4 < 2 → x5 < 2 → x6 < 2 → x7 < 2 → x8 < 2 → x9 < 2 → x10 < 2 → x11 < 2 → x12 < 2 → x13 < 2
    → all_of x0 x1 x2 x3 x4 x5 x6 x7 x8 x9 x10 x11 x12 x13 / 64 % 2 ≡ x6
at6 x0 x1 x2 x3 x4 x5 x6 x7 x8 x9 x10 x11 x12 x13 h0 h1 h2 h3 h4 h5 h6 h7 h8 h9 h10 h11 h12 h13 = digit6 (1 * x0 + 2 * x1 + 4 * x2 + 8 * x3 + 16 * x4 + 32 * x5) x6 (1 * x7 + 2 * x8 + 4 * x9 + 8 * x10 + 16 * x11 + 32 * x12 + 64 * x13) (all_of x0 x1 x2 x3 x4 x5 x6 x7 x8 x9 x10 x11 x12 x13) (omega arith) h6 (omega arith)

at7 : (x0 x1 x2 x3 x4 x5 x6 x7 x8 x9 x10 x11 x12 x13 : ℕ) → x0 < 2 → x1 < 2 → x2 < 2 → x3 < 2 → x4 < 2 → x5 < 2 → x6 < 2 → x7 < 2 → x8 < 2 → x9 < 2 → x10 < 2 → x11 < 2 → x12 < 2 → x13 < 2
    → all_of x0 x1 x2 x3 x4 x5 x6 x7 x8 x9 x10 x11 x12 x13 / 128 % 2 ≡ x7
at7 x0 x1 x2 x3 x4 x5 x6 x7 x8 x9 x10 x11 x12 x13 h0 h1 h2 h3 h4 h5 h6 h7 h8 h9 h10 h11 h12 h13 = digit7 (1 * x0 + 2 * x1 + 4 * x2 + 8 * x3 + 16 * x4 + 32 * x5 + 64 * x6) x7 (1 * x8 + 2 * x9 + 4 * x10 + 8 * x11 + 16 * x12 + 32 * x13) (all_of x0 x1 x2 x3 x4 x5 x6 x7 x8 x9 x10 x11 x12 x13) (omega arith) h7 (omega arith)

at8 : (x0 x1 x2 x3 x4 x5 x6 x7 x8 x9 x10 x11 x12 x13 : ℕ) → x0 < 2 → x1 < 2 → x2 < 2 → x3 < 2 → x4 < 2 → x5 < 2 → x6 < 2 → x7 < 2 → x8 < 2 → x9 < 2 → x10 < 2 → x11 < 2 → x12 < 2 → x13 < 2
    → all_of x0 x1 x2 x3 x4 x5 x6 x7 x8 x9 x10 x11 x12 x13 / 256 % 2 ≡ x8
at8 x0 x1 x2 x3 x4 x5 x6 x7 x8 x9 x10 x11 x12 x13 h0 h1 h2 h3 h4 h5 h6 h7 h8 h9 h10 h11 h12 h13 = digit8 (1 * x0 + 2 * x1 + 4 * x2 + 8 * x3 + 16 * x4 + 32 * x5 + 64 * x6 + 128 * x7) x8 (1 * x9 + 2 * x10 + 4 * x11 + 8 * x12 + 16 * x13) (all_of x0 x1 x2 x3 x4 x5 x6 x7 x8 x9 x10 x11 x12 x13) (omega arith) h8 (omega arith)

at9 : (x0 x1 x2 x3 x4 x5 x6 x7 x8 x9 x10 x11 x12 x13 : ℕ) → x0 < 2 → x1 < 2 → x2 < 2 → x3 < 2 → x4 < 2 → x5 < 2 → x6 < 2 → x7 < 2 → x8 < 2 → x9 < 2 → x10 < 2 → x11 < 2 → x12 < 2 → x13 < 2
    → all_of x0 x1 x2 x3 x4 x5 x6 x7 x8 x9 x10 x11 x12 x13 / 512 % 2 ≡ x9
at9 x0 x1 x2 x3 x4 x5 x6 x7 x8 x9 x10 x11 x12 x13 h0 h1 h2 h3 h4 h5 h6 h7 h8 h9 h10 h11 h12 h13 = digit9 (1 * x0 + 2 * x1 + 4 * x2 + 8 * x3 + 16 * x4 + 32 * x5 + 64 * x6 + 128 * x7 + 256 * x8) x9 (1 * x10 + 2 * x11 + 4 * x12 + 8 * x13) (all_of x0 x1 x2 x3 x4 x5 x6 x7 x8 x9 x10 x11 x12 x13) (omega arith) h9 (omega arith)

at10 : (x0 x1 x2 x3 x4 x5 x6 x7 x8 x9 x10 x11 x12 x13 : ℕ) → x0 < 2 → x1 < 2 → x2 < 2 → x3 < 2 → x4 < 2 → x5 < 2 → x6 < 2 → x7 < 2 → x8 < 2 → x9 < 2 → x10 < 2 → x11 < 2 → x12 < 2 → x13 < 2
    → all_of x0 x1 x2 x3 x4 x5 x6 x7 x8 x9 x10 x11 x12 x13 / 1024 % 2 ≡ x10
at10 x0 x1 x2 x3 x4 x5 x6 x7 x8 x9 x10 x11 x12 x13 h0 h1 h2 h3 h4 h5 h6 h7 h8 h9 h10 h11 h12 h13 = digit10 (1 * x0 + 2 * x1 + 4 * x2 + 8 * x3 + 16 * x4 + 32 * x5 + 64 * x6 + 128 * x7 + 256 * x8 + 512 * x9) x10 (1 * x11 + 2 * x12 + 4 * x13) (all_of x0 x1 x2 x3 x4 x5 x6 x7 x8 x9 x10 x11 x12 x13) (omega arith) h10 (omega arith)

at11 : (x0 x1 x2 x3 x4 x5 x6 x7 x8 x9 x10 x11 x12 x13 : ℕ) → x0 < 2 → x1 < 2 → x2 < 2 → x3 < 2 → x4 < 2 → x5 < 2 → x6 < 2 → x7 < 2 → x8 < 2 → x9 < 2 → x10 < 2 → x11 < 2 → x12 < 2 → x13 < 2
    → all_of x0 x1 x2 x3 x4 x5 x6 x7 x8 x9 x10 x11 x12 x13 / 2048 % 2 ≡ x11
at11 x0 x1 x2 x3 x4 x5 x6 x7 x8 x9 x10 x11 x12 x13 h0 h1 h2 h3 h4 h5 h6 h7 h8 h9 h10 h11 h12 h13 = digit11 (1 * x0 + 2 * x1 + 4 * x2 + 8 * x3 + 16 * x4 + 32 * x5 + 64 * x6 + 128 * x7 + 256 * x8 + 512 * x9 + 1024 * x10) x11 (1 * x12 + 2 * x13) (all_of x0 x1 x2 x3 x4 x5 x6 x7 x8 x9 x10 x11 x12 x13) (omega arith) h11 (omega arith)

at12 : (x0 x1 x2 x3 x4 x5 x6 x7 x8 x9 x10 x11 x12 x13 : ℕ) → x0 < 2 → x1 < 2 → x2 < 2 → x3 < 2 → x4 < 2 → x5 < 2 → x6 < 2 → x7 < 2 → x8 < 2 → x9 < 2 → x10 < 2 → x11 < 2 → x12 < 2 → x13 < 2
    → all_of x0 x1 x2 x3 x4 x5 x6 x7 x8 x9 x10 x11 x12 x13 / 4096 % 2 ≡ x12
at12 x0 x1 x2 x3 x4 x5 x6 x7 x8 x9 x10 x11 x12 x13 h0 h1 h2 h3 h4 h5 h6 h7 h8 h9 h10 h11 h12 h13 = digit12 (1 * x0 + 2 * x1 + 4 * x2 + 8 * x3 + 16 * x4 + 32 * x5 + 64 * x6 + 128 * x7 + 256 * x8 + 512 * x9 + 1024 * x10 + 2048 * x11) x12 (1 * x13) (all_of x0 x1 x2 x3 x4 x5 x6 x7 x8 x9 x10 x11 x12 x13) (omega arith) h12 (omega arith)

at13 : (x0 x1 x2 x3 x4 x5 x6 x7 x8 x9 x10 x11 x12 x13 : ℕ) → x0 < 2 → x1 < 2 → x2 < 2 → x3 < 2 → x4 < 2 → x5 < 2 → x6 < 2 → x7 < 2 → x8 < 2 → x9 < 2 → x10 < 2 → x11 < 2 → x12 < 2 → x13 < 2
    → all_of x0 x1 x2 x3 x4 x5 x6 x7 x8 x9 x10 x11 x12 x13 / 8192 % 2 ≡ x13
at13 x0 x1 x2 x3 x4 x5 x6 x7 x8 x9 x10 x11 x12 x13 h0 h1 h2 h3 h4 h5 h6 h7 h8 h9 h10 h11 h12 h13 = digit13 (1 * x0 + 2 * x1 + 4 * x2 + 8 * x3 + 16 * x4 + 32 * x5 + 64 * x6 + 128 * x7 + 256 * x8 + 512 * x9 + 1024 * x10 + 2048 * x11 + 4096 * x12) x13 (0) (all_of x0 x1 x2 x3 x4 x5 x6 x7 x8 x9 x10 x11 x12 x13) (omega arith) h13 (omega arith)

cons_is : (a b : Bool) (xs ys : List Bool) → a ≡ b → xs ≡ ys → (a ∷ xs) ≡ (b ∷ ys)
cons_is a b xs ys p q = cc

all_flags : (b0 b1 b2 b3 b4 b5 b6 b7 b8 b9 b10 b11 b12 b13 : Bool) → summed (if b0 then 1 else 0) (if b1 then 2 else 0) (if b2 then 4 else 0) (if b3 then 8 else 0) (if b4 then 16 else 0) (if b5 then 32 else 0) (if b6 then 64 else 0) (if b7 then 128 else 0) (if b8 then 256 else 0) (if b9 then 512 else 0) (if b10 then 1024 else 0) (if b11 then 2048 else 0) (if b12 then 4096 else 0) (if b13 then 8192 else 0) ≡ all_of (worth b0) (worth b1) (worth b2) (worth b3) (worth b4) (worth b5) (worth b6) (worth b7) (worth b8) (worth b9) (worth b10) (worth b11) (worth b12) (worth b13)
all_flags b0 b1 b2 b3 b4 b5 b6 b7 b8 b9 b10 b11 b12 b13 =
    ap (λ x. summed x (if b1 then 2 else 0) (if b2 then 4 else 0) (if b3 then 8 else 0) (if b4 then 16 else 0) (if b5 then 32 else 0) (if b6 then 64 else 0) (if b7 then 128 else 0) (if b8 then 256 else 0) (if b9 then 512 else 0) (if b10 then 1024 else 0) (if b11 then 2048 else 0) (if b12 then 4096 else 0) (if b13 then 8192 else 0)) (flag_is b0 1)
    ∙ ap (λ x. summed (1 * worth b0) x (if b2 then 4 else 0) (if b3 then 8 else 0) (if b4 then 16 else 0) (if b5 then 32 else 0) (if b6 then 64 else 0) (if b7 then 128 else 0) (if b8 then 256 else 0) (if b9 then 512 else 0) (if b10 then 1024 else 0) (if b11 then 2048 else 0) (if b12 then 4096 else 0) (if b13 then 8192 else 0)) (flag_is b1 2)
    ∙ ap (λ x. summed (1 * worth b0) (2 * worth b1) x (if b3 then 8 else 0) (if b4 then 16 else 0) (if b5 then 32 else 0) (if b6 then 64 else 0) (if b7 then 128 else 0) (if b8 then 256 else 0) (if b9 then 512 else 0) (if b10 then 1024 else 0) (if b11 then 2048 else 0) (if b12 then 4096 else 0) (if b13 then 8192 else 0)) (flag_is b2 4)
    ∙ ap (λ x. summed (1 * worth b0) (2 * worth b1) (4 * worth b2) x (if b4 then 16 else 0) (if b5 then 32 else 0) (if b6 then 64 else 0) (if b7 then 128 else 0) (if b8 then 256 else 0) (if b9 then 512 else 0) (if b10 then 1024 else 0) (if b11 then 2048 else 0) (if b12 then 4096 else 0) (if b13 then 8192 else 0)) (flag_is b3 8)
    ∙ ap (λ x. summed (1 * worth b0) (2 * worth b1) (4 * worth b2) (8 * worth b3) x (if b5 then 32 else 0) (if b6 then 64 else 0) (if b7 then 128 else 0) (if b8 then 256 else 0) (if b9 then 512 else 0) (if b10 then 1024 else 0) (if b11 then 2048 else 0) (if b12 then 4096 else 0) (if b13 then 8192 else 0)) (flag_is b4 16)
    ∙ ap (λ x. summed (1 * worth b0) (2 * worth b1) (4 * worth b2) (8 * worth b3) (16 * worth b4) x (if b6 then 64 else 0) (if b7 then 128 else 0) (if b8 then 256 else 0) (if b9 then 512 else 0) (if b10 then 1024 else 0) (if b11 then 2048 else 0) (if b12 then 4096 else 0) (if b13 then 8192 else 0)) (flag_is b5 32)
    ∙ ap (λ x. summed (1 * worth b0) (2 * worth b1) (4 * worth b2) (8 * worth b3) (16 * worth b4) (32 * worth b5) x (if b7 then 128 else 0) (if b8 then 256 else 0) (if b9 then 512 else 0) (if b10 then 1024 else 0) (if b11 then 2048 else 0) (if b12 then 4096 else 0) (if b13 then 8192 else 0)) (flag_is b6 64)
    ∙ ap (λ x. summed (1 * worth b0) (2 * worth b1) (4 * worth b2) (8 * worth b3) (16 * worth b4) (32 * worth b5) (64 * worth b6) x (if b8 then 256 else 0) (if b9 then 512 else 0) (if b10 then 1024 else 0) (if b11 then 2048 else 0) (if b12 then 4096 else 0) (if b13 then 8192 else 0)) (flag_is b7 128)
    ∙ ap (λ x. summed (1 * worth b0) (2 * worth b1) (4 * worth b2) (8 * worth b3) (16 * worth b4) (32 * worth b5) (64 * worth b6) (128 * worth b7) x (if b9 then 512 else 0) (if b10 then 1024 else 0) (if b11 then 2048 else 0) (if b12 then 4096 else 0) (if b13 then 8192 else 0)) (flag_is b8 256)
    ∙ ap (λ x. summed (1 * worth b0) (2 * worth b1) (4 * worth b2) (8 * worth b3) (16 * worth b4) (32 * worth b5) (64 * worth b6) (128 * worth b7) (256 * worth b8) x (if b10 then 1024 else 0) (if b11 then 2048 else 0) (if b12 then 4096 else 0) (if b13 then 8192 else 0)) (flag_is b9 512)
    ∙ ap (λ x. summed (1 * worth b0) (2 * worth b1) (4 * worth b2) (8 * worth b3) (16 * worth b4) (32 * worth b5) (64 * worth b6) (128 * worth b7) (256 * worth b8) (512 * worth b9) x (if b11 then 2048 else 0) (if b12 then 4096 else 0) (if b13 then 8192 else 0)) (flag_is b10 1024)
    ∙ ap (λ x. summed (1 * worth b0) (2 * worth b1) (4 * worth b2) (8 * worth b3) (16 * worth b4) (32 * worth b5) (64 * worth b6) (128 * worth b7) (256 * worth b8) (512 * worth b9) (1024 * worth b10) x (if b12 then 4096 else 0) (if b13 then 8192 else 0)) (flag_is b11 2048)
    ∙ ap (λ x. summed (1 * worth b0) (2 * worth b1) (4 * worth b2) (8 * worth b3) (16 * worth b4) (32 * worth b5) (64 * worth b6) (128 * worth b7) (256 * worth b8) (512 * worth b9) (1024 * worth b10) (2048 * worth b11) x (if b13 then 8192 else 0)) (flag_is b12 4096)
    ∙ ap (λ x. summed (1 * worth b0) (2 * worth b1) (4 * worth b2) (8 * worth b3) (16 * worth b4) (32 * worth b5) (64 * worth b6) (128 * worth b7) (256 * worth b8) (512 * worth b9) (1024 * worth b10) (2048 * worth b11) (4096 * worth b12) x) (flag_is b13 8192)

flags_back : (b0 b1 b2 b3 b4 b5 b6 b7 b8 b9 b10 b11 b12 b13 : Bool) (n : ℕ) → n ≡ all_of (worth b0) (worth b1) (worth b2) (worth b3) (worth b4) (worth b5) (worth b6) (worth b7) (worth b8) (worth b9) (worth b10) (worth b11) (worth b12) (worth b13) → map (has_bit n) bits ≡ (b0 ∷ b1 ∷ b2 ∷ b3 ∷ b4 ∷ b5 ∷ b6 ∷ b7 ∷ b8 ∷ b9 ∷ b10 ∷ b11 ∷ b12 ∷ b13 ∷ [])
flags_back b0 b1 b2 b3 b4 b5 b6 b7 b8 b9 b10 b11 b12 b13 n is =
    cons_is _ b0 _ _ (ap (λ m. m / 1 % 2 == 1) is ∙ ap (λ k. k == 1) (at0 (worth b0) (worth b1) (worth b2) (worth b3) (worth b4) (worth b5) (worth b6) (worth b7) (worth b8) (worth b9) (worth b10) (worth b11) (worth b12) (worth b13) (worth_small b0) (worth_small b1) (worth_small b2) (worth_small b3) (worth_small b4) (worth_small b5) (worth_small b6) (worth_small b7) (worth_small b8) (worth_small b9) (worth_small b10) (worth_small b11) (worth_small b12) (worth_small b13)) ∙ worth_is b0) (
    cons_is _ b1 _ _ (ap (λ m. m / 2 % 2 == 1) is ∙ ap (λ k. k == 1) (at1 (worth b0) (worth b1) (worth b2) (worth b3) (worth b4) (worth b5) (worth b6) (worth b7) (worth b8) (worth b9) (worth b10) (worth b11) (worth b12) (worth b13) (worth_small b0) (worth_small b1) (worth_small b2) (worth_small b3) (worth_small b4) (worth_small b5) (worth_small b6) (worth_small b7) (worth_small b8) (worth_small b9) (worth_small b10) (worth_small b11) (worth_small b12) (worth_small b13)) ∙ worth_is b1) (
    cons_is _ b2 _ _ (ap (λ m. m / 4 % 2 == 1) is ∙ ap (λ k. k == 1) (at2 (worth b0) (worth b1) (worth b2) (worth b3) (worth b4) (worth b5) (worth b6) (worth b7) (worth b8) (worth b9) (worth b10) (worth b11) (worth b12) (worth b13) (worth_small b0) (worth_small b1) (worth_small b2) (worth_small b3) (worth_small b4) (worth_small b5) (worth_small b6) (worth_small b7) (worth_small b8) (worth_small b9) (worth_small b10) (worth_small b11) (worth_small b12) (worth_small b13)) ∙ worth_is b2) (
    cons_is _ b3 _ _ (ap (λ m. m / 8 % 2 == 1) is ∙ ap (λ k. k == 1) (at3 (worth b0) (worth b1) (worth b2) (worth b3) (worth b4) (worth b5) (worth b6) (worth b7) (worth b8) (worth b9) (worth b10) (worth b11) (worth b12) (worth b13) (worth_small b0) (worth_small b1) (worth_small b2) (worth_small b3) (worth_small b4) (worth_small b5) (worth_small b6) (worth_small b7) (worth_small b8) (worth_small b9) (worth_small b10) (worth_small b11) (worth_small b12) (worth_small b13)) ∙ worth_is b3) (
    cons_is _ b4 _ _ (ap (λ m. m / 16 % 2 == 1) is ∙ ap (λ k. k == 1) (at4 (worth b0) (worth b1) (worth b2) (worth b3) (worth b4) (worth b5) (worth b6) (worth b7) (worth b8) (worth b9) (worth b10) (worth b11) (worth b12) (worth b13) (worth_small b0) (worth_small b1) (worth_small b2) (worth_small b3) (worth_small b4) (worth_small b5) (worth_small b6) (worth_small b7) (worth_small b8) (worth_small b9) (worth_small b10) (worth_small b11) (worth_small b12) (worth_small b13)) ∙ worth_is b4) (
    cons_is _ b5 _ _ (ap (λ m. m / 32 % 2 == 1) is ∙ ap (λ k. k == 1) (at5 (worth b0) (worth b1) (worth b2) (worth b3) (worth b4) (worth b5) (worth b6) (worth b7) (worth b8) (worth b9) (worth b10) (worth b11) (worth b12) (worth b13) (worth_small b0) (worth_small b1) (worth_small b2) (worth_small b3) (worth_small b4) (worth_small b5) (worth_small b6) (worth_small b7) (worth_small b8) (worth_small b9) (worth_small b10) (worth_small b11) (worth_small b12) (worth_small b13)) ∙ worth_is b5) (
    cons_is _ b6 _ _ (ap (λ m. m / 64 % 2 == 1) is ∙ ap (λ k. k == 1) (at6 (worth b0) (worth b1) (worth b2) (worth b3) (worth b4) (worth b5) (worth b6) (worth b7) (worth b8) (worth b9) (worth b10) (worth b11) (worth b12) (worth b13) (worth_small b0) (worth_small b1) (worth_small b2) (worth_small b3) (worth_small b4) (worth_small b5) (worth_small b6) (worth_small b7) (worth_small b8) (worth_small b9) (worth_small b10) (worth_small b11) (worth_small b12) (worth_small b13)) ∙ worth_is b6) (
    cons_is _ b7 _ _ (ap (λ m. m / 128 % 2 == 1) is ∙ ap (λ k. k == 1) (at7 (worth b0) (worth b1) (worth b2) (worth b3) (worth b4) (worth b5) (worth b6) (worth b7) (worth b8) (worth b9) (worth b10) (worth b11) (worth b12) (worth b13) (worth_small b0) (worth_small b1) (worth_small b2) (worth_small b3) (worth_small b4) (worth_small b5) (worth_small b6) (worth_small b7) (worth_small b8) (worth_small b9) (worth_small b10) (worth_small b11) (worth_small b12) (worth_small b13)) ∙ worth_is b7) (
    cons_is _ b8 _ _ (ap (λ m. m / 256 % 2 == 1) is ∙ ap (λ k. k == 1) (at8 (worth b0) (worth b1) (worth b2) (worth b3) (worth b4) (worth b5) (worth b6) (worth b7) (worth b8) (worth b9) (worth b10) (worth b11) (worth b12) (worth b13) (worth_small b0) (worth_small b1) (worth_small b2) (worth_small b3) (worth_small b4) (worth_small b5) (worth_small b6) (worth_small b7) (worth_small b8) (worth_small b9) (worth_small b10) (worth_small b11) (worth_small b12) (worth_small b13)) ∙ worth_is b8) (
    cons_is _ b9 _ _ (ap (λ m. m / 512 % 2 == 1) is ∙ ap (λ k. k == 1) (at9 (worth b0) (worth b1) (worth b2) (worth b3) (worth b4) (worth b5) (worth b6) (worth b7) (worth b8) (worth b9) (worth b10) (worth b11) (worth b12) (worth b13) (worth_small b0) (worth_small b1) (worth_small b2) (worth_small b3) (worth_small b4) (worth_small b5) (worth_small b6) (worth_small b7) (worth_small b8) (worth_small b9) (worth_small b10) (worth_small b11) (worth_small b12) (worth_small b13)) ∙ worth_is b9) (
    cons_is _ b10 _ _ (ap (λ m. m / 1024 % 2 == 1) is ∙ ap (λ k. k == 1) (at10 (worth b0) (worth b1) (worth b2) (worth b3) (worth b4) (worth b5) (worth b6) (worth b7) (worth b8) (worth b9) (worth b10) (worth b11) (worth b12) (worth b13) (worth_small b0) (worth_small b1) (worth_small b2) (worth_small b3) (worth_small b4) (worth_small b5) (worth_small b6) (worth_small b7) (worth_small b8) (worth_small b9) (worth_small b10) (worth_small b11) (worth_small b12) (worth_small b13)) ∙ worth_is b10) (
    cons_is _ b11 _ _ (ap (λ m. m / 2048 % 2 == 1) is ∙ ap (λ k. k == 1) (at11 (worth b0) (worth b1) (worth b2) (worth b3) (worth b4) (worth b5) (worth b6) (worth b7) (worth b8) (worth b9) (worth b10) (worth b11) (worth b12) (worth b13) (worth_small b0) (worth_small b1) (worth_small b2) (worth_small b3) (worth_small b4) (worth_small b5) (worth_small b6) (worth_small b7) (worth_small b8) (worth_small b9) (worth_small b10) (worth_small b11) (worth_small b12) (worth_small b13)) ∙ worth_is b11) (
    cons_is _ b12 _ _ (ap (λ m. m / 4096 % 2 == 1) is ∙ ap (λ k. k == 1) (at12 (worth b0) (worth b1) (worth b2) (worth b3) (worth b4) (worth b5) (worth b6) (worth b7) (worth b8) (worth b9) (worth b10) (worth b11) (worth b12) (worth b13) (worth_small b0) (worth_small b1) (worth_small b2) (worth_small b3) (worth_small b4) (worth_small b5) (worth_small b6) (worth_small b7) (worth_small b8) (worth_small b9) (worth_small b10) (worth_small b11) (worth_small b12) (worth_small b13)) ∙ worth_is b12) (
    cons_is _ b13 _ _ (ap (λ m. m / 8192 % 2 == 1) is ∙ ap (λ k. k == 1) (at13 (worth b0) (worth b1) (worth b2) (worth b3) (worth b4) (worth b5) (worth b6) (worth b7) (worth b8) (worth b9) (worth b10) (worth b11) (worth b12) (worth b13) (worth_small b0) (worth_small b1) (worth_small b2) (worth_small b3) (worth_small b4) (worth_small b5) (worth_small b6) (worth_small b7) (worth_small b8) (worth_small b9) (worth_small b10) (worth_small b11) (worth_small b12) (worth_small b13)) ∙ worth_is b13) (
    refl))))))))))))))

abbrev with_flags : List Bool → Numbering
with_flags t = record { throughout = t }

back : (t : List Bool) (n : ℕ) → length t ≡ 14 → numbering_number (with_flags t) ≡ n → map (has_bit n) bits ≡ t
unfolding numbering_number
back [] n len is = absurd (omega (arith, len))
back (b0 ∷ []) n len is = absurd (omega (arith, len))
back (b0 ∷ b1 ∷ []) n len is = absurd (omega (arith, len))
back (b0 ∷ b1 ∷ b2 ∷ []) n len is = absurd (omega (arith, len))
back (b0 ∷ b1 ∷ b2 ∷ b3 ∷ []) n len is = absurd (omega (arith, len))
back (b0 ∷ b1 ∷ b2 ∷ b3 ∷ b4 ∷ []) n len is = absurd (omega (arith, len))
back (b0 ∷ b1 ∷ b2 ∷ b3 ∷ b4 ∷ b5 ∷ []) n len is = absurd (omega (arith, len))
back (b0 ∷ b1 ∷ b2 ∷ b3 ∷ b4 ∷ b5 ∷ b6 ∷ []) n len is = absurd (omega (arith, len))
back (b0 ∷ b1 ∷ b2 ∷ b3 ∷ b4 ∷ b5 ∷ b6 ∷ b7 ∷ []) n len is = absurd (omega (arith, len))
back (b0 ∷ b1 ∷ b2 ∷ b3 ∷ b4 ∷ b5 ∷ b6 ∷ b7 ∷ b8 ∷ []) n len is = absurd (omega (arith, len))
back (b0 ∷ b1 ∷ b2 ∷ b3 ∷ b4 ∷ b5 ∷ b6 ∷ b7 ∷ b8 ∷ b9 ∷ []) n len is = absurd (omega (arith, len))
back (b0 ∷ b1 ∷ b2 ∷ b3 ∷ b4 ∷ b5 ∷ b6 ∷ b7 ∷ b8 ∷ b9 ∷ b10 ∷ []) n len is = absurd (omega (arith, len))
back (b0 ∷ b1 ∷ b2 ∷ b3 ∷ b4 ∷ b5 ∷ b6 ∷ b7 ∷ b8 ∷ b9 ∷ b10 ∷ b11 ∷ []) n len is = absurd (omega (arith, len))
back (b0 ∷ b1 ∷ b2 ∷ b3 ∷ b4 ∷ b5 ∷ b6 ∷ b7 ∷ b8 ∷ b9 ∷ b10 ∷ b11 ∷ b12 ∷ []) n len is = absurd (omega (arith, len))
back (b0 ∷ b1 ∷ b2 ∷ b3 ∷ b4 ∷ b5 ∷ b6 ∷ b7 ∷ b8 ∷ b9 ∷ b10 ∷ b11 ∷ b12 ∷ b13 ∷ []) n len is = flags_back b0 b1 b2 b3 b4 b5 b6 b7 b8 b9 b10 b11 b12 b13 n (sym is ∙ all_flags b0 b1 b2 b3 b4 b5 b6 b7 b8 b9 b10 b11 b12 b13)
back (b0 ∷ b1 ∷ b2 ∷ b3 ∷ b4 ∷ b5 ∷ b6 ∷ b7 ∷ b8 ∷ b9 ∷ b10 ∷ b11 ∷ b12 ∷ b13 ∷ b14 ∷ rest) n len is = absurd (omega (arith, len))

pub numbering_exact : IsExact numbering
unfolding numbering
numbering_exact =
    made_exact (λ n. length n.throughout == 14) numbering_from (λ n. Some (numbering_number n)) (tested (λ n. nat_lt n 16384) number16)
    (tested_exact (λ n. nat_lt n 16384) number16 number16_exact) (record {
      parted = λ n fits. ap Some (numbered n (ltb-true n 16384 (and_parts (nat_lt n 16384) (number16.fits n) fits).0));
      ruled = λ n fits. refl;
      whole = λ v n long apart. ap with_flags (back v.throughout n (eqb-true (length v.throughout) 14 long) (some_is (numbering_number v) n apart));
    })
