-- How the bytes of a source in memory are given piece by piece.
use Rattle.std.proofs.Common.{◌≡◌, ℕ, ◌+◌, ◌≤◌, ◌<◌, min, List, [], ◌++◌, length, take, drop, sym, ap, ◌∙◌, arith, length-drop}
use Rattle.std.proofs.lemmas.List.{take-append-drop, nil_from_length, drop-drop}

-- what is left is the piece that was given, and what is left then
pub taken_front : (items left into : List ℕ) (at n : ℕ) → drop at items ≡ left → take n into ≡ take n (drop at items) → left ≡ take n into ++ drop (at + n) items
taken_front items left into at n is front =
    sym is ∙ sym (take-append-drop n (drop at items)) ∙ ap (λ xs. xs ++ drop n (drop at items)) (sym front) ∙ ap (λ xs. take n into ++ xs) (drop-drop n at items)

-- a piece is empty only at the end, where it may have a byte
pub nothing_left : (items : List ℕ) (at n piece wanted : ℕ) → n ≡ min (min piece wanted) (length (drop at items)) → 1 ≤ piece → 0 < wanted → n ≡ 0 → drop (at + n) items ≡ []
nothing_left items at n piece wanted is some more none = nil_from_length _ (omega (arith, length-drop at items, length-drop (at + n) items))
