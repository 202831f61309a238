-- Where a text occurs in another. Occurrences are counted from the left, from 1, and do not overlap.
use Rattle.std.specs.Prelude.{ℕ, zero, suc, ◌-◌, ◌==◌, ◌++◌, List, [], ◌∷◌, Option, Some, None, option_map, length, drop, nat_eq, if◌then◌else◌}
use Rattle.std.specs.List.{starts_with}

-- a text parted at the first occurrence of `old`: what stands before it, and what stands behind it
abbrev pub parted_at_first : List ℕ → List ℕ → Option (List ℕ × List ℕ)
parted_at_first old [] = if starts_with nat_eq [] old then Some ([], []) else None
parted_at_first old (b ∷ text) =
    if starts_with nat_eq (b ∷ text) old then Some ([], drop (length old) (b ∷ text))
    else option_map (λ parts. (b ∷ parts.0, parts.1)) (parted_at_first old text)

-- both parts of a text, where the first has more before it
abbrev pub behind_front : List ℕ → List ℕ × List ℕ → List ℕ × List ℕ
behind_front front parts = (front ++ parts.0, parts.1)

-- what stands behind an occurrence is parted in its turn
abbrev pub parted_behind : List ℕ → (List ℕ → Option (List ℕ × List ℕ)) → Option (List ℕ × List ℕ)
    → Option (List ℕ × List ℕ)
parted_behind old part None = None
parted_behind old part (Some parts) = option_map (behind_front (parts.0 ++ old)) (part parts.1)

-- a text parted at the occurrence behind so many others: the search for the next begins behind the end of the last
abbrev pub parted_after : List ℕ → ℕ → List ℕ → Option (List ℕ × List ℕ)
parted_after old zero text = parted_at_first old text
parted_after old (suc others) text = parted_behind old (parted_after old others) (parted_at_first old text)

-- a text parted at the occurrence of this number
abbrev pub parted_at : List ℕ → ℕ → List ℕ → Option (List ℕ × List ℕ)
parted_at old number text = if number == 0 then None else parted_after old (number - 1) text
