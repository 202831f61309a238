-- Numbers side by side in a list.
use Rattle.std.specs.Prelude.{ℕ, ◌==◌, List, [], ◌∷◌, Option, Some, None, if◌then◌else◌}

-- the first of numbers
abbrev pub first_number : List ℕ → Option ℕ
first_number [] = None
first_number (k ∷ ks) = Some k

-- the number right behind another
abbrev pub number_behind : ℕ → List ℕ → Option ℕ
number_behind i [] = None
number_behind i (k ∷ ks) = if k == i then first_number ks else number_behind i ks

-- numbers, with another one right behind each that is this one
abbrev pub put_behind : ℕ → ℕ → List ℕ → List ℕ
put_behind i other [] = []
put_behind i other (k ∷ ks) = if k == i then k ∷ other ∷ put_behind i other ks else k ∷ put_behind i other ks
