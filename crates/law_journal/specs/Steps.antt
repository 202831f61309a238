-- What stands at a gate, as it is found from the first bytes and the length of the file.
use Rattle.std.specs.Prelude.{ℕ, ◌+◌, ◌==◌, ◌||◌, nat_lt, List, [], ◌∷◌, Some, None, if◌then◌else◌}
use Rattle.law_journal.specs.Grammar as grammar
use Rattle.law_journal.specs.declared.step.Found.{Found}
use Rattle.law_journal.specs.declared.step.Found.TheVariants.{End, Entry, Broken}

abbrev pub number_of : ℕ → ℕ → ℕ → ℕ → ℕ
number_of = grammar.number_of

-- a length has to be in range, and the payload and the next gate in the file
abbrev pub sized : ℕ → ℕ → ℕ → ℕ → Found
sized size first place len =
    if nat_lt size 1 || nat_lt 16777216 size then Broken (place + 1) (Some first)
    else if nat_lt (place + 5 + size) len then Entry size
    else Broken len None

-- what stands behind an open gate
abbrev pub found_open : List ℕ → ℕ → ℕ → Found
found_open (a ∷ b ∷ c ∷ d ∷ rest) place len = sized (number_of a b c d) a place len
found_open rest place len = Broken len None

-- what stands at a gate
abbrev pub found_at : List ℕ → ℕ → ℕ → Found
found_at [] place len = Broken len None
found_at (gate ∷ rest) place len = if gate == 1 then found_open rest place len else End
