-- A walk over ascending days that finds the periods on whose days something holds.
use Rattle.std.specs.Prelude.{ℕ, Bool, List, [], ◌∷◌, Option, Some, None, if◌then◌else◌}
use Rattle.desk_base.specs.declared.period.Period.{Period}
use Rattle.law_register.specs.Provisions.Spans.{span_from, spans_of}

-- the periods of the days that are left, where the test has held since a day, or does not hold
abbrev pub spans_after : (ℕ → Bool) → Option ℕ → List ℕ → List Period
spans_after test None days = spans_of test days
spans_after test (Some start) days = span_from test start days

-- the period that ends on a day, if one does
abbrev pub ended_on : Option ℕ → ℕ → Bool → List Period
ended_on None day holds = []
ended_on (Some start) day holds = if holds then [] else record { start = start; end = Some day } ∷ []

-- since when the test has held on a day, if it does
abbrev pub since_when : Option ℕ → ℕ → Bool → Option ℕ
since_when None day holds = if holds then Some day else None
since_when (Some start) day holds = if holds then Some start else None

-- the period that does not end, if there is one
abbrev pub not_ended : Option ℕ → List Period
not_ended None = []
not_ended (Some start) = record { start = start; end = None } ∷ []
