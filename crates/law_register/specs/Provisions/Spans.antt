-- Days on which something holds, as periods.
use Rattle.std.specs.Prelude.{ℕ, Bool, List, [], ◌∷◌, Some, None, if◌then◌else◌}
use Rattle.desk_base.specs.declared.period.Period.{Period}

-- of ascending days between which a test stands still, the longest periods on whose days it holds; before the first of these days it does
-- not hold, or it has held from a day on
abbrev mutual
  pub spans_of : (ℕ → Bool) → List ℕ → List Period
  spans_of test [] = []
  spans_of test (day ∷ days) = if test day then span_from test day days else spans_of test days

  pub span_from : (ℕ → Bool) → ℕ → List ℕ → List Period
  span_from test start [] = record { start = start; end = None } ∷ []
  span_from test start (day ∷ days) =
      if test day then span_from test start days else record { start = start; end = Some day } ∷ spans_of test days
