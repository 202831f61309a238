-- One day more of a walk that finds periods.
use Rattle.std.proofs.Common.{◌≡◌, ◌∙◌, ap, refl, ℕ, Bool, true, false, cond, List, [], ◌∷◌, ◌++◌, append_assoc, Option, Some, None}
use Rattle.desk_base.specs.declared.period.Period.{Period}
use Rattle.held_provisions.specs.Kept.{committed_if}
use Rattle.held_provisions.specs.Walking.{ended_on, not_ended, since_when, spans_after}
use Rattle.law_register.specs.Provisions.Spans.{span_from, spans_of}
use Rattle.version_cache.specs.Tables.{RevisionValue, TableValue}

one_day : (test : ℕ → Bool) (day : ℕ) (days : List ℕ) (since : Option ℕ)
    → ended_on since day (test day) ++ spans_after test (since_when since day (test day)) days ≡ spans_after test since (day ∷ days)
one_day test day days None = by (test day)
  where
    by : (b : Bool) → [] ++ spans_after test (cond b (Some day) None) days ≡ cond b (span_from test day days) (spans_of test days)
    by true = refl
    by false = refl
one_day test day days (Some start) = by (test day)
  where
    by : (b : Bool) → cond b [] (record { start = start; end = Some day } ∷ []) ++ spans_after test (cond b (Some start) None) days
        ≡ cond b (span_from test start days) (record { start = start; end = Some day } ∷ spans_of test days)
    by true = refl
    by false = refl

-- the periods so far and those of the days that are left, one day on
pub walked : (test : ℕ → Bool) (day : ℕ) (days : List ℕ) (since : Option ℕ) (holds : Bool) → holds ≡ test day → (old new all : List Period)
    → new ≡ old ++ ended_on since day holds → old ++ spans_after test since (day ∷ days) ≡ all
    → new ++ spans_after test (since_when since day holds) days ≡ all
walked test day days since holds is old new all made so_far =
    ap (λ ps. ps ++ spans_after test (since_when since day holds) days) made
    ∙ append_assoc old (ended_on since day holds) (spans_after test (since_when since day holds) days)
    ∙ ap (λ b. old ++ (ended_on since day b ++ spans_after test (since_when since day b) days)) is
    ∙ ap (λ ps. old ++ ps) (one_day test day days since)
    ∙ so_far

last_day : (test : ℕ → Bool) (since : Option ℕ) → not_ended since ≡ spans_after test since []
last_day test None = refl
last_day test (Some start) = refl

pub walked_all : (test : ℕ → Bool) (since : Option ℕ) (old new all : List Period) → new ≡ old ++ not_ended since → old ++ spans_after test since [] ≡ all → new ≡ all
walked_all test since old new all made so_far = made ∙ ap (λ ps. old ++ ps) (last_day test since) ∙ so_far

-- a table keeps its reading
pub same_reading : (table : TableValue) (revision : Option RevisionValue) → table.reading ≡ (committed_if table revision).reading
same_reading table None = refl
same_reading table (Some revision) = refl
