-- The days of rows.
use Rattle.std.proofs.Common.{◌≡◌, ◌∙◌, sym, ap, refl, ℕ, true, List, [], ◌∷◌, map}
use Rattle.law_register.specs.declared.answer.question.Reading.{Reading}
use Rattle.law_register.specs.declared.register.known.Known.{Known}
use Rattle.law_register.specs.Answer.Breakpoints.{breakpoints}
use Rattle.law_register.proofs.NamedDays.{breakpoints_ascend}
use Rattle.version_cache.specs.declared.row.Row.{Row}
use Rattle.version_cache.specs.Days.{is_ascending}
use Rattle.version_cache.specs.Rows.{days_in, rows_view}
use Rattle.version_cache.specs.Tables.{rows_on}
use Rattle.version_cache.proofs.Parted.{ascending}

pub days_seen : (rows : List Row) → days_in rows ≡ map (λ row. row.day) (rows_view rows)
days_seen [] = refl
days_seen (row ∷ rows) = ap (λ days. row.day ∷ days) (days_seen rows)

-- rows that are seen alike have the same days
pub same_days : (xs ys : List Row) → rows_view xs ≡ rows_view ys → days_in xs ≡ days_in ys
same_days xs ys h = days_seen xs ∙ ap (map (λ row. row.day)) h ∙ sym (days_seen ys)

pub days_of_rows : (known : Known) (r : Reading) (days : List ℕ) → map (λ row. row.day) (rows_on known r days) ≡ days
days_of_rows known r [] = refl
days_of_rows known r (day ∷ days) = ap (λ ds. day ∷ ds) (days_of_rows known r days)

-- rows of some days have these days
pub days_made : (known : Known) (r : Reading) (days : List ℕ) (rows : List Row) → rows_view rows ≡ rows_on known r days → days_in rows ≡ days
days_made known r days rows h = days_seen rows ∙ ap (map (λ row. row.day)) h ∙ days_of_rows known r days

-- rows of the breakpoints ascend
pub made_ascend : (known : Known) (r : Reading) (rows : List Row) → rows_view rows ≡ rows_on known r (breakpoints known) → is_ascending (days_in rows) ≡ true
made_ascend known r rows h = ap is_ascending (days_made known r (breakpoints known) rows h) ∙ ascending (breakpoints known) (breakpoints_ascend known)
