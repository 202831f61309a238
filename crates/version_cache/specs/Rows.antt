-- Rows, as a clause sees them.
use Rattle.std.specs.Prelude.{ℕ, List, map}
use Rattle.std.specs.Arc.{arc_value}
use Rattle.law_register.specs.Answer.Replay.{VersionValue}
use Rattle.law_register.specs.Answer.Versions.{version_view}
use Rattle.version_cache.specs.declared.kept_version.KeptVersion.{KeptVersion}
use Rattle.version_cache.specs.declared.row.Row.{Row}
use Rattle.version_cache.specs.Tables.{RowValue}

-- a version that is kept
abbrev pub kept_view : KeptVersion → VersionValue
kept_view kept = version_view (arc_value kept.version)

-- a row's day, and its version
abbrev pub row_view : Row → RowValue
row_view row = record { day = row.day; version = kept_view row.kept }

-- rows
abbrev pub rows_view : List Row → List RowValue
rows_view rows = map row_view rows

-- the days of rows
abbrev pub days_in : List Row → List ℕ
days_in rows = map (λ row. row.day) rows
