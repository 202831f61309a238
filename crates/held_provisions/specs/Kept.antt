-- When provisions stand in the versions that are kept of a work.
use Rattle.std.specs.Prelude.{ℕ, Bool, List, Option, Some, None, option_map}
use Rattle.held_provisions.specs.declared.source.Source.{Source}
use Rattle.law_register.specs.declared.answer.question.Reading.{Reading}
use Rattle.law_register.specs.declared.register.known.Known.{Known}
use Rattle.law_register.specs.Answer.Replay.{VersionValue}
use Rattle.law_register.specs.Provisions.Trees.{WorkText, stands_in}
use Rattle.version_cache.specs.Seen.{work_revision_view, work_view}
use Rattle.version_cache.specs.Tables.{RevisionValue, TableValue, committed, version_on, IsRevisionOf}
use Rattle.version_cache.specs.Works.{WorkValue, renewed_if}

-- a work of which this is known, with a version
abbrev pub text_of : Known → VersionValue → WorkText
text_of known version = record { known = known; version = version }

-- a provision stands in a version on its day
abbrev pub stands_by_version : Known → Reading → ℕ → List ℕ → VersionValue → Bool
stands_by_version known reading day wid version = stands_in reading day wid (Some (text_of known version))

-- a revision, if there is one, is of a table
abbrev pub IsRevisionIf : TableValue → Option RevisionValue → Type 0
IsRevisionIf table None = Unit {0}
IsRevisionIf table (Some revision) = IsRevisionOf table revision

-- a table after a revision, if there is one
abbrev pub committed_if : TableValue → Option RevisionValue → TableValue
committed_if table None = table
committed_if table (Some revision) = committed table revision

-- a provision stands on a day by the versions of a table
abbrev pub stands_by_table : Known → TableValue → List ℕ → ℕ → Bool
stands_by_table known table wid day = stands_by_version known table.reading day wid (version_on table day)

-- what is kept of a source, once its revision is committed, if there is one
abbrev pub source_view : Source → WorkValue
source_view source = renewed_if (work_view source.tables.now) (option_map (λ r. work_revision_view r.now) source.revision)
