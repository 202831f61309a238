-- Tables, as a clause sees them.
use Rattle.std.specs.Prelude.{option_map}
use Rattle.version_cache.specs.declared.table.Table.{Table}
use Rattle.version_cache.specs.declared.revision.Revision.{Revision}
use Rattle.version_cache.specs.declared.work_revision.WorkRevision.{WorkRevision}
use Rattle.version_cache.specs.declared.work_tables.WorkTables.{WorkTables}
use Rattle.version_cache.specs.Rows.{kept_view, rows_view}
use Rattle.version_cache.specs.Tables.{RevisionValue, TableValue}
use Rattle.version_cache.specs.Works.{WorkRevisionValue, WorkValue}

-- a table's reading, its act as enacted, and its rows
abbrev pub table_view : Table → TableValue
table_view table = record {
  reading = table.reading;
  enacted = kept_view table.enacted;
  rows = rows_view table.rows.items;
}

-- a revision's day, how many rows stay, and its rows
abbrev pub revision_view : Revision → RevisionValue
revision_view revision = record { touched = revision.touched; kept = revision.kept; rows = rows_view revision.rows.items }

-- what is known of a work by itself, its days, and its tables
abbrev pub work_view : WorkTables → WorkValue
work_view tables = record {
  known = tables.known;
  names = tables.names;
  days = tables.days;
  force = table_view tables.force;
  efficacy = table_view tables.efficacy;
}

-- the revisions of both tables
abbrev pub both_view : Revision × Revision → RevisionValue × RevisionValue
both_view both = (revision_view both.0, revision_view both.1)

-- what is known now of a work by itself, its days, and the revisions of its tables
abbrev pub work_revision_view : WorkRevision → WorkRevisionValue
work_revision_view revision =
    record { known = revision.known; names = revision.names; days = revision.days; tables = option_map both_view revision.tables }
