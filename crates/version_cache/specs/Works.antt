-- What is kept of an enacted work: what is known of it, and its versions by day in both readings.
use Rattle.std.specs.Prelude.{◌≡◌, ℕ, Bool, List, Option, Some, None}
use Rattle.law_register.specs.declared.answer.question.Reading.{Reading}
use Rattle.law_register.specs.declared.answer.question.Reading.TheVariants.{Force, Efficacy}
use Rattle.law_register.specs.declared.register.known.Known.{Known}
use Rattle.law_register.specs.Answer.Breakpoints.{breakpoints}
use Rattle.law_register.specs.Answer.Standing.{alone}
use Rattle.law_register.specs.Provisions.Looking.{names_any}
use Rattle.version_cache.specs.Tables.{IsRevisionOf, IsRightEarly, IsRightUntil, RevisionValue, TableValue, committed, revision_of, table_of}

-- what is known of a work by itself, whether a modification of it names a provision, the days on which its text may change, and a table
-- for each reading
pub record WorkValue : Type 0 where
  pub known : Known
  pub names : Bool
  pub days : List ℕ
  pub force : TableValue
  pub efficacy : TableValue

-- what is kept of a work of which this is known
abbrev pub work_of : Known → WorkValue
work_of known = record {
  known = alone known;
  names = names_any known;
  days = breakpoints known;
  force = table_of known Force;
  efficacy = table_of known Efficacy;
}

-- the table of a reading
abbrev pub table_in : Reading → WorkValue → TableValue
table_in Force work = work.force
table_in Efficacy work = work.efficacy

-- the same is known of a work; how many law entries there are, and how many of them are known, may differ
pub record IsAlike (old new : Known) : Type 0 where
  pub act : old.act ≡ new.act
  pub enacted : old.enacted ≡ new.enacted
  pub mods : old.mods ≡ new.mods
  pub sources : old.source_days ≡ new.source_days

-- the tables of a work are each in its reading, and right before a day for what is known; on all days, where there is no such day
pub record AreRightUntil (known : Known) (until : Option ℕ) (work : WorkValue) : Type 0 where
  pub readings : (reading : Reading) → (table_in reading work).reading ≡ reading
  pub right : (reading : Reading) → IsRightUntil known until (table_in reading work)

-- so are they on each day of the calendar before that day
pub record AreRightEarly (known : Known) (until : Option ℕ) (work : WorkValue) : Type 0 where
  pub readings : (reading : Reading) → (table_in reading work).reading ≡ reading
  pub right : (reading : Reading) → IsRightEarly known until (table_in reading work)

-- what is kept of a work is for what is known of it: it is that by itself, with its days, and the tables are right for it
pub record IsFor (known : Known) (work : WorkValue) : Type 0 where
  pub alike : IsAlike work.known (alone known)
  pub names : work.names ≡ names_any known
  pub days : work.days ≡ breakpoints known
  pub tables : AreRightUntil known None work

-- the tables are right before a day, where the work is known; a work that is not known has none
abbrev pub AreRightIf : Option Known → Option ℕ → WorkValue → Type 0
AreRightIf None until work = ⊥
AreRightIf (Some known) until work = AreRightUntil known until work

abbrev pub AreRightEarlyIf : Option Known → Option ℕ → WorkValue → Type 0
AreRightEarlyIf None until work = ⊥
AreRightEarlyIf (Some known) until work = AreRightEarly known until work

-- what is kept is for what is known; of a work that is not known nothing is kept
abbrev pub IsForIf : Option Known → WorkValue → Type 0
IsForIf None work = ⊥
IsForIf (Some known) work = IsFor known work

-- a revision of what is kept of a work: what is known now by itself, whether it names a provision, its days, and a revision of each table,
-- where a day is touched
pub record WorkRevisionValue : Type 0 where
  pub known : Known
  pub names : Bool
  pub days : List ℕ
  pub tables : Option (RevisionValue × RevisionValue)

-- the revisions of both tables from the touched day on, by what is known now; none, where no day is touched
abbrev pub revisions_of : WorkValue → Known → Option ℕ → Option (RevisionValue × RevisionValue)
revisions_of work known None = None
revisions_of work known (Some touched) =
    Some (revision_of work.force known touched, revision_of work.efficacy known touched)

-- the revision of what is kept of a work, by what is known now
abbrev pub work_revision_of : WorkValue → Known → Option ℕ → WorkRevisionValue
work_revision_of work known touched = record {
  known = alone known;
  names = names_any known;
  days = breakpoints known;
  tables = revisions_of work known touched;
}

-- revisions are those of these tables
abbrev pub AreRevisionsOf : WorkValue → Option (RevisionValue × RevisionValue) → Type 0
AreRevisionsOf work None = Unit {0}
AreRevisionsOf work (Some tables) = IsRevisionOf work.force tables.0 × IsRevisionOf work.efficacy tables.1

-- what is kept of a work, with this known of it, this said of its names, these days and both tables revised, where there are revisions
abbrev pub renewed_by : WorkValue → Known → Bool → List ℕ → Option (RevisionValue × RevisionValue) → WorkValue
renewed_by work known names days None = record work { known = known; names = names; days = days }
renewed_by work known names days (Some tables) = record {
  known = known;
  names = names;
  days = days;
  force = committed work.force tables.0;
  efficacy = committed work.efficacy tables.1;
}

-- what is kept of a work after a revision
abbrev pub renewed : WorkValue → WorkRevisionValue → WorkValue
renewed work revision = renewed_by work revision.known revision.names revision.days revision.tables

-- a revision, if there is one, is of these tables
abbrev pub IsRevisionIf : WorkValue → Option WorkRevisionValue → Type 0
IsRevisionIf work None = Unit {0}
IsRevisionIf work (Some revision) = AreRevisionsOf work revision.tables

-- what is kept of a work after a revision, if there is one
abbrev pub renewed_if : WorkValue → Option WorkRevisionValue → WorkValue
renewed_if work None = work
renewed_if work (Some revision) = renewed work revision
