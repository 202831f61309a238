-- That revisions are of these tables has one proof at most, so that what lends both may carry it.
use Rattle.std.specs.Prelude.{Option, Some, None}
use Rattle.std.specs.Coded.{Coded-set, codes, coded_ℕ}
use Rattle.version_cache.specs.Tables.{RevisionValue}
use Rattle.version_cache.specs.Works.{AreRevisionsOf, IsRevisionIf, WorkRevisionValue, WorkValue}

AreRevisionsOf-prop : (work : WorkValue) (tables : Option (RevisionValue × RevisionValue)) → IsProp (AreRevisionsOf work tables)
AreRevisionsOf-prop work None = hlevel (codes, Coded-set, Coded-set coded_ℕ)
AreRevisionsOf-prop work (Some tables) = hlevel (codes, Coded-set, Coded-set coded_ℕ)

pub IsRevisionIf-prop : (work : WorkValue) (revision : Option WorkRevisionValue) → IsProp (IsRevisionIf work revision)
IsRevisionIf-prop work None = hlevel (codes, Coded-set, Coded-set coded_ℕ)
IsRevisionIf-prop work (Some revision) = AreRevisionsOf-prop work revision.tables
