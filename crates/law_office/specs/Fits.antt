-- That a revision is of what is kept has one proof at most, so that what holds both may carry it.
use Rattle.std.specs.Prelude.{[], ◌∷◌, IfSome, Option, Some, None}
use Rattle.std.specs.Coded.{Coded-set, codes, coded_ℕ}
use Rattle.version_cache.specs.Tables.{RevisionValue}
use Rattle.version_cache.specs.Works.{AreRevisionsOf, IsRevisionIf, WorkRevisionValue, WorkValue}
use Rattle.law_office.specs.Movements.{FitOnce, Revised}
use Rattle.law_office.specs.Tables.{Kept}

AreRevisionsOf-prop : (work : WorkValue) (tables : Option (RevisionValue × RevisionValue)) → IsProp (AreRevisionsOf work tables)
AreRevisionsOf-prop work None = hlevel
AreRevisionsOf-prop work (Some tables) = hlevel (codes, Coded-set, Coded-set coded_ℕ)

pub IsRevisionIf-prop : (work : WorkValue) (revision : Option WorkRevisionValue) → IsProp (IsRevisionIf work revision)
IsRevisionIf-prop work None = hlevel
IsRevisionIf-prop work (Some revision) = AreRevisionsOf-prop work revision.tables

IfSome-prop : (kept : Option WorkValue) (revision : WorkRevisionValue) → IsProp (IfSome kept (λ k. AreRevisionsOf k revision.tables))
IfSome-prop None revision = hlevel
IfSome-prop (Some kept) revision = AreRevisionsOf-prop kept revision.tables

pub FitOnce-prop : (revised : Revised) (kept : Kept) → IsProp (FitOnce revised kept)
FitOnce-prop [] kept = hlevel
FitOnce-prop (one ∷ others) kept =
    let first = IfSome-prop (kept one.0) one.1 in
    let rest = FitOnce-prop others kept in
    hlevel (codes, first, rest)
