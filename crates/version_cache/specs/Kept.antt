-- That a version is as replay makes it has one proof at most, so that what keeps a version may carry it.
use Rattle.std.specs.Coded.{Coded-set, codes, coded_ℕ, coded_bool}
use Rattle.law_register.specs.Answer.Replay.{VersionValue}
use Rattle.law_register.specs.Answer.Soundness.{IsReplayed}

pub IsReplayed-prop : (version : VersionValue) → IsProp (IsReplayed version)
IsReplayed-prop version = hlevel (codes, Coded-set, Coded-set coded_ℕ, Coded-set coded_bool)
