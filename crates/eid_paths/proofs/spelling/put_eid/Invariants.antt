-- What was spelled, with the levels that are left behind it, is what all levels spell; all have nums if those left do.
use Rattle.std.proofs.Common.{◌≡◌, ◌++◌, drop, string_bytes}
use Rattle.eid_paths.specs.Levels.{have_nums}
use Rattle.eid_paths.specs.Eids.{eid_text}
use Rattle.eid_paths.proofs.Spellings.{behind}
use Rattle.eid_paths.proofs.spelling.put_eid.Given as goal

abbrev pub invariant-loop-level : goal.invariant-loop-level
invariant-loop-level l =
    (string_bytes l.eid ++ behind (drop l.level-index l.level-items) ≡ eid_text l.levels)
    × (have_nums (drop l.level-index l.level-items) ≡ have_nums l.levels)
