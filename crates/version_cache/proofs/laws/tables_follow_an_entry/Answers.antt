use Rattle.version_cache.specs.Seen.{work_view}
use Rattle.version_cache.proofs.Following.{tables_follow}
use Rattle.version_cache.proofs.laws.tables_follow_an_entry.Goals as goal

pub returns : goal.returns
returns c = λ entries entry work legal is. tables_follow entries entry work (work_view c.args._tables.now) legal is
