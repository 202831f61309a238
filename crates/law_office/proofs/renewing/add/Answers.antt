use Rattle.std.proofs.Common.{ℕ, List}
use Rattle.std.specs.Str.{bytes_eq}
use Rattle.indexmap.specs.IndexMap.{get_by}
use Rattle.version_cache.specs.Seen.{work_view}
use Rattle.law_office.proofs.InLine.{key_last}
use Rattle.law_office.proofs.Puts.{put_kept}
use Rattle.law_office.proofs.renewing.add.Goals as goal

pub returns-clause-kept : goal.returns-clause-kept
returns-clause-kept c =
    put_kept work_view (λ (w : List ℕ). get_by (bytes_eq w) c.args.tables.now) (λ (w : List ℕ). get_by (bytes_eq w) c.put.new.map)
    c.args.work c.args.kept c.put.ensures.value

pub returns-clause-key : goal.returns-clause-key
returns-clause-key c = key_last work_view c.args.tables.now.entries c.put.new.map.entries c.args.work c.args.kept c.put.ensures.entries
