use Rattle.law_office.proofs.Gathered.{on_any, told_works}
use Rattle.version_cache.specs.Seen.{work_revision_view}
use Rattle.law_office.proofs.references.gather_one.Goals as goal

pub returns-in_ok-insert-in-Some-get-clause-works : goal.returns-in_ok-insert-in-Some-get-clause-works
returns-in_ok-insert-in-Some-get-clause-works c =
    on_any c.add_revised.result
    (told_works c.args.work.now c.in_ok-copy-in-Some-get.field-0 (work_revision_view c.args.revision.now) c.in-Some.day c.args.works.now c.insert.new.self
    c.requires.fresh c.in-Some.ensures c.in_ok-copy-in-Some-get.ensures c.in_ok-insert-in-Some-get.ensures)
