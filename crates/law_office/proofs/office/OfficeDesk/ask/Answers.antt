use Rattle.std.proofs.Common.{sym, subst, Option, option_map}
use Rattle.law_register.specs.Provisions.Carrying.{held_now}
use Rattle.version_cache.specs.declared.work_tables.WorkTables.{WorkTables}
use Rattle.version_cache.specs.Seen.{work_view}
use Rattle.law_office.specs.Tables.{Matches}
use Rattle.law_office.proofs.office.OfficeDesk.ask.Goals as goal

pub answer-requires-clause-right : goal.answer-requires-clause-right
answer-requires-clause-right g c =
    let book = c.self.inside.book in
    let work = c.args.question.now.work in
    subst (λ (o : Option WorkTables). Matches (held_now book.register.entries work) (option_map work_view o)) (sym c.in-Some.ensures.value)
    ((c.self.invariant.0).tables work)

pub refuse_unknown-requires-clause-unknown : goal.refuse_unknown-requires-clause-unknown
refuse_unknown-requires-clause-unknown g c =
    let book = c.self.inside.book in
    let work = c.args.question.now.work in
    subst (λ (o : Option WorkTables). Matches (held_now book.register.entries work) (option_map work_view o)) (sym c.in-None.ensures.value)
    ((c.self.invariant.0).tables work)
