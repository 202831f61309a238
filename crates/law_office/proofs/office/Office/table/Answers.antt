use Rattle.std.proofs.Common.{◌∙◌, sym, ap, subst, Option, is_some, option_map}
use Rattle.law_register.specs.declared.register.known.Known.{Known}
use Rattle.law_register.specs.Provisions.Carrying.{held_now}
use Rattle.version_cache.specs.declared.work_tables.WorkTables.{WorkTables}
use Rattle.version_cache.specs.Seen.{work_view}
use Rattle.version_cache.specs.Tables.{IsRight, TableValue}
use Rattle.law_office.specs.Tables.{Matches}
use Rattle.law_office.proofs.AskedFor.{in_reading, is_known, right_in}
use Rattle.law_office.proofs.office.Office.table.Goals as goal

pub returns-in-Some-clause-found : goal.returns-in-Some-clause-found
returns-in-Some-clause-found g c =
    let es = c.self.inside.book.register.entries in
    let work = c.args.work.now in
    rw (sym c.self.view_is)
    (is_known (held_now es work) (work_view c.in-Some.kept.now)
    (subst (λ (o : Option WorkTables). Matches (held_now es work) (option_map work_view o)) (sym c.in-Some.ensures.value) ((c.self.invariant.0).tables work)))

pub returns-in-Some-clause-reading : goal.returns-in-Some-clause-reading
returns-in-Some-clause-reading g c =
    let es = c.self.inside.book.register.entries in
    let work = c.args.work.now in
    ap (λ (t : TableValue). t.reading) c.table.ensures
    ∙ in_reading (held_now es work) (work_view c.in-Some.kept.now) c.args.reading
    (subst (λ (o : Option WorkTables). Matches (held_now es work) (option_map work_view o)) (sym c.in-Some.ensures.value) ((c.self.invariant.0).tables work))

pub returns-in-Some-clause-right : goal.returns-in-Some-clause-right
returns-in-Some-clause-right g c =
    let es = c.self.inside.book.register.entries in
    let work = c.args.work.now in
    rw (sym c.self.view_is)
    (λ known is. subst (λ (t : TableValue). IsRight known t) (sym c.table.ensures)
    (right_in (held_now es work) (work_view c.in-Some.kept.now) c.args.reading
    (subst (λ (o : Option WorkTables). Matches (held_now es work) (option_map work_view o)) (sym c.in-Some.ensures.value) ((c.self.invariant.0).tables work))
    known is))

pub returns-in-None-clause-found : goal.returns-in-None-clause-found
returns-in-None-clause-found g c =
    let es = c.self.inside.book.register.entries in
    let work = c.args.work.now in
    rw (sym c.self.view_is)
    (sym (ap (λ (k : Option Known). is_some k)
    (subst (λ (o : Option WorkTables). Matches (held_now es work) (option_map work_view o)) (sym c.in-None.ensures.value) ((c.self.invariant.0).tables work))))
