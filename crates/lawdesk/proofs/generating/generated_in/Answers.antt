-- The office is empty, and its clock tells the first day alone.
use Rattle.std.proofs.Common.{◌≡◌, ◌∙◌, ap, subst, sym}
use Rattle.law_generator.specs.Acts.{first_day}
use Rattle.law_generator.specs.Courses.{TellsOnly}
use Rattle.law_office.specs.Offices.{pending_of}
use Rattle.lawdesk.proofs.generating.generated_in.Goals as goal

pub generate-told-requires-clause-ready : goal.generate-told-requires-clause-ready
generate-told-requires-clause-ready g c =
    let Tells : g.row.C.Denot → Type 0 = λ clock. TellsOnly first_day (g.C.Clock.days clock) in
    record {
      pending = c.new-office.ensures.pending ∙ ap pending_of c.requires.none_pending;
      days = subst Tells (sym c.new-office.ensures.clock) c.requires.days;
    }
