use Rattle.std.proofs.Common.{◌∙◌}
use Rattle.held_provisions.proofs.FoundWorks.{same_works}
use Rattle.held_provisions.proofs.Partial.{lines_are_enough}
use Rattle.held_provisions.proofs.touching.touched_works.Goals as goal

pub touched_in_lines-requires-clause-lines : goal.touched_in_lines-requires-clause-lines
touched_in_lines-requires-clause-lines c =
    lines_are_enough c.args.register.now.entries c.args.entry.now _ _
    (same_works c.as_slice.result.now ∙ c.as_slice.ensures.value ∙ c.in_ok-old.ensures)
    (same_works c.as_slice-2.result.now ∙ c.as_slice-2.ensures.value ∙ c.in_ok-new.ensures)
