-- The clock tells the first day alone.
use Rattle.std.proofs.Common.{◌≡◌, ◌∙◌, ap, ◌∷◌, [], ℕ}
use Rattle.lawdesk.proofs.InMemory.{tells_one}
use Rattle.lawdesk.proofs.generating.generated_line.Goals as goal

pub generated_over-requires-clause-days : goal.generated_over-requires-clause-days
generated_over-requires-clause-days g c =
    tells_one c.in_ok-clock.clock (c.in_ok-clock.ensures ∙ ap (λ (d : ℕ). d ∷ []) c.first_day.ensures)
