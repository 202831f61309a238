use Rattle.std.proofs.Common.{◌∙◌, ◌++◌, ◌∷◌, [], ap, map, refl}
use Rattle.std.proofs.lemmas.Result.{IfOk-weaker}
use Rattle.law_register.specs.Provisions.Line.{line}
use Rattle.law_register.specs.Register.LawList.{laws}
use Rattle.held_provisions.specs.Reaching as reaching
use Rattle.held_provisions.proofs.Alongside.{found_along}
use Rattle.held_provisions.proofs.Partial.{found_enough}
use Rattle.held_provisions.proofs.touching.touched_in_lines.Goals as goal

pub returns : goal.returns
returns g c =
    let entries = c.args.register.now.entries in
    let entry = c.args.entry.now in
    IfOk-weaker c.days_told.result _ _
    (λ touched e. e
    ∙ ap reaching.days_told (c.as_slice.ensures.value ∙ c.in_ok-along.ensures)
    ∙ found_enough entries entry (map g.O.InLine.known_of c.args.old.now) (map g.N.InLine.known_of c.args.new.now) c.requires.lines
    ∙ found_along entries entry (line (laws entries)) (line (laws (entries ++ entry ∷ []))) refl refl)
    c.days_told.ensures
