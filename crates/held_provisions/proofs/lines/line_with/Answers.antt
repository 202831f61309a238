use Rattle.std.proofs.Common.{rules, ◌≡◌, ◌∙◌, ◌++◌, ◌∷◌, [], ap, drop}
use Rattle.law_register.specs.Register.LawList.{laws}
use Rattle.law_register.specs.Provisions.Line.{line_of}
use Rattle.held_provisions.specs.Placing.{works_of}
use Rattle.held_provisions.proofs.Placed.{whole_line}
use Rattle.held_provisions.proofs.lines.line_with.Goals as goal

pub returns : goal.returns
returns c =
    let es = c.args.register.now.entries in
    let behind = c.args.entry.now ∷ [] in
    let none : c.loop-index.index ≡ 0 = search rules in
    c.loop-index.invariant ∙ ap (λ n. line_of (laws (es ++ behind)) (works_of (drop n es ++ behind))) none ∙ whole_line (es ++ behind)
