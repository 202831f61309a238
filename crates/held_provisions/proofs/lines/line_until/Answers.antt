use Rattle.std.proofs.Common.{rules, ◌≡◌, ◌∙◌, ap, drop, take}
use Rattle.law_register.specs.Register.LawList.{laws}
use Rattle.held_provisions.specs.Placing.{works_of}
use Rattle.held_provisions.proofs.Until.{line_told}
use Rattle.law_register.specs.Provisions.Line.{line_of}
use Rattle.held_provisions.proofs.lines.line_until.Goals as goal

pub returns : goal.returns
returns c =
    let es = c.args.register.now.entries in
    let law = take c.args.viewpoint (laws es) in
    let none : c.loop-index.index ≡ 0 = search rules in
    c.loop-index.invariant
    ∙ ap (λ n. line_of law (works_of (drop n (take c.entries_until-count.result es)))) none
    ∙ line_told law (take c.entries_until-count.result es) c.entries_until-count.ensures.law
