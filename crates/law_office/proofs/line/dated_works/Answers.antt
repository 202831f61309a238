use Rattle.std.proofs.Common.{rules, ◌≡◌, ◌∙◌, ◌+◌, ◌<◌, sym, ap, ℕ, List, [], ◌∷◌, ◌++◌, length, map, take}
use Rattle.std.proofs.lemmas.List.{take_more}
use Rattle.law_register.specs.declared.register.entry.Entry.{Entry}
use Rattle.law_register.specs.Register.LawList.{acts_by}
use Rattle.law_office.specs.declared.line.DatedWork.{DatedWork}
use Rattle.law_office.specs.Line.{dated_work}
use Rattle.law_office.proofs.InLine.{one_act_more}
use Rattle.law_office.proofs.line.dated_works.Goals as goal

pub loop-index-preserved : goal.loop-index-preserved
loop-index-preserved c =
    let es : List Entry = c.args.register.now.entries in
    let i : ℕ = c.loop-index.index in
    let e : Entry = c.entry.result.now in
    let within : i < length es = search rules in
    let next : take (i + 1) es ≡ take i es ++ e ∷ [] = take_more es i e within ∙ ap (λ x. take i es ++ x ∷ []) (sym c.entry.ensures) in
    c.in_ok-add_enacted.ensures
    ∙ ap (λ (works : List DatedWork). works ++ map dated_work (acts_by e.command)) c.loop-index.invariant
    ∙ sym (one_act_more es i e next)
