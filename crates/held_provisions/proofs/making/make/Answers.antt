use Rattle.std.proofs.Common.{◌≡◌, ◌∙◌, sym, ap, subst, ◌≤◌, List, map, Some, arith}
use Rattle.std.proofs.lemmas.Result.{IfOk-weaker}
use Rattle.law_register.specs.declared.register.known.Known.{Known}
use Rattle.law_register.specs.Answer.Renewing.{both_costs}
use Rattle.law_register.specs.Answer.Soundness.{IsSound}
use Rattle.law_register.specs.Answer.Standing.{alone}
use Rattle.law_register.specs.Provisions.Carrying.{carrying}
use Rattle.law_register.specs.Provisions.Costs.{full}
use Rattle.version_cache.specs.Seen.{work_view}
use Rattle.held_provisions.specs.Sources.{AreSources, made_of}
use Rattle.held_provisions.proofs.MadeRight.{made_costs, made_known, made_right}
use Rattle.held_provisions.proofs.making.make.Goals as goal

pub carry-requires : goal.carry-requires
carry-requires g c = subst (λ (k : Known). alone k ≡ k) (sym c.in_ok-own.ensures) c.requires.alone

pub make-requires : goal.make-requires
make-requires g c =
    let line : List Known = map g.T.InLine.known_of c.args._works.now in
    let known : Known = c.args.known.now in
    let is : c.in_ok-carried.carried ≡ carrying line known =
    c.in_ok-carried.ensures line c.requires.line (subst (λ (k : Known). AreSources line k (made_of c.args.ahead.now)) (sym c.in_ok-own.ensures) c.requires.sources)
    ∙ ap (carrying line) c.in_ok-own.ensures in
    subst IsSound (sym is) (c.what_is_carried_is_sound.ensures line known c.requires.line (subst IsSound (sym c.requires.alone) c.requires.sound))

pub returns-clause-known : goal.returns-clause-known
returns-clause-known g c =
    let line : List Known = map g.T.InLine.known_of c.args._works.now in
    let known : Known = c.args.known.now in
    let is : c.in_ok-carried.carried ≡ carrying line known =
    c.in_ok-carried.ensures line c.requires.line (subst (λ (k : Known). AreSources line k (made_of c.args.ahead.now)) (sym c.in_ok-own.ensures) c.requires.sources)
    ∙ ap (carrying line) c.in_ok-own.ensures in
    IfOk-weaker c.make.result _ _ (λ made e. made_known line known c.requires.alone c.in_ok-carried.carried (work_view made) is e) c.make.ensures.made

pub returns-clause-right : goal.returns-clause-right
returns-clause-right g c =
    let line : List Known = map g.T.InLine.known_of c.args._works.now in
    let known : Known = c.args.known.now in
    let is : c.in_ok-carried.carried ≡ carrying line known =
    c.in_ok-carried.ensures line c.requires.line (subst (λ (k : Known). AreSources line k (made_of c.args.ahead.now)) (sym c.in_ok-own.ensures) c.requires.sources)
    ∙ ap (carrying line) c.in_ok-own.ensures in
    IfOk-weaker c.make.result _ _
    (λ made e. made_right line known c.requires.alone c.in_ok-carried.carried (work_view made) is e c.requires.there
    (λ reading day. c.what_is_carried_bears.ensures.versions line known reading day c.requires.line)
    (c.what_is_carried_bears.ensures.days line known))
    c.make.ensures.right

pub returns-clause-steps : goal.returns-clause-steps
returns-clause-steps g c =
    let line : List Known = map g.T.InLine.known_of c.args._works.now in
    let known : Known = c.args.known.now in
    let is : c.in_ok-carried.carried ≡ carrying line known =
    c.in_ok-carried.ensures line c.requires.line (subst (λ (k : Known). AreSources line k (made_of c.args.ahead.now)) (sym c.in_ok-own.ensures) c.requires.sources)
    ∙ ap (carrying line) c.in_ok-own.ensures in
    let few : both_costs c.in_ok-carried.carried (Some 0) ≤ full line known =
    made_costs line known c.in_ok-carried.carried is (λ reading. c.what_is_carried_bears.ensures.costs line known reading 0 c.requires.line) in
    omega (arith, few, c.make.ensures.steps)
