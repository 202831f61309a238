use Rattle.std.proofs.Common.{◌≡◌, ◌∙◌, sym, ap, subst, ◌≤◌, List, [], filter, map, Some, arith}
use Rattle.std.specs.List.{AllByRecursion, sum_by}
use Rattle.law_register.specs.declared.register.known.Known.{Known}
use Rattle.law_register.specs.Answer.Soundness.{IsSound}
use Rattle.law_register.specs.Answer.Standing.{alone}
use Rattle.law_register.specs.Provisions.Costs.{full, held_cost}
use Rattle.law_register.specs.Provisions.Depending.{depends}
use Rattle.law_register.specs.Provisions.Line.{work_in}
use Rattle.held_provisions.specs.Needing.{HaveAhead, needed_in}
use Rattle.held_provisions.proofs.Costed.{needed_costs}
use Rattle.held_provisions.proofs.MadeAll.{are_sources}
use Rattle.held_provisions.proofs.NeededAhead.{needed_ahead, needed_all, needed_on}
use Rattle.held_provisions.proofs.knowing.carried_from.Goals as goal

pub make_all-requires-clause-there : goal.make_all-requires-clause-there
make_all-requires-clause-there g c =
    let line : List Known = map g.T.InLine.known_of c.args.works.now in
    let IsThere : Known → Type 0 = λ (k : Known). work_in k.act.work line ≡ Some k in
    subst (AllByRecursion IsThere) (sym (c.as_slice.ensures.value ∙ c.in_ok-needed.ensures)) (needed_all IsThere line c.args.known line c.requires.line.own)

pub make_all-requires-clause-ahead : goal.make_all-requires-clause-ahead
make_all-requires-clause-ahead g c =
    let line : List Known = map g.T.InLine.known_of c.args.works.now in
    subst (HaveAhead line line []) (sym (c.as_slice.ensures.value ∙ c.in_ok-needed.ensures)) (needed_ahead line c.args.known c.requires.line)

pub make_all-requires-clause-alone : goal.make_all-requires-clause-alone
make_all-requires-clause-alone g c =
    let line : List Known = map g.T.InLine.known_of c.args.works.now in
    let IsAlone : Known → Type 0 = λ (k : Known). alone k ≡ k in
    subst (AllByRecursion IsAlone) (sym (c.as_slice.ensures.value ∙ c.in_ok-needed.ensures)) (needed_all IsAlone line c.args.known line c.requires.each_alone)

pub make_all-requires-clause-sound : goal.make_all-requires-clause-sound
make_all-requires-clause-sound g c =
    let line : List Known = map g.T.InLine.known_of c.args.works.now in
    subst (AllByRecursion IsSound) (sym (c.as_slice.ensures.value ∙ c.in_ok-needed.ensures)) (needed_all IsSound line c.args.known line c.requires.sound)

pub returns-in_err-made-clause-steps : goal.returns-in_err-made-clause-steps
returns-in_err-made-clause-steps g c =
    let line : List Known = map g.T.InLine.known_of c.args.works.now in
    let cost : sum_by (full line) c.as_slice.result.now ≤ held_cost line c.args.known =
    subst (λ (ks : List Known). sum_by (full line) ks ≤ held_cost line c.args.known) (sym (c.as_slice.ensures.value ∙ c.in_ok-needed.ensures))
    (needed_costs line c.requires.line c.args.known) in
    omega (arith, cost, c.make_all.ensures.steps)

pub returns-clause-known : goal.returns-clause-known
returns-clause-known g c =
    let line : List Known = map g.T.InLine.known_of c.args.works.now in
    let known : Known = c.args.known in
    let needed : c.as_slice.result.now ≡ needed_in line known line = c.as_slice.ensures.value ∙ c.in_ok-needed.ensures in
    c.carry.ensures line c.requires.line
    (are_sources line known c.in_ok-made.made c.in_ok-made.ensures.right
    (ap (filter (λ (k : Known). depends line known k.act.work)) (c.in_ok-made.ensures.known ∙ needed) ∙ needed_on line known))

pub returns-clause-steps : goal.returns-clause-steps
returns-clause-steps g c =
    let line : List Known = map g.T.InLine.known_of c.args.works.now in
    let cost : sum_by (full line) c.as_slice.result.now ≤ held_cost line c.args.known =
    subst (λ (ks : List Known). sum_by (full line) ks ≤ held_cost line c.args.known) (sym (c.as_slice.ensures.value ∙ c.in_ok-needed.ensures))
    (needed_costs line c.requires.line c.args.known) in
    omega (arith, cost, c.make_all.ensures.steps)
