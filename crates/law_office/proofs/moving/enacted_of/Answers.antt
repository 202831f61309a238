use Rattle.std.proofs.Common.{◌≡◌, ◌∙◌, sym, ap, subst, arith, Some, None}
use denote.Ref.{Bor}
use Rattle.law_register.specs.declared.register.known.Known.{Known}
use Rattle.law_register.specs.Answer.Renewing.{both_costs}
use Rattle.law_register.specs.Answer.Soundness.{IsSound}
use Rattle.version_cache.specs.declared.work_tables.WorkTables.{WorkTables}
use Rattle.version_cache.specs.Seen.{work_view}
use Rattle.law_office.specs.Tables.{kept_in}
use Rattle.law_office.proofs.Concerning.{bare, is_made, none_made_of, nothing, sound}
use Rattle.law_office.proofs.Moved.{seen}
use Rattle.law_office.proofs.moving.enacted_of.Goals as goal

pub returns-then-is_some-clause-made : goal.returns-then-is_some-clause-made
returns-then-is_some-clause-made g c =
    let es = c.args.register.now.entries in
    let e = c.args._entry.now in
    let legal = c.entries_are_legal.ensures in
    let kept = kept_in c.args.tables.now in
    let known = c.args.concerned.now in
    none_made_of es e legal kept c.requires.right known c.requires.known c.requires.accepted c.requires.concerned
    (seen (λ (k : Bor WorkTables). k.now) work_view c.get.result _ c.get.ensures.value ∙ sym c.is_some.ensures ∙ c.if-is_some.true)

pub bare_acts_stay-requires : goal.bare_acts_stay-requires
bare_acts_stay-requires g c =
    let es = c.args.register.now.entries in
    let e = c.args._entry.now in
    let legal = c.entries_are_legal.ensures in
    let kept = kept_in c.args.tables.now in
    let known = c.args.concerned.now in
    let none : kept known.act.work ≡ None = nothing (kept known.act.work) (seen (λ (k : Bor WorkTables). k.now) work_view c.get.result _ c.get.ensures.value ∙ sym c.is_some.ensures ∙ c.if-is_some.false) in
    bare es e legal kept c.requires.right known c.requires.known c.requires.accepted none

pub make-requires : goal.make-requires
make-requires g c =
    let es = c.args.register.now.entries in
    let e = c.args._entry.now in
    let legal = c.entries_are_legal.ensures in
    let kept = kept_in c.args.tables.now in
    let known = c.args.concerned.now in
    let none : kept known.act.work ≡ None = nothing (kept known.act.work) (seen (λ (k : Bor WorkTables). k.now) work_view c.get.result _ c.get.ensures.value ∙ sym c.is_some.ensures ∙ c.if-is_some.false) in
    subst IsSound (sym c.in_ok-copy.ensures) (sound es e legal kept c.requires.right known c.requires.known c.requires.accepted)

pub returns-clause-made : goal.returns-clause-made
returns-clause-made g c =
    let es = c.args.register.now.entries in
    let e = c.args._entry.now in
    let legal = c.entries_are_legal.ensures in
    let kept = kept_in c.args.tables.now in
    let known = c.args.concerned.now in
    let none : kept known.act.work ≡ None = nothing (kept known.act.work) (seen (λ (k : Bor WorkTables). k.now) work_view c.get.result _ c.get.ensures.value ∙ sym c.is_some.ensures ∙ c.if-is_some.false) in
    is_made es e legal kept c.requires.right known c.requires.known c.requires.accepted none c.in_ok-name.name c.in_ok-copy.field-0 (work_view c.in_ok-kept.kept)
    c.in_ok-name.ensures c.in_ok-copy.ensures c.in_ok-kept.ensures.made c.in_ok-kept.ensures.right

pub returns-clause-steps : goal.returns-clause-steps
returns-clause-steps g c =
    let es = c.args.register.now.entries in
    let e = c.args._entry.now in
    let legal = c.entries_are_legal.ensures in
    let kept = kept_in c.args.tables.now in
    let known = c.args.concerned.now in
    let cost = ap (λ (k : Known). both_costs k (Some 0)) c.in_ok-copy.ensures ∙ c.bare_acts_stay.ensures.costs (Some 0) in
    omega (arith, c.make.ensures.steps, cost)

pub returns-in_err-kept-clause-steps : goal.returns-in_err-kept-clause-steps
returns-in_err-kept-clause-steps g c =
    let es = c.args.register.now.entries in
    let e = c.args._entry.now in
    let legal = c.entries_are_legal.ensures in
    let kept = kept_in c.args.tables.now in
    let known = c.args.concerned.now in
    let cost = ap (λ (k : Known). both_costs k (Some 0)) c.in_ok-copy.ensures ∙ c.bare_acts_stay.ensures.costs (Some 0) in
    omega (arith, c.make.ensures.steps, cost)
