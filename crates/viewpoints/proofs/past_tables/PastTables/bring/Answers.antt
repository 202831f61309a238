use Rattle.std.proofs.Common.{◌≡◌, ◌∙◌, sym, subst, true, false, Err}
use Rattle.std.proofs.lemmas.Result.{err_from_is_err_and}
use Rattle.std.specs.Map.{keys_of}
use Rattle.law_register.specs.Answer.Answers.{Judges}
use Rattle.law_register.specs.Answer.PastKeys.{keys_after}
use Rattle.viewpoints.specs.Right.{IsRight}
use Rattle.viewpoints.proofs.Bringing.{found_right, keys_moved, keys_stay, latest_right, needed, pays, refusal_is}
use Rattle.viewpoints.proofs.past_tables.PastTables.bring.Goals as goal

pub returns-in_err-judge-in-Some-clause-judged : goal.returns-in_err-judge-in-Some-clause-judged
returns-in_err-judge-in-Some-clause-judged g c =
    let entries = c.args.register.now.entries in
    let right = found_right entries c.args.question.now g.T.Dated.version_on c.args.self.now c.in-Some.kept.now c.in_ok-key.key c.in_ok-key.ensures c.requires.right c.in-Some.ensures in
    let p = err_from_is_err_and c.from_residual-in_err-judge-in-Some.result c.from_residual-in_err-judge-in-Some.ensures.1 in
    rw (p.1, p.2)
    (subst (Judges {A = Unit {0}} (Err c.in_err-judge-in-Some.field-0.0)) (sym (refusal_is entries c.args.question.now g.T.Dated.version_on c.in-Some.kept.now c.front.result c.front.ensures.value right)) c.in_err-judge-in-Some.ensures)

pub returns-in_err-judge-in-Some-clause-keys : goal.returns-in_err-judge-in-Some-clause-keys
returns-in_err-judge-in-Some-clause-keys g c =
    let entries = c.args.register.now.entries in
    let right = found_right entries c.args.question.now g.T.Dated.version_on c.args.self.now c.in-Some.kept.now c.in_ok-key.key c.in_ok-key.ensures c.requires.right c.in-Some.ensures in
    let p = err_from_is_err_and c.from_residual-in_err-judge-in-Some.result c.from_residual-in_err-judge-in-Some.ensures.1 in
    rw (p.1, p.2)
    (keys_stay entries c.args.question.now (keys_of c.args.self.now) c.in_err-judge-in-Some.field-0.0
    (subst (Judges {A = Unit {0}} (Err c.in_err-judge-in-Some.field-0.0)) (sym (refusal_is entries c.args.question.now g.T.Dated.version_on c.in-Some.kept.now c.front.result c.front.ensures.value right)) c.in_err-judge-in-Some.ensures))

pub returns-in_ok-judge-in-Some-clause-judged : goal.returns-in_ok-judge-in-Some-clause-judged
returns-in_ok-judge-in-Some-clause-judged g c =
    let entries = c.args.register.now.entries in
    let right = found_right entries c.args.question.now g.T.Dated.version_on c.args.self.now c.in-Some.kept.now c.in_ok-key.key c.in_ok-key.ensures c.requires.right c.in-Some.ensures in
    refusal_is entries c.args.question.now g.T.Dated.version_on c.in-Some.kept.now c.front.result c.front.ensures.value right ∙ c.in_ok-judge-in-Some.ensures

pub returns-in_ok-judge-in-Some-clause-right : goal.returns-in_ok-judge-in-Some-clause-right
returns-in_ok-judge-in-Some-clause-right g c =
    let entries = c.args.register.now.entries in
    let right = found_right entries c.args.question.now g.T.Dated.version_on c.args.self.now c.in-Some.kept.now c.in_ok-key.key c.in_ok-key.ensures c.requires.right c.in-Some.ensures in
    latest_right entries c.args.question.now g.T.Dated.version_on c.args.self.now c.renew.new.self c.in-Some.kept.now c.in_ok-key.key c.in_ok-key.ensures c.requires.right right
    (c.renew.ensures c.in-Some.kept.now (sym c.in-Some.ensures))

pub returns-in_ok-judge-in-Some-clause-keys : goal.returns-in_ok-judge-in-Some-clause-keys
returns-in_ok-judge-in-Some-clause-keys g c =
    let entries = c.args.register.now.entries in
    let right = found_right entries c.args.question.now g.T.Dated.version_on c.args.self.now c.in-Some.kept.now c.in_ok-key.key c.in_ok-key.ensures c.requires.right c.in-Some.ensures in
    let latest = c.renew.ensures c.in-Some.kept.now (sym c.in-Some.ensures) in
    subst (λ k. keys_of c.renew.new.self ≡ keys_after k (keys_of c.args.self.now)) c.in_ok-key.ensures latest.keys
    ∙ sym (keys_moved entries c.args.question.now (keys_of c.args.self.now) c.requires.dated
    (refusal_is entries c.args.question.now g.T.Dated.version_on c.in-Some.kept.now c.front.result c.front.ensures.value right ∙ c.in_ok-judge-in-Some.ensures))

pub returns-in_ok-judge-in-Some-clause-unmoved : goal.returns-in_ok-judge-in-Some-clause-unmoved
returns-in_ok-judge-in-Some-clause-unmoved g c = λ no.
    let entries = c.args.register.now.entries in
    let right = found_right entries c.args.question.now g.T.Dated.version_on c.args.self.now c.in-Some.kept.now c.in_ok-key.key c.in_ok-key.ensures c.requires.right c.in-Some.ensures in
    absurd (let bad : true ≡ false =
    sym (needed entries c.args.question.now c.requires.dated (refusal_is entries c.args.question.now g.T.Dated.version_on c.in-Some.kept.now c.front.result c.front.ensures.value right ∙ c.in_ok-judge-in-Some.ensures)) ∙ no in cc)

pub returns-in_err-made-in-None-clause-steps : goal.returns-in_err-made-in-None-clause-steps
returns-in_err-made-in-None-clause-steps g c =
    pays c.args.register.now.entries c.args.question.now c.args.self.now c.in_ok-key.key c.args.steps.now c.make_table.new.steps c.in_ok-key.ensures c.requires.dated c.in-None.ensures c.make_table.ensures.steps

pub returns-in_err-add-in-None-clause-steps : goal.returns-in_err-add-in-None-clause-steps
returns-in_err-add-in-None-clause-steps g c =
    pays c.args.register.now.entries c.args.question.now c.args.self.now c.in_ok-key.key c.args.steps.now c.make_table.new.steps c.in_ok-key.ensures c.requires.dated c.in-None.ensures c.make_table.ensures.steps

pub returns-in_ok-add-in-None-clause-steps : goal.returns-in_ok-add-in-None-clause-steps
returns-in_ok-add-in-None-clause-steps g c =
    pays c.args.register.now.entries c.args.question.now c.args.self.now c.in_ok-key.key c.args.steps.now c.make_table.new.steps c.in_ok-key.ensures c.requires.dated c.in-None.ensures c.make_table.ensures.steps

pub returns-in_err-add-in-None-clause-right : goal.returns-in_err-add-in-None-clause-right
returns-in_err-add-in-None-clause-right g c =
    subst (IsRight g.T.Dated.version_on c.args.register.now.entries) (sym c.in_err-add-in-None.ensures.err) c.requires.right

pub returns-in_ok-add-in-None-clause-right : goal.returns-in_ok-add-in-None-clause-right
returns-in_ok-add-in-None-clause-right g c =
    latest_right c.args.register.now.entries c.args.question.now g.T.Dated.version_on c.args.self.now c.add.new.self c.in_ok-made-in-None.made c.in_ok-key.key c.in_ok-key.ensures c.requires.right
    c.in_ok-made-in-None.ensures.right c.in_ok-add-in-None.ensures.ok
