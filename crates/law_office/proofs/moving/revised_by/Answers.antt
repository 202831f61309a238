use Rattle.std.proofs.Common.{◌∙◌, ◌++◌, ◌∷◌, [], ap, arith, map, option_map}
use Rattle.law_register.specs.Answer.Renewing.{costs_touched}
use Rattle.law_register.specs.Provisions.Touching.{touched_works}
use Rattle.law_register.proofs.Grown.{if_ok}
use Rattle.law_office.specs.Movements.{AreMoved, AreMoving}
use Rattle.law_office.specs.Tables.{enacted_view, kept_in, revised_view}
use Rattle.law_office.proofs.After.{legal_then}
use Rattle.law_office.proofs.Enough.{begins, stand_ahead, told_at}
use Rattle.law_office.proofs.InLine.{works_of}
use Rattle.law_office.proofs.Lined.{concerned_is}
use Rattle.law_office.proofs.Moved.{costs_all, have_moved}
use Rattle.law_office.proofs.moving.revised_by.Goals as goal

pub revised_of-requires-clause-concerned : goal.revised_of-requires-clause-concerned
revised_of-requires-clause-concerned g c =
    let es = c.args.movement.now.register.now.entries in
    let e = c.args.movement.now.entry.now in
    let legal = c.entries_are_legal.ensures in
    let kept = kept_in c.args.tables.now in
    let known = c.args.known in
    let names = c.args.names.now in
    record { known = c.requires.known; said = λ w some. concerned_is es e known c.requires.concerned w }

pub revised_of-requires-clause-once : goal.revised_of-requires-clause-once
revised_of-requires-clause-once g c =
    c.requires.names.once

pub revised_of-requires-clause-moving : goal.revised_of-requires-clause-moving
revised_of-requires-clause-moving g c =
    let es = c.args.movement.now.register.now.entries in
    let e = c.args.movement.now.entry.now in
    let legal = c.entries_are_legal.ensures in
    let kept = kept_in c.args.tables.now in
    let known = c.args.known in
    let names = c.args.names.now in
    begins es e legal kept c.requires.right known c.requires.concerned c.requires.known names c.requires.names
    (λ work one for apart quiet. c.untouched_works_stay.ensures es e work one (legal_then es e legal c.requires.accepted) for apart quiet)
    (option_map (λ e. enacted_view e.now) c.args.enacted) c.requires.made

pub revised_of-requires-clause-ahead : goal.revised_of-requires-clause-ahead
revised_of-requires-clause-ahead g c =
    let es = c.args.movement.now.register.now.entries in
    let e = c.args.movement.now.entry.now in
    let legal = c.entries_are_legal.ensures in
    let kept = kept_in c.args.tables.now in
    let known = c.args.known in
    let names = c.args.names.now in
    stand_ahead es e legal kept c.requires.right known c.requires.concerned c.requires.known names c.requires.names

pub returns-clause-moved : goal.returns-clause-moved
returns-clause-moved g c =
    let es = c.args.movement.now.register.now.entries in
    let e = c.args.movement.now.entry.now in
    let legal = c.entries_are_legal.ensures in
    let kept = kept_in c.args.tables.now in
    let known = c.args.known in
    let names = c.args.names.now in
    let enacted = option_map (λ e. enacted_view e.now) c.args.enacted in
    let then_kept = kept_in c.revised_of.new.tables in
    if_ok c.revised_of.result (λ rs. AreMoving es e then_kept enacted (map revised_view rs.items) []) (λ rs. AreMoved es e then_kept enacted (map revised_view rs.items))
    (λ rs moving. have_moved es e then_kept enacted (map revised_view rs.items) moving) c.revised_of.ensures.moving

pub returns-clause-steps : goal.returns-clause-steps
returns-clause-steps g c =
    let es = c.args.movement.now.register.now.entries in
    let e = c.args.movement.now.entry.now in
    let legal = c.entries_are_legal.ensures in
    let kept = kept_in c.args.tables.now in
    let known = c.args.known in
    let names = c.args.names.now in
    let cost =
    costs_all (es ++ e ∷ []) (touched_works es e) (works_of names)
    ∙ ap (costs_touched (es ++ e ∷ [])) (told_at es e legal kept c.requires.right known c.requires.concerned c.requires.known names c.requires.names) in
    omega (arith, c.revised_of.ensures.steps, cost)
