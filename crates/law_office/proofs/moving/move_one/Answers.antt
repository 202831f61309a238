use Rattle.std.proofs.Common.{◌≡◌, ◌∙◌, ◌++◌, ◌∷◌, [], sym, ap, subst, arith, ℕ, false, List, Option, Some, map, option_map}
use Rattle.std.specs.List.{list_any}
use Rattle.std.specs.Option.{IfSome}
use Rattle.std.specs.Str.{bytes_eq}
use Rattle.law_register.specs.declared.register.known.Known.{Known}
use Rattle.law_register.specs.Answer.Touched.{day_among}
use Rattle.law_register.specs.Provisions.Line.{line}
use Rattle.law_register.specs.Provisions.Touching.{touched, touched_works}
use Rattle.law_register.specs.Register.KnownNext.{known_now}
use Rattle.law_register.specs.Register.LawList.{laws}
use Rattle.law_office.specs.Asked.{is_that}
use Rattle.law_office.specs.Movements.{AreMoving, IsConcernedThen, StandAhead, costs_told}
use Rattle.law_office.specs.Tables.{enacted_view, kept_in, revised_view}
use Rattle.law_office.proofs.After.{legal_then}
use Rattle.law_office.proofs.InLine.{works_of}
use Rattle.law_office.proofs.Moved.{apart_of, no_day, on_any, on_quiet, on_unknown, said_later}
use Rattle.law_office.proofs.moving.move_one.Goals as goal

pub returns-then-not-is_that-clause-concerned : goal.returns-then-not-is_that-clause-concerned
returns-then-not-is_that-clause-concerned g c =
    let es = c.args.movement.now.register.now.entries in
    let e = c.args.movement.now.entry.now in
    let rest = works_of c.args.rest.now in
    let work = c.args.work.now in
    said_later es e c.args.concerned.now work rest c.requires.concerned

pub returns-then-not-is_that-clause-moving : goal.returns-then-not-is_that-clause-moving
returns-then-not-is_that-clause-moving g c =
    let es = c.args.movement.now.register.now.entries in
    let e = c.args.movement.now.entry.now in
    let rest = works_of c.args.rest.now in
    let work = c.args.work.now in
    let legal = c.entries_are_legal.ensures in
    let none : is_that c.args.concerned.now work ≡ false = ap (λ (k : Option Known). is_that k work) (sym c.as_ref.ensures.value) ∙ sym c.is_that.ensures ∙ c.if-not-is_that.true in
    on_quiet es e legal c.requires.accepted (kept_in c.args.tables.now) c.requires.right (option_map (λ e. enacted_view e.now) c.args.enacted)
    (map revised_view c.args.revised.now.items) work rest c.requires.moving
    (λ work one for apart quiet. c.untouched_works_stay.ensures es e work one (legal_then es e legal c.requires.accepted) for apart quiet)
    (apart_of es e c.args.concerned.now work rest c.requires.concerned none)
    (sym (c.day_among-day.ensures ∙ ap (λ (told : List (List ℕ × ℕ)). day_among told work) c.requires.touched) ∙ no_day c.day_among-day.result c.if-is_none.ensures)

pub revise_one-requires-clause-known : goal.revise_one-requires-clause-known
revise_one-requires-clause-known g c =
    let es = c.args.movement.now.register.now.entries in
    let e = c.args.movement.now.entry.now in
    let rest = works_of c.args.rest.now in
    let work = c.args.work.now in
    let known : Known = c.in-Some.known in
    let found = subst (λ (o : Option Known). IfSome o (λ known. (known.act.work ≡ work) × (known_now (es ++ e ∷ []) work ≡ Some known))) c.in-Some.is c.in_ok-known.ensures.named in
    subst (λ (w : List ℕ). known_now (es ++ e ∷ []) w ≡ Some known) (sym found.0) found.1

pub revise_one-requires-clause-day : goal.revise_one-requires-clause-day
revise_one-requires-clause-day g c =
    let es = c.args.movement.now.register.now.entries in
    let e = c.args.movement.now.entry.now in
    let rest = works_of c.args.rest.now in
    let work = c.args.work.now in
    let known : Known = c.in-Some.known in
    let found = subst (λ (o : Option Known). IfSome o (λ known. (known.act.work ≡ work) × (known_now (es ++ e ∷ []) work ≡ Some known))) c.in-Some.is c.in_ok-known.ensures.named in
    subst (λ (w : List ℕ). c.day_among-day.result ≡ touched es e w) (sym found.0) (c.day_among-day.ensures ∙ ap (λ (told : List (List ℕ × ℕ)). day_among told work) c.requires.touched)

pub revise_one-requires-clause-once : goal.revise_one-requires-clause-once
revise_one-requires-clause-once g c =
    let es = c.args.movement.now.register.now.entries in
    let e = c.args.movement.now.entry.now in
    let rest = works_of c.args.rest.now in
    let work = c.args.work.now in
    let known : Known = c.in-Some.known in
    let found = subst (λ (o : Option Known). IfSome o (λ known. (known.act.work ≡ work) × (known_now (es ++ e ∷ []) work ≡ Some known))) c.in-Some.is c.in_ok-known.ensures.named in
    subst (λ (w : List ℕ). list_any (λ (other : List ℕ). bytes_eq other w) rest ≡ false) (sym found.0) c.requires.once

pub revise_one-requires-clause-moving : goal.revise_one-requires-clause-moving
revise_one-requires-clause-moving g c =
    let es = c.args.movement.now.register.now.entries in
    let e = c.args.movement.now.entry.now in
    let rest = works_of c.args.rest.now in
    let work = c.args.work.now in
    let known : Known = c.in-Some.known in
    let found = subst (λ (o : Option Known). IfSome o (λ known. (known.act.work ≡ work) × (known_now (es ++ e ∷ []) work ≡ Some known))) c.in-Some.is c.in_ok-known.ensures.named in
    subst (λ (w : List ℕ). AreMoving es e (kept_in c.args.tables.now) (option_map (λ e. enacted_view e.now) c.args.enacted) (map revised_view c.args.revised.now.items) (w ∷ rest)) (sym found.0) c.requires.moving

pub revise_one-requires-clause-ahead : goal.revise_one-requires-clause-ahead
revise_one-requires-clause-ahead g c =
    let es = c.args.movement.now.register.now.entries in
    let e = c.args.movement.now.entry.now in
    let rest = works_of c.args.rest.now in
    let work = c.args.work.now in
    let known : Known = c.in-Some.known in
    let found = subst (λ (o : Option Known). IfSome o (λ known. (known.act.work ≡ work) × (known_now (es ++ e ∷ []) work ≡ Some known))) c.in-Some.is c.in_ok-known.ensures.named in
    subst (λ (w : List ℕ). StandAhead (line (laws (es ++ e ∷ []))) (w ∷ rest)) (sym found.0) c.requires.ahead

pub returns-in-Some-clause-concerned : goal.returns-in-Some-clause-concerned
returns-in-Some-clause-concerned g c =
    let es = c.args.movement.now.register.now.entries in
    let e = c.args.movement.now.entry.now in
    let rest = works_of c.args.rest.now in
    let work = c.args.work.now in
    on_any (IsConcernedThen es e c.known_with.new.concerned rest) c.revise_one.result (c.in_ok-known.ensures.concerned rest c.requires.concerned c.requires.once)

pub returns-in-Some-clause-steps : goal.returns-in-Some-clause-steps
returns-in-Some-clause-steps g c =
    let es = c.args.movement.now.register.now.entries in
    let e = c.args.movement.now.entry.now in
    let rest = works_of c.args.rest.now in
    let work = c.args.work.now in
    let known : Known = c.in-Some.known in
    let found = subst (λ (o : Option Known). IfSome o (λ known. (known.act.work ≡ work) × (known_now (es ++ e ∷ []) work ≡ Some known))) c.in-Some.is c.in_ok-known.ensures.named in
    let cost = ap (λ (w : List ℕ). costs_told (es ++ e ∷ []) (touched_works es e) (w ∷ [])) found.0 in
    omega (arith, c.revise_one.ensures.steps, cost)

pub returns-in-None-clause-concerned : goal.returns-in-None-clause-concerned
returns-in-None-clause-concerned g c =
    let es = c.args.movement.now.register.now.entries in
    let e = c.args.movement.now.entry.now in
    let rest = works_of c.args.rest.now in
    let work = c.args.work.now in
    c.in_ok-known.ensures.concerned rest c.requires.concerned c.requires.once

pub returns-in-None-clause-moving : goal.returns-in-None-clause-moving
returns-in-None-clause-moving g c =
    let es = c.args.movement.now.register.now.entries in
    let e = c.args.movement.now.entry.now in
    let rest = works_of c.args.rest.now in
    let work = c.args.work.now in
    on_unknown es e c.entries_are_legal.ensures c.requires.accepted (kept_in c.args.tables.now) c.requires.right (option_map (λ e. enacted_view e.now) c.args.enacted)
    (map revised_view c.args.revised.now.items) work rest c.requires.moving (λ some. sym c.in-None.is ∙ c.in_ok-known.ensures.known some)
