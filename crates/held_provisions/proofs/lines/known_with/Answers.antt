use Rattle.std.proofs.Common.{◌≡◌, ◌∙◌, sym, ap, Some}
use Rattle.law_register.specs.Register.KnownIds.{known_at}
use Rattle.law_register.specs.Register.KnownNext.{known_now}
use Rattle.held_provisions.proofs.Placed.{known_stands, known_then}
use Rattle.held_provisions.proofs.lines.known_with.Goals as goal

pub known_after-requires-clause-known : goal.known_after-requires-clause-known
known_after-requires-clause-known c =
    let es = c.args.register.now.entries in
    let is : known_now es c.args.work.now ≡ Some c.in-Some.known =
    ap (known_at es c.args.work.now) (sym c.front-front.ensures.value) ∙ sym c.in_ok-known.ensures.known ∙ c.in-Some.is in
    known_stands es c.args.work.now c.in-Some.known is

pub returns-in_ok-known_after-in-Some : goal.returns-in_ok-known_after-in-Some
returns-in_ok-known_after-in-Some c =
    let es = c.args.register.now.entries in
    let is : known_now es c.args.work.now ≡ Some c.in-Some.known =
    ap (known_at es c.args.work.now) (sym c.front-front.ensures.value) ∙ sym c.in_ok-known.ensures.known ∙ c.in-Some.is in
    known_then es c.args.entry.now c.args.work.now c.in-Some.known c.in_ok-known_after-in-Some.field-0 is c.in_ok-known_after-in-Some.ensures.known
