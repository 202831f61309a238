use Rattle.std.proofs.Common.{◌∙◌, sym, ap, arith}
use Rattle.held_provisions.specs.Placing.{place_from}
use Rattle.held_provisions.proofs.Placed.{placed, tied, within}
use Rattle.held_provisions.proofs.lines.put.Goals as goal

pub insert-requires : goal.insert-requires
insert-requires c =
    let inside = within c.args.known c.as_slice.result.now c.in-Some.index (sym c.place_of.ensures ∙ c.in-Some.is) in
    omega (arith, inside, c.as_slice.ensures.len)

pub returns-in_ok-insert-in-Some : goal.returns-in_ok-insert-in-Some
returns-in_ok-insert-in-Some c =
    c.in_ok-insert-in-Some.ensures.items
    ∙ placed c.args.known c.args.works.now.items c.in-Some.index
    (ap (place_from 0 c.args.known) (sym c.as_slice.ensures.value) ∙ sym c.place_of.ensures ∙ c.in-Some.is)

pub returns-in-None : goal.returns-in-None
returns-in-None c =
    tied c.args.known c.args.works.now.items
    (ap (place_from 0 c.args.known) (sym c.as_slice.ensures.value) ∙ sym c.place_of.ensures ∙ c.in-None.is)
