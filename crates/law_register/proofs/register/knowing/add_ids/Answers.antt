use Rattle.std.proofs.Common.{◌∙◌, ap, sym, ◌+◌, ◌<◌, ◌++◌, ◌∷◌, [], List, length, drop, append_assoc, arith}
use Rattle.desk_base.specs.declared.id.Id.{Id}
use Rattle.law_register.specs.Register.Listing.{ids_marked}
use Rattle.law_register.proofs.Owned.{next_marked}
use Rattle.law_register.proofs.register.knowing.add_ids.Goals as goal

pub loop-place-preserved : goal.loop-place-preserved
loop-place-preserved c =
    let law = c.args.law in
    let bodies = c.args.bodies.now in
    let place = c.loop-place.place in
    let ids = c.loop-place.ids.items in
    let id : Id = record { law = law; item = place + 1 } in
    let rest : List Id = ids_marked law (place + 1 + 1) (drop (place + 1) bodies) in
    let within : place < length bodies = omega (arith, c.loop-place-test.true) in
    ap (λ xs. xs ++ rest) c.in_ok-push.ensures.items ∙ append_assoc ids (id ∷ []) rest ∙ ap (λ xs. ids ++ xs) (sym (next_marked law place bodies within)) ∙ c.loop-place.invariant
