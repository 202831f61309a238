use Rattle.std.proofs.Common.{◌≡◌, ◌<◌, length, sym, ap, ◌∙◌, subst, arith}
use mathlib.Core.List.{IsPrefix}
use mathlib.Core.Option.{some-injective}
use Rattle.turn_lock.proofs.Parting.{closed_value}
use Rattle.turn_lock.proofs.Ladder.{some_or, is_there}
use Rattle.turn_lock.proofs.turns.Turns.close.Goals as goal

pub unwrap-value-requires : goal.unwrap-value-requires
unwrap-value-requires g c =
    let own = c.requires.own in
    let share : c.args.pass.seat.me.0.share ≡ c.args.pass.share = own.share in
    let some_share : 0 < c.args.pass.share = own.stands_for_some in
    let it = closed_value g.T.Held.history g.T.Held.origin _ _ _ _ _ c.close_with-closed.ensures.values.2 own.between (omega arith) (share ∙ c.requires.all) in
    is_there it.0 _ (some-injective _ _ (sym it.1 ∙ c.take.ensures.value))

pub returns-clause-seen : goal.returns-clause-seen
returns-clause-seen g c =
    let own = c.requires.own in
    let share : c.args.pass.seat.me.0.share ≡ c.args.pass.share = own.share in
    let some_share : 0 < c.args.pass.share = own.stands_for_some in
    let it = closed_value g.T.Held.history g.T.Held.origin _ _ _ _ _ c.close_with-closed.ensures.values.2 own.between (omega arith) (share ∙ c.requires.all) in
    let same : it.0 ≡ c.unwrap-value.result = ap (some_or it.0) (some-injective _ _ (sym it.1 ∙ c.take.ensures.value) ∙ c.unwrap-value.ensures) in
    subst (λ v. IsPrefix c.args.pass.seat.me.0.seen (g.T.Held.history v)) same it.2

pub returns-clause-origin : goal.returns-clause-origin
returns-clause-origin g c =
    let own = c.requires.own in
    let share : c.args.pass.seat.me.0.share ≡ c.args.pass.share = own.share in
    let some_share : 0 < c.args.pass.share = own.stands_for_some in
    let it = closed_value g.T.Held.history g.T.Held.origin _ _ _ _ _ c.close_with-closed.ensures.values.2 own.between (omega arith) (share ∙ c.requires.all) in
    let same : it.0 ≡ c.unwrap-value.result = ap (some_or it.0) (some-injective _ _ (sym it.1 ∙ c.take.ensures.value) ∙ c.unwrap-value.ensures) in
    ap g.T.Held.origin (sym same) ∙ it.3

pub returns-clause-made : goal.returns-clause-made
returns-clause-made g c =
    let own = c.requires.own in
    let share : c.args.pass.seat.me.0.share ≡ c.args.pass.share = own.share in
    let some_share : 0 < c.args.pass.share = own.stands_for_some in
    let it = closed_value g.T.Held.history g.T.Held.origin _ _ _ _ _ c.close_with-closed.ensures.values.2 own.between (omega arith) (share ∙ c.requires.all) in
    let same : it.0 ≡ c.unwrap-value.result = ap (some_or it.0) (some-injective _ _ (sym it.1 ∙ c.take.ensures.value) ∙ c.unwrap-value.ensures) in
    ap (λ v. length (g.T.Held.history v)) (sym same) ∙ it.4
