use Rattle.std.proofs.Common.{rules, ◌<◌, ◌∷◌, Some, refl, sym, ap, ◌∙◌, subst}
use Rattle.atomic_table.specs.Table.{rest}
use Rattle.turn_lock.proofs.Ladder.{note_length_keeps, put_home_keeps, pass_on_keeps}
use Rattle.turn_lock.proofs.WholeTurn.{given_back}
use Rattle.turn_lock.proofs.turns.Turns.give_turn.Goals as goal

pub store-requires : goal.store-requires
store-requires g c =
    let r = c.requires in
    let put = c.exchange-nothing.ensures in
    let bears = put.3 ∙ ap (λ cs. (c.args.seat.now.me.0, (0, Some c.args.value) ∷ rest cs)) r.hands in (
      put.0 ∙ r.named,
      search rules,
      note_length_keeps g.T.Held.history g.T.Held.origin _ _ _ _ r.ticket r.found c.args.value _
          (ap (λ m. m.0.stage) bears ∙ r.stage)
          (subst (λ n. 0 < n) (sym (ap (λ m. m.0.share) bears)) r.share)
          (ap (λ m. m.1) bears) c.count-length.ensures r.grown,
    )

pub load-requires : goal.load-requires
load-requires g c =
    let r = c.requires in
    let put = c.exchange-nothing.ensures in
    let bears = put.3 ∙ ap (λ cs. (c.args.seat.now.me.0, (0, Some c.args.value) ∷ rest cs)) r.hands in
    let notes = c.store.ensures.2 r.ticket r.found c.args.value (ap (λ m. m.0.stage) bears ∙ r.stage) (ap (λ m. m.1) bears) in (
      c.store.ensures.0 ∙ (put.0 ∙ r.named),
      search rules,
      put_home_keeps g.T.Held.history g.T.Held.origin _ _ _ _ r.ticket (g.T.Held.history c.args.value) c.args.value
          (ap (λ m. m.0.stage) notes)
          (subst (λ n. 0 < n) (sym (ap (λ m. m.0.share) notes ∙ ap (λ m. m.0.share) bears)) r.share)
          (ap (λ m. m.1) notes ∙ ap (λ m. m.1) bears) refl
          (r.has_origin ∙ sym (ap (λ m. m.0.origin) notes ∙ ap (λ m. m.0.origin) bears)),
    )

pub fetch_add-served-requires : goal.fetch_add-served-requires
fetch_add-served-requires g c =
    let r = c.requires in
    let put = c.exchange-nothing.ensures in
    let bears = put.3 ∙ ap (λ cs. (c.args.seat.now.me.0, (0, Some c.args.value) ∷ rest cs)) r.hands in
    let notes = c.store.ensures.2 r.ticket r.found c.args.value (ap (λ m. m.0.stage) bears ∙ r.stage) (ap (λ m. m.1) bears) in
    let home = c.load.ensures.2 r.ticket (g.T.Held.history c.args.value) (ap (λ m. m.0.stage) notes) in (
      c.load.ensures.0 ∙ (c.store.ensures.0 ∙ (put.0 ∙ r.named)),
      search rules,
      pass_on_keeps g.T.Held.history g.T.Held.origin _ _ _ _ r.ticket (g.T.Held.history c.args.value)
          (ap (λ m. m.0.stage) home)
          (subst (λ n. 0 < n) (sym (ap (λ m. m.0.share) home ∙ (ap (λ m. m.0.share) notes ∙ ap (λ m. m.0.share) bears))) r.share),
    )

pub returns : goal.returns
returns g c =
    let r = c.requires in
    let put = c.exchange-nothing.ensures in
    let bears = put.3 ∙ ap (λ cs. (c.args.seat.now.me.0, (0, Some c.args.value) ∷ rest cs)) r.hands in
    let notes = c.store.ensures.2 r.ticket r.found c.args.value (ap (λ m. m.0.stage) bears ∙ r.stage) (ap (λ m. m.1) bears) in
    let home = c.load.ensures.2 r.ticket (g.T.Held.history c.args.value) (ap (λ m. m.0.stage) notes) in
    let passes = c.fetch_add-served.ensures.2 r.ticket (g.T.Held.history c.args.value) (ap (λ m. m.0.stage) home) in
    given_back g.T.Held.history g.T.Held.origin _ _ _ _ _ r.ticket r.found c.args.value (
      c.fetch_add-served.ensures.0 ∙ (c.load.ensures.0 ∙ (c.store.ensures.0 ∙ put.0)),
      c.fetch_add-served.ensures.1 ∙ (c.load.ensures.1 ∙ (c.store.ensures.1 ∙ put.1)),
    )
    r.stage bears notes home passes
