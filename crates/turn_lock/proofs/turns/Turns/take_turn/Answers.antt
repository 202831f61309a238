use Rattle.std.proofs.Common.{rules, ◌≡◌, ◌≢◌, ◌<◌, ◌∷◌, Some, sym, ap, ◌∙◌, subst}
use Rattle.turn_lock.specs.declared.view.Stage.TheVariants.{Waiting}
use Rattle.turn_lock.specs.Ladder.{staged}
use Rattle.atomic_table.specs.Table.{rest}
use Rattle.turn_lock.proofs.Ladder.{draw_keeps, read_keeps, take_out_keeps, is_there, slot_or}
use Rattle.turn_lock.proofs.WholeTurn.{taken}
use Rattle.turn_lock.proofs.turns.Turns.take_turn.Goals as goal

pub fetch_add-ticket-requires : goal.fetch_add-ticket-requires
fetch_add-ticket-requires g c = (
  c.requires.named,
  search rules,
  draw_keeps g.T.Held.history g.T.Held.origin _ _ _ _ c.requires.between c.requires.stands_for_some,
)

pub loop-init : goal.loop-init
loop-init g c =
    let drew = c.fetch_add-ticket.ensures.2 c.requires.between in
    ((c.fetch_add-ticket.ensures.0, c.fetch_add-ticket.ensures.1), (drew.0, drew.1, drew.2 ∙ ap (λ cs. (staged c.args.seat.now.me.0 (Waiting drew.0), cs)) c.requires.empty_handed))

pub load-served-requires : goal.load-served-requires
load-served-requires g c =
    let waits = c.loop.invariant.1 in (
      c.loop.invariant.0.0 ∙ c.requires.named,
      search rules,
      read_keeps g.T.Held.history g.T.Held.origin _ _ _ _ waits.0 (ap (λ m. m.0.stage) waits.2) (subst (λ n. 0 < n) (sym (ap (λ m. m.0.share) waits.2)) c.requires.stands_for_some),
    )

pub load-requires : goal.load-requires
load-requires g c =
    let waits = c.loop.invariant.1 in
    let read = c.load-served.ensures.2 waits.0 (ap (λ m. m.0.stage) waits.2) in
    let same : c.load-served.result ≡ c.fetch_add-ticket.result = search rules in
    let serves = read.0 (same ∙ waits.1) in
    let share = ap (λ m. m.0.share) serves.2 ∙ ap (λ m. m.0.share) waits.2 in (
      c.load-served.ensures.0 ∙ (c.loop.invariant.0.0 ∙ c.requires.named),
      search rules,
      take_out_keeps g.T.Held.history g.T.Held.origin _ _ _ _ waits.0 serves.0 (ap (λ m. m.0.stage) serves.2) (subst (λ n. 0 < n) (sym share) c.requires.stands_for_some),
    )

pub exchange-requires : goal.exchange-requires
exchange-requires g c =
    let waits = c.loop.invariant.1 in
    let read = c.load-served.ensures.2 waits.0 (ap (λ m. m.0.stage) waits.2) in
    let same : c.load-served.result ≡ c.fetch_add-ticket.result = search rules in
    let serves = read.0 (same ∙ waits.1) in
    let took = c.load.ensures.2 _ _ (ap (λ m. m.0.stage) serves.2) in
    let carried = ap (λ m. m.1) took.3 in (
      c.load.ensures.0 ∙ (c.load-served.ensures.0 ∙ (c.loop.invariant.0.0 ∙ c.requires.named)),
      (Some took.0, carried ∙ ap (λ cs. (0, Some took.0) ∷ rest cs) (sym carried)),
    )

pub unwrap-requires : goal.unwrap-requires
unwrap-requires g c =
    let waits = c.loop.invariant.1 in
    let read = c.load-served.ensures.2 waits.0 (ap (λ m. m.0.stage) waits.2) in
    let same : c.load-served.result ≡ c.fetch_add-ticket.result = search rules in
    let serves = read.0 (same ∙ waits.1) in
    let took = c.load.ensures.2 _ _ (ap (λ m. m.0.stage) serves.2) in
    let carried = ap (λ m. m.1) took.3 in
    is_there took.0 _ (ap (slot_or (Some took.0)) (sym carried ∙ c.exchange.ensures.2))

pub returns-then-served-ticket : goal.returns-then-served-ticket
returns-then-served-ticket g c =
    let waits = c.loop.invariant.1 in
    let read = c.load-served.ensures.2 waits.0 (ap (λ m. m.0.stage) waits.2) in
    let same : c.load-served.result ≡ c.fetch_add-ticket.result = search rules in
    let serves = read.0 (same ∙ waits.1) in
    let took = c.load.ensures.2 _ _ (ap (λ m. m.0.stage) serves.2) in
    let put = c.exchange.ensures in
    taken g.T.Held.history g.T.Held.origin _ _ _ _ _ waits.0 serves.0 took.0 _ _ (
      put.0 ∙ (c.load.ensures.0 ∙ (c.load-served.ensures.0 ∙ c.loop.invariant.0.0)),
      put.1 ∙ (c.load.ensures.1 ∙ (c.load-served.ensures.1 ∙ c.loop.invariant.0.1)),
    )
    waits.2 serves.1 serves.2 took.1 took.2 took.3 put.2 put.3 c.unwrap.ensures

pub loop-preserved : goal.loop-preserved
loop-preserved g c =
    let waits = c.loop.invariant.1 in
    let read = c.load-served.ensures.2 waits.0 (ap (λ m. m.0.stage) waits.2) in
    let apart : c.load-served.result ≢ c.fetch_add-ticket.result = search rules in
    let still = read.1 (λ hit. apart (hit ∙ sym waits.1)) in
    ((c.load-served.ensures.0 ∙ c.loop.invariant.0.0, c.load-served.ensures.1 ∙ c.loop.invariant.0.1), (waits.0, waits.1, still ∙ waits.2))
