use Rattle.std.proofs.Common.{◌-◌, ◌∙◌, sym, ap, refl, map, arith}
use Rattle.law_register.specs.Answer.Order.{order}
use Rattle.version_cache.proofs.Behind.{orders_parted}
use Rattle.version_cache.proofs.revising.orders_behind.Goals as goal

pub returns-clause-before : goal.returns-clause-before
returns-clause-before g c =
    (orders_parted c.args.known.now c.args.reading c.args.days.now (c.args.count - 1) c.args.count c.parted.result.0 c.parted.result.1.items refl (omega arith) c.requires.within
    (sym c.parted.ensures ∙ c.in_ok-orders-2.ensures ∙ ap (map (order c.args.known.now c.args.reading)) c.split_at-parts.ensures.back)).0

pub returns-clause-behind : goal.returns-clause-behind
returns-clause-behind g c =
    (orders_parted c.args.known.now c.args.reading c.args.days.now (c.args.count - 1) c.args.count c.parted.result.0 c.parted.result.1.items refl (omega arith) c.requires.within
    (sym c.parted.ensures ∙ c.in_ok-orders-2.ensures ∙ ap (map (order c.args.known.now c.args.reading)) c.split_at-parts.ensures.back)).1
