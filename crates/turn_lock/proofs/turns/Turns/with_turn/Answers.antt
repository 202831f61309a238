use Rattle.std.proofs.Common.{◌≡◌, ◌<◌, refl, sym, ap, ◌∙◌, subst, arith}
use mathlib.Core.List.{IsPrefix}
use Rattle.turn_lock.proofs.Prefixes.{prefix_on, prefix_length}
use Rattle.turn_lock.proofs.turns.Turns.with_turn.Goals as goal

pub give_turn-requires : goal.give_turn-requires
give_turn-requires g c =
    let took = c.take_turn-value.ensures in
    let left = (c.requires.act c.take_turn-value.result (took.begins, took.has_origin)).1 c.act-result.result c.act-result.new.arg2
    record { shown = _; shows = refl; left = _; met = c.act-result.ensures; leaves = refl } in
    let share : c.args.pass.now.seat.me.0.share ≡ c.args.pass.now.share = c.requires.own.share in record {
      named = took.same.0 ∙ c.requires.own.named;
      ticket = took.ticket;
      found = g.T.Held.history c.take_turn-value.result;
      stage = ap (λ m. m.0.stage) took.holds;
      hands = ap (λ m. m.1) took.holds;
      share = subst (λ n. 0 < n) (sym (ap (λ m. m.0.share) took.holds ∙ share)) c.requires.own.stands_for_some;
      grown = left.0;
      has_origin = left.1 ∙ (took.has_origin ∙ sym (ap (λ m. m.0.origin) took.holds));
    }

pub returns-clause-own : goal.returns-clause-own
returns-clause-own g c =
    let took = c.take_turn-value.ensures in
    let gave = c.give_turn.ensures.holds took.ticket _ (ap (λ m. m.0.stage) took.holds) in record {
      named = c.give_turn.ensures.same.0 ∙ (took.same.0 ∙ c.requires.own.named);
      between = ap (λ m. m.0.stage) gave;
      empty_handed = ap (λ m. m.1) gave;
      share = ap (λ m. m.0.share) gave ∙ (ap (λ m. m.0.share) took.holds ∙ c.requires.own.share);
      stands_for_some = c.requires.own.stands_for_some;
    }

pub returns-clause-turn : goal.returns-clause-turn
returns-clause-turn g c =
    let took = c.take_turn-value.ensures in
    let gave = c.give_turn.ensures.holds took.ticket _ (ap (λ m. m.0.stage) took.holds) in
    let left = (c.requires.act c.take_turn-value.result (took.begins, took.has_origin)).1 c.act-result.result c.act-result.new.arg2
    record { shown = _; shows = refl; left = _; met = c.act-result.ensures; leaves = refl } in
    let grown = prefix_length _ _ left.0 in
    let made = ap (λ m. m.0.made) gave in
    let was = ap (λ m. m.0.made) took.holds in record {
      found = c.take_turn-value.result;
      left = c.act-result.new.arg2;
      finds = (took.begins, took.has_origin);
      acted = record { shown = _; shows = refl; left = _; met = c.act-result.ensures; leaves = refl };
      only_appended = left;
      has_seen = ap (λ m. m.0.seen) gave;
      has_made = omega arith;
    }

pub returns-clause-began : goal.returns-clause-began
returns-clause-began g c =
    let took = c.take_turn-value.ensures in
    let gave = c.give_turn.ensures.holds took.ticket _ (ap (λ m. m.0.stage) took.holds) in
    (ap (λ m. m.0.origin) gave ∙ ap (λ m. m.0.origin) took.holds, ap (λ m. m.0.start) gave ∙ ap (λ m. m.0.start) took.holds)

pub returns-clause-forward : goal.returns-clause-forward
returns-clause-forward g c =
    let took = c.take_turn-value.ensures in
    let gave = c.give_turn.ensures.holds took.ticket _ (ap (λ m. m.0.stage) took.holds) in
    let left = (c.requires.act c.take_turn-value.result (took.begins, took.has_origin)).1 c.act-result.result c.act-result.new.arg2
    record { shown = _; shows = refl; left = _; met = c.act-result.ensures; leaves = refl } in
    subst (IsPrefix c.args.pass.now.seat.me.0.seen) (sym (ap (λ m. m.0.seen) gave)) (prefix_on _ _ _ took.begins left.0)
