use Rattle.std.proofs.Common.{rules, ◌≡◌, ◌+◌, ◌<◌, ◌≤◌, sym, ap, ◌∙◌, subst, arith}
use mathlib.Core.List.{IsPrefix}
use Rattle.turn_lock.specs.Ladder.{longer}
use Rattle.turn_lock.proofs.Parting.{join_keeps}
use Rattle.turn_lock.proofs.Ladder.{compare_keeps}
use Rattle.turn_lock.proofs.turns.Turns.join.Goals as goal

pub join_seat-requires : goal.join_seat-requires
join_seat-requires g c =
    let own = c.requires.own in
    let other = c.requires.other in
    let share : c.args.pass.now.seat.me.0.share ≡ c.args.pass.now.share = own.share in
    let some_share : 0 < c.args.pass.now.share = own.stands_for_some in (
      own.named,
      other.named,
      other.empty_handed,
      search rules,
      join_keeps g.T.Held.history g.T.Held.origin _ _ _ _ _ own.between other.between (omega arith),
    )

pub load-requires : goal.load-requires
load-requires g c =
    let joined = c.join_seat.ensures.2 in
    let both : c.join_seat.new.seat.me.0.share ≡ c.args.pass.now.seat.me.0.share + c.args.other.seat.me.0.share = ap (λ m. m.0.share) joined in
    let share : c.args.pass.now.seat.me.0.share ≡ c.args.pass.now.share = c.requires.own.share in
    let some_share : 0 < c.args.pass.now.share = c.requires.own.stands_for_some in (
      c.join_seat.ensures.0 ∙ c.requires.own.named,
      search rules,
      compare_keeps g.T.Held.history g.T.Held.origin _ _ _ _ _ (ap (λ m. m.0.stage) joined) (omega arith),
    )

pub overflow_add-pass : goal.overflow_add-pass
overflow_add-pass g c =
    let joined = c.join_seat.ensures.2 in
    let compared = c.load.ensures.2 _ (ap (λ m. m.0.stage) joined) in
    let small : c.join_seat.new.seat.me.0.share ≤ 64 = compared.1 in
    let both : c.join_seat.new.seat.me.0.share ≡ c.args.pass.now.seat.me.0.share + c.args.other.seat.me.0.share = ap (λ m. m.0.share) joined in
    let mine : c.args.pass.now.seat.me.0.share ≡ c.args.pass.now.share = c.requires.own.share in
    let theirs : c.args.other.seat.me.0.share ≡ c.args.other.share = c.requires.other.share in
    omega arith

pub returns-clause-own : goal.returns-clause-own
returns-clause-own g c =
    let joined = c.join_seat.ensures.2 in
    let compared = c.load.ensures.2 _ (ap (λ m. m.0.stage) joined) in
    let both : c.join_seat.new.seat.me.0.share ≡ c.args.pass.now.seat.me.0.share + c.args.other.seat.me.0.share = ap (λ m. m.0.share) joined in
    let after : c.load.new.seat.me.0.share ≡ c.join_seat.new.seat.me.0.share = ap (λ m. m.0.share) compared.0 in
    let mine : c.args.pass.now.seat.me.0.share ≡ c.args.pass.now.share = c.requires.own.share in
    let theirs : c.args.other.seat.me.0.share ≡ c.args.other.share = c.requires.other.share in
    let some_share : 0 < c.args.pass.now.share = c.requires.own.stands_for_some in record {
      named = c.load.ensures.0 ∙ (c.join_seat.ensures.0 ∙ c.requires.own.named);
      between = ap (λ m. m.0.stage) compared.0;
      empty_handed = ap (λ m. m.1) compared.0 ∙ (ap (λ m. m.1) joined ∙ c.requires.own.empty_handed);
      share = omega arith;
      stands_for_some = omega arith;
    }

pub returns-clause-seen : goal.returns-clause-seen
returns-clause-seen g c =
    let joined = c.join_seat.ensures.2 in
    let compared = c.load.ensures.2 _ (ap (λ m. m.0.stage) joined) in
    ap (λ m. m.0.seen) compared.0 ∙ ap (λ l. longer l c.args.other.seat.me.0.seen) (ap (λ m. m.0.seen) joined)

pub returns-clause-begins : goal.returns-clause-begins
returns-clause-begins g c =
    let joined = c.join_seat.ensures.2 in
    let compared = c.load.ensures.2 _ (ap (λ m. m.0.stage) joined) in
    let seen = ap (λ m. m.0.seen) compared.0 in
    let mine = ap (λ m. m.0.seen) joined in (
      subst (IsPrefix c.args.pass.now.seat.me.0.seen) (sym seen) (subst (λ l. IsPrefix l (longer c.join_seat.new.seat.me.0.seen c.args.other.seat.me.0.seen)) mine compared.2),
      subst (IsPrefix c.args.other.seat.me.0.seen) (sym seen) compared.3,
    )

pub returns-clause-made : goal.returns-clause-made
returns-clause-made g c =
    let joined = c.join_seat.ensures.2 in
    let compared = c.load.ensures.2 _ (ap (λ m. m.0.stage) joined) in
    ap (λ m. m.0.made) compared.0 ∙ ap (λ m. m.0.made) joined

pub returns-clause-began : goal.returns-clause-began
returns-clause-began g c =
    let joined = c.join_seat.ensures.2 in
    let compared = c.load.ensures.2 _ (ap (λ m. m.0.stage) joined) in (
      ap (λ m. m.0.origin) compared.0 ∙ ap (λ m. m.0.origin) joined,
      ap (λ m. m.0.start) compared.0 ∙ ap (λ m. m.0.start) joined,
    )
