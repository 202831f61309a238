use Rattle.std.proofs.Common.{rules, ◌≡◌, ◌<◌, arith}
use Rattle.turn_lock.proofs.Parting.{split_keeps}
use Rattle.turn_lock.proofs.turns.Turns.cut.Goals as goal

pub split_seat-seat-requires : goal.split_seat-seat-requires
split_seat-seat-requires g c =
    let portion : c.args.share ≡ g.P.Portion.portion = c.requires.share.2 in
    let share : c.args.pass.now.seat.me.0.share ≡ c.args.pass.now.share = c.requires.own.share in
    let some_given : 0 < c.args.share = c.requires.share.0 in
    let some_left : c.args.share < c.args.pass.now.share = c.requires.share.1 in (
      c.requires.own.named,
      search rules,
      split_keeps g.T.Held.history g.T.Held.origin _ _ _ g.P.Portion.portion c.requires.own.between (omega arith) (omega arith),
    )
