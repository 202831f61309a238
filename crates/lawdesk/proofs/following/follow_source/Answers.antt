-- How following ended is what a run of it leaves.
use Rattle.std.proofs.Common.{refl}
use Rattle.lawdesk.specs.Following.{told_followed, told_refusal}
use Rattle.lawdesk.proofs.Follows.{ends_refused, ends_unkept, ends_unopened, ends_unread, ends_wanting, follow_ended}
use Rattle.lawdesk.proofs.following.follow_source.Goals as goal

pub returns-in-Ok : goal.returns-in-Ok
returns-in-Ok g c =
    follow_ended g.S.Source.left g.S.Source.faults g.W.Sink.written g.W.Sink.faults g.K.Keeper.holding g.K.Keeper.faults
    c.args.source.now c.follow.new.source c.args.sink.now c.tell.new.sink c.args.keeper.now c.follow.new.keeper
    c.in-Ok.done c.tell.result c.in-Ok.ensures.follows (c.tell.ensures.told (told_followed c.in-Ok.done) c.report_followed.ensures)
    c.in-Ok.ensures.source_cause c.in-Ok.ensures.keeper_cause

pub returns-in-Err-Open : goal.returns-in-Err-Open
returns-in-Err-Open g c =
    ends_unopened g.S.Source.left g.S.Source.faults g.W.Sink.written g.W.Sink.faults g.K.Keeper.holding g.K.Keeper.faults
    c.args.source.now c.follow.new.source c.args.sink.now c.tell_unopened.new.sink c.args.keeper.now c.follow.new.keeper
    c.in-Err-Open.field-0 c.in-Err-Open.fault c.tell_unopened.result c.in-Err-Open.field-0-is c.tell_unopened.ensures
    c.in-Err-Open.ensures.follows c.in-Err-Open.ensures.unread
    c.in-Err-Open.ensures.source_cause c.in-Err-Open.ensures.keeper_cause

pub returns-in-Err-Refused : goal.returns-in-Err-Refused
returns-in-Err-Refused g c =
    ends_refused g.S.Source.left g.S.Source.faults g.W.Sink.written g.W.Sink.faults g.K.Keeper.holding g.K.Keeper.faults
    c.args.source.now c.follow.new.source c.args.sink.now c.tell-in-Err-Refused.new.sink c.args.keeper.now c.follow.new.keeper
    c.in-Err-Refused.field-0 c.in-Err-Refused.refusal c.tell-in-Err-Refused.result c.in-Err-Refused.field-0-is (c.tell-in-Err-Refused.ensures.told (told_refusal c.in-Err-Refused.refusal) c.report_refusal.ensures)
    c.in-Err-Refused.ensures.follows c.in-Err-Refused.ensures.unread
    c.in-Err-Refused.ensures.source_cause c.in-Err-Refused.ensures.keeper_cause

pub returns-in-Err-ReadFault : goal.returns-in-Err-ReadFault
returns-in-Err-ReadFault g c =
    ends_unread g.S.Source.left g.S.Source.faults g.W.Sink.written g.W.Sink.faults g.K.Keeper.holding g.K.Keeper.faults
    c.args.source.now c.follow.new.source c.args.sink.now c.args.sink.now c.args.keeper.now c.follow.new.keeper
    c.in-Err-ReadFault.field-0 c.in-Err-ReadFault.field-0-is refl
    c.in-Err-ReadFault.ensures.follows c.in-Err-ReadFault.ensures.unread
    c.in-Err-ReadFault.ensures.source_cause c.in-Err-ReadFault.ensures.keeper_cause

pub returns-in-Err-KeeperFault : goal.returns-in-Err-KeeperFault
returns-in-Err-KeeperFault g c =
    ends_unkept g.S.Source.left g.S.Source.faults g.W.Sink.written g.W.Sink.faults g.K.Keeper.holding g.K.Keeper.faults
    c.args.source.now c.follow.new.source c.args.sink.now c.args.sink.now c.args.keeper.now c.follow.new.keeper
    c.in-Err-KeeperFault.field-0 c.in-Err-KeeperFault.field-0-is refl
    c.in-Err-KeeperFault.ensures.follows c.in-Err-KeeperFault.ensures.unread
    c.in-Err-KeeperFault.ensures.source_cause c.in-Err-KeeperFault.ensures.keeper_cause

pub returns-in-Err-Memory : goal.returns-in-Err-Memory
returns-in-Err-Memory g c =
    ends_wanting g.S.Source.left g.S.Source.faults g.W.Sink.written g.W.Sink.faults g.K.Keeper.holding g.K.Keeper.faults
    c.args.source.now c.follow.new.source c.args.sink.now c.args.sink.now c.args.keeper.now c.follow.new.keeper
    c.in-Err-Memory.field-0 c.in-Err-Memory.field-0-is refl
    c.in-Err-Memory.ensures.follows c.in-Err-Memory.ensures.unread
    c.in-Err-Memory.ensures.source_cause c.in-Err-Memory.ensures.keeper_cause
