use Rattle.law_journal.proofs.Appending.{first_write, second_write, added, rests_again, seen_too}
use Rattle.law_journal.proofs.writing.append_at.Goals as goal

pub returns-in_err-write_synced-clause-any_moment : goal.returns-in_err-write_synced-clause-any_moment
returns-in_err-write_synced-clause-any_moment g c payloads f t =
    let o = g.D.Disk.outlook c.args.disk.now in
    let m = g.D.Disk.outlook c.write_synced.new.disk in
    first_write o m m c.args.gate c.args.framed.now payloads f (c.requires.rests t) _ (c.write_synced.ensures.any_moment t)

pub returns-in_err-write_synced-clause-left : goal.returns-in_err-write_synced-clause-left
returns-in_err-write_synced-clause-left g c payloads f t =
    seen_too _ _ _ (g.met.D.Disk.is_outlook c.write_synced.new.disk) (returns-in_err-write_synced-clause-any_moment g c payloads f t)

pub returns-in_err-write_synced-2-clause-any_moment : goal.returns-in_err-write_synced-2-clause-any_moment
returns-in_err-write_synced-2-clause-any_moment g c payloads f t =
    let o = g.D.Disk.outlook c.args.disk.now in
    let m = g.D.Disk.outlook c.write_synced.new.disk in
    let n = g.D.Disk.outlook c.write_synced-2.new.disk in
    let run = c.write_synced.ensures.any_moment t in
    second_write o m n c.args.gate c.args.framed.now payloads f (c.requires.rests t) (c.in_ok-write_synced.ensures.written t) _ run (c.write_synced-2.ensures.any_moment run.tells)

pub returns-in_err-write_synced-2-clause-left : goal.returns-in_err-write_synced-2-clause-left
returns-in_err-write_synced-2-clause-left g c payloads f t =
    seen_too _ _ _ (g.met.D.Disk.is_outlook c.write_synced-2.new.disk) (returns-in_err-write_synced-2-clause-any_moment g c payloads f t)

pub returns-clause-any_moment : goal.returns-clause-any_moment
returns-clause-any_moment g c payloads f t =
    let o = g.D.Disk.outlook c.args.disk.now in
    let m = g.D.Disk.outlook c.write_synced.new.disk in
    let n = g.D.Disk.outlook c.write_synced-2.new.disk in
    let run = c.write_synced.ensures.any_moment t in
    second_write o m n c.args.gate c.args.framed.now payloads f (c.requires.rests t) (c.in_ok-write_synced.ensures.written t) _ run (c.write_synced-2.ensures.any_moment run.tells)

pub returns-clause-left : goal.returns-clause-left
returns-clause-left g c payloads f t = seen_too _ _ _ (g.met.D.Disk.is_outlook c.write_synced-2.new.disk) (returns-clause-any_moment g c payloads f t)

pub returns-clause-added : goal.returns-clause-added
returns-clause-added g c payloads f t =
    let o = g.D.Disk.outlook c.args.disk.now in
    let m = g.D.Disk.outlook c.write_synced.new.disk in
    let n = g.D.Disk.outlook c.write_synced-2.new.disk in
    let run = c.write_synced.ensures.any_moment t in
    added o m n c.args.gate c.args.framed.now payloads f (c.requires.rests t) (c.in_ok-write_synced.ensures.written t) (c.in_ok-write_synced-2.ensures.written run.tells)

pub returns-clause-rests : goal.returns-clause-rests
returns-clause-rests g c told =
    let o = g.D.Disk.outlook c.args.disk.now in
    let m = g.D.Disk.outlook c.write_synced.new.disk in
    let n = g.D.Disk.outlook c.write_synced-2.new.disk in
    let mid = c.write_synced-2.ensures.tells told in
    let t = c.write_synced.ensures.tells mid in
    rests_again o m n c.args.gate c.args.framed.now c.requires.framed.0 c.requires.framed.1 (c.requires.rests t) (c.in_ok-write_synced.ensures.written t)
    (c.in_ok-write_synced-2.ensures.written mid) (c.in_ok-write_synced-2.ensures.durable mid)
