use Rattle.std.proofs.Common.{◌≡◌, ◌<◌, length, get_or, sym, subst, arith}
use Rattle.act_tree.specs.HashIndex.{IndexValue, buckets, previous_in}
use Rattle.act_tree.proofs.HashIndexLatest.{latest_le}
use Rattle.act_tree.proofs.HashIndexMoves.{link_read}
use Rattle.act_tree.proofs.hash_index.HashIndex.previous.Goals as goal

pub returns-clause-value : goal.returns-clause-value
returns-clause-value c =
    let a = c.self.inside in
    let low : c.args.number < length a.hashes.items = subst (λ (v : IndexValue). c.args.number < length v.hashes) (sym c.self.view_is) c.requires in
    subst (λ (v : IndexValue). c.index.result.now ≡ previous_in v c.args.number) c.self.view_is
    (link_read (length a.heads.items) a.hashes.items a.heads.items a.before.items c.args.number c.index.result.now c.self.invariant.index low c.index.ensures)

pub returns-clause-within : goal.returns-clause-within
returns-clause-within c =
    let places = buckets c.args.self.now.width c.args.self.now.hashes in
    omega (arith, returns-clause-value c, latest_le places c.args.number (get_or places c.args.number 0))
