use Rattle.std.proofs.Common.{◌≡◌, ◌<◌, length, sym, subst, arith}
use Rattle.act_tree.specs.HashIndex.{IndexValue, buckets, latest}
use Rattle.act_tree.proofs.HashIndexLatest.{latest_le}
use Rattle.act_tree.proofs.HashIndexMoves.{head_read}
use Rattle.act_tree.proofs.hash_index.HashIndex.head.Goals as goal

pub returns-clause-value : goal.returns-clause-value
returns-clause-value c =
    let a = c.self.inside in
    let low : c.args.bucket < length a.heads.items = subst (λ (v : IndexValue). c.args.bucket < v.width) (sym c.self.view_is) c.requires in
    subst (λ (v : IndexValue). c.index.result.now ≡ latest (buckets v.width v.hashes) (length v.hashes) c.args.bucket) c.self.view_is
    (head_read (length a.heads.items) a.hashes.items a.heads.items a.before.items c.args.bucket c.index.result.now c.self.invariant.index low c.index.ensures)

pub returns-clause-within : goal.returns-clause-within
returns-clause-within c = omega (arith, returns-clause-value c, latest_le (buckets c.args.self.now.width c.args.self.now.hashes) (length c.args.self.now.hashes) c.args.bucket)
