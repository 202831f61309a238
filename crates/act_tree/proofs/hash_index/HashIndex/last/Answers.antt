use Rattle.std.proofs.Common.{length, ap, arith}
use Rattle.act_tree.specs.HashIndex.{IndexValue, bucket_of, buckets}
use Rattle.act_tree.proofs.HashIndexLatest.{latest_le}
use Rattle.act_tree.proofs.hash_index.HashIndex.last.Goals as goal

pub returns-then-width-eq0-clause-value : goal.returns-then-width-eq0-clause-value
returns-then-width-eq0-clause-value c =
    let v = c.args.self.now in
    omega (
      arith,
      latest_le (buckets v.width v.hashes) (length v.hashes) (bucket_of v.width c.args.hash),
      ap (λ (i : IndexValue). length i.hashes) c.self.view_is,
      c.self.invariant.index.enough,
      c.if-width-eq0.true,
      c.len-width.ensures,
    )
