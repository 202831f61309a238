use Rattle.std.proofs.Common.{◌∙◌, ◌<◌, ◌≤◌, ℕ, length, sym, subst, ap, arith}
use Rattle.act_tree.specs.HashIndex.{IndexValue, bucket_of}
use Rattle.act_tree.proofs.HashIndexMoves.{index_added}
use Rattle.act_tree.proofs.OwnIndexes.{heads_own, same_width}
use Rattle.act_tree.proofs.hash_index.HashIndex.add.Goals as goal

pub invariant_of-self : goal.invariant_of-self
invariant_of-self c =
    let a = c.self.inside in
    let w : ℕ = length a.heads.items in
    let room : length a.hashes.items < w = omega (arith, subst (λ (v : IndexValue). 1 ≤ v.room) (sym c.self.view_is) c.requires.room) in
    let low : c.bucket_of-bucket.result < w = omega (arith, c.bucket_of-bucket.ensures.within, c.len.ensures) in
    record {
      index = same_width (index_added w a.hashes.items a.heads.items a.before.items c.push_reserved-2.new.self.items c.push_reserved.new.self.items c.args.hash c.bucket_of-bucket.result
          c.len-number.result c.index-last.result.now c.self.invariant.index room (c.bucket_of-bucket.ensures.value ∙ ap (λ (v : ℕ). bucket_of v c.args.hash) c.len.ensures) low
          c.len-number.ensures c.index-last.ensures c.push_reserved-2.ensures.items c.push_reserved.ensures.items);
      heads_alike = heads_own a.hashes a.heads a.before _ c.self.invariant c.self.view_is c.requires.own ∙ sym c.push_reserved-2.ensures.own;
      links_alike = c.push_reserved.ensures.own ∙ sym c.push_reserved-2.ensures.own;
    }
