use Rattle.std.proofs.Common.{◌≡◌, ◌∙◌, ◌-◌, ℕ, List, length, get_or, ap, arith}
use Rattle.act_tree.specs.HashIndex.{buckets, latest}
use Rattle.act_tree.proofs.HashIndexWalks.{walk_has}
use Rattle.act_tree.proofs.hash_index.HashIndex.next_in.Goals as goal

pub loop-end-init : goal.loop-end-init
loop-end-init c =
    let places : List ℕ = buckets c.args.self.now.width c.args.self.now.hashes in
    let here : get_or places (c.head-last.result - 1) 0 ≡ c.args.bucket =
    walk_has places (length c.args.self.now.hashes) c.args.bucket c.head-last.result c.head-last.ensures.value (omega arith) in
    record {
      within = omega (arith, c.head-last.ensures.within);
      behind = omega arith;
      here = here;
      last = c.previous-end.ensures.value ∙ ap (latest places (c.head-last.result - 1)) here;
      most = c.previous-end.ensures.within;
    }

pub loop-end-preserved : goal.loop-end-preserved
loop-end-preserved c =
    let places : List ℕ = buckets c.args.self.now.width c.args.self.now.hashes in
    let here : get_or places (c.loop-end.end - 1) 0 ≡ c.args.bucket = walk_has places c.loop-end.next c.args.bucket c.loop-end.end c.loop-end.invariant.last (omega arith) in
    record {
      within = omega arith;
      behind = omega arith;
      here = here;
      last = c.previous-end-in-loop-end.ensures.value ∙ ap (latest places (c.loop-end.end - 1)) here;
      most = c.previous-end-in-loop-end.ensures.within;
    }
