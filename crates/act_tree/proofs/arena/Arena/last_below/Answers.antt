use Rattle.std.proofs.Common.{◌≡◌, ◌∙◌, ◌-◌, ◌<◌, ◌≤◌, ℕ, false, List, ap, arith}
use Rattle.eid_paths.specs.Levels.{level_text}
use Rattle.act_tree.specs.LevelHashes.{level_hash}
use Rattle.act_tree.specs.HashIndex.{bucket_of, buckets, latest}
use Rattle.act_tree.specs.Slots.{size}
use Rattle.act_tree.proofs.HashIndexWalks.{walk_has}
use Rattle.act_tree.proofs.SoughtLevels.{has, said, step_on}
use Rattle.act_tree.proofs.arena.Arena.last_below.Goals as goal

pub loop-end-preserved : goal.loop-end-preserved
loop-end-preserved c =
    let arena = c.args.self.now in
    let level : List ℕ = level_text c.args.element c.args.num.now in
    let places : List ℕ = buckets arena.levels.width arena.levels.hashes in
    let end : ℕ = c.loop-end.end in
    let some : 0 < end = omega arith in
    let low : end ≤ size arena = c.loop-end.invariant.most in
    let here = c.loop-end.invariant.here in
    let other : has arena level (end - 1) ≡ false = said arena level (end - 1) c.index.result.now c.is_level.result (omega arith) c.index.ensures c.is_level.ensures ∙ c.if-is_level.false in
    record {
      most = omega (arith, c.previous-end.ensures.within);
      same = step_on arena level end c.previous-end.result some low other here c.previous-end.ensures.value ∙ c.loop-end.invariant.same;
      here = λ more. walk_has places (end - 1) (bucket_of arena.levels.width (level_hash level)) c.previous-end.result (c.previous-end.ensures.value ∙ ap (latest places (end - 1)) (here some)) more;
    }
