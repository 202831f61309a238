use Rattle.std.proofs.Common.{◌≡◌, ◌∙◌, ℕ, List, length, sym, ap, arith}
use Rattle.eid_paths.specs.Levels.{level_text}
use Rattle.act_tree.specs.LevelHashes.{level_hash}
use Rattle.act_tree.specs.HashIndex.{bucket_of, buckets, latest, last_in}
use Rattle.act_tree.specs.LevelsOfNodes.{latest_at}
use Rattle.act_tree.specs.Slots.{at, size}
use Rattle.act_tree.proofs.HashIndexWalks.{walk_has}
use Rattle.act_tree.proofs.SoughtLevels.{as_many_hashes, latest_in}
use Rattle.act_tree.proofs.arena.Arena.last_of_level.Goals as goal

pub last_below-requires-clause-within : goal.last_below-requires-clause-within
last_below-requires-clause-within c = omega (arith, as_many_hashes c.args.self.now, c.last-end.ensures.within)

pub last_below-requires-clause-bucket : goal.last_below-requires-clause-bucket
last_below-requires-clause-bucket c =
    let levels = c.args.self.now.levels in
    let hash : ℕ = level_hash (level_text c.args.element c.args.num.now) in
    walk_has (buckets levels.width levels.hashes) (length levels.hashes) (bucket_of levels.width hash) c.last-end.result (c.last-end.ensures.value ∙ ap (last_in levels) c.level_hash.ensures)

pub returns : goal.returns
returns c =
    let arena = c.args.self.now in
    let level : List ℕ = level_text c.args.element c.args.num.now in
    let places : List ℕ = buckets arena.levels.width arena.levels.hashes in
    let end : c.last-end.result ≡ latest places (size arena) (bucket_of arena.levels.width (level_hash level)) =
    c.last-end.ensures.value ∙ ap (last_in arena.levels) c.level_hash.ensures ∙ ap (λ (n : ℕ). latest places n (bucket_of arena.levels.width (level_hash level))) (as_many_hashes arena) in
    c.last_below.ensures ∙ ap (latest_at (at arena) level) end ∙ sym (latest_in arena level (size arena) (omega arith))
