use Rattle.std.proofs.Common.{◌≡◌, ◌∙◌, ℕ, List, get_or, sym, ap, arith}
use Rattle.eid_paths.specs.Levels.{level_text}
use Rattle.act_tree.specs.LevelHashes.{level_hash}
use Rattle.act_tree.specs.HashIndex.{bucket_of, buckets, latest}
use Rattle.act_tree.specs.LevelsOfNodes.{latest_at}
use Rattle.act_tree.specs.Slots.{at}
use Rattle.act_tree.proofs.HashIndexWalks.{walk_has}
use Rattle.act_tree.proofs.SoughtLevels.{as_many_hashes, latest_in, shares}
use Rattle.act_tree.proofs.arena.Arena.level_before.Goals as goal

pub previous-end-requires : goal.previous-end-requires
previous-end-requires c = omega (arith, as_many_hashes c.args.self.now, c.place.ensures, c.requires.within)

pub last_below-requires-clause-within : goal.last_below-requires-clause-within
last_below-requires-clause-within c = omega (arith, c.previous-end.ensures.within, c.place.ensures, c.requires.within)

pub last_below-requires-clause-bucket : goal.last_below-requires-clause-bucket
last_below-requires-clause-bucket c =
    let arena = c.args.self.now in
    let level : List ℕ = level_text c.args.element c.args.num.now in
    let places : List ℕ = buckets arena.levels.width arena.levels.hashes in
    let end : c.previous-end.result ≡ latest places c.args.id (bucket_of arena.levels.width (level_hash level)) =
    c.previous-end.ensures.value ∙ ap (λ (k : ℕ). latest places k (get_or places k 0)) c.place.ensures ∙ ap (latest places c.args.id) (shares arena level c.args.id c.requires.within c.requires.level) in
    walk_has places c.args.id (bucket_of arena.levels.width (level_hash level)) c.previous-end.result end

pub returns : goal.returns
returns c =
    let arena = c.args.self.now in
    let level : List ℕ = level_text c.args.element c.args.num.now in
    let places : List ℕ = buckets arena.levels.width arena.levels.hashes in
    let end : c.previous-end.result ≡ latest places c.args.id (bucket_of arena.levels.width (level_hash level)) =
    c.previous-end.ensures.value ∙ ap (λ (k : ℕ). latest places k (get_or places k 0)) c.place.ensures ∙ ap (latest places c.args.id) (shares arena level c.args.id c.requires.within c.requires.level) in
    c.last_below.ensures ∙ ap (latest_at (at arena) level) end ∙ sym (latest_in arena level c.args.id (omega (arith, c.requires.within)))
