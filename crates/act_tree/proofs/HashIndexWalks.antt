-- A walk through the numbers of a bucket is at a number of the bucket.
use Rattle.std.proofs.Common.{◌≡◌, ℕ, ◌-◌, ◌<◌, List, get_or, arith}
use Rattle.act_tree.specs.HashIndex.{latest}
use Rattle.act_tree.proofs.HashIndexLatest.{latest_has}

-- the last of the first ones, where they end at a latest, is of its bucket
pub walk_has : (places : List ℕ) (n b end : ℕ) → end ≡ latest places n b → 0 < end → get_or places (end - 1) 0 ≡ b
walk_has places n b end it some = (latest_has places n b (end - 1) (omega arith)).1
