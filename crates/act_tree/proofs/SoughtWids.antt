-- Seeking a wId through the bucket of its hash passes over no number that has it.
use Rattle.std.proofs.Common.{◌≡◌, ◌∙◌, sym, ap, ℕ, ◌-◌, ◌<◌, ◌≤◌, true, false, List, [], length, map, get_or, arith}
use Rattle.std.proofs.lemmas.List.{length-map, get_or-map}
use Rattle.act_tree.specs.LastNumbers.{last_passing, last_named, is_named}
use Rattle.act_tree.specs.LevelHashes.{hash_on}
use Rattle.act_tree.specs.HashIndex.{IndexValue, EndsIn, bucket_of, buckets, latest, last_in}
use Rattle.act_tree.proofs.HashIndexMoves.{bucket_at}
use Rattle.act_tree.proofs.HashIndexWalks.{walk_has}
use Rattle.act_tree.proofs.SoughtNumbers.{last_in as sought_in, step_on}
use Rattle.act_tree.proofs.Texts.{same_text}

module _ (wids : List (List ℕ)) (index : IndexValue) (hashed : index.hashes ≡ map (hash_on 0) wids) (wid : List ℕ) where
  abbrev places : List ℕ
  places = buckets index.width index.hashes

  abbrev bucket : ℕ
  bucket = bucket_of index.width (hash_on 0 wid)

  pub as_many : length index.hashes ≡ length wids
  as_many = ap (λ (hs : List ℕ). length hs) hashed ∙ length-map wids (hash_on 0)

  -- a number of the wId shares its bucket
  shares : (k : ℕ) → k < length wids → is_named wids wid k ≡ true → get_or places k 0 ≡ bucket
  shares k low it =
      bucket_at index.width index.hashes k (omega (arith, as_many))
      ∙ ap (bucket_of index.width) (ap (λ (hs : List ℕ). get_or hs k 0) hashed ∙ get_or-map (hash_on 0) wids k [] 0 low ∙ ap (hash_on 0) (sym (same_text wid (get_or wids k []) it)))

  -- the search begins at the last number of the bucket
  pub begun : (end : ℕ) → end ≡ last_in index (hash_on 0 wid) → last_passing (is_named wids wid) end ≡ last_named wids wid
  begun end is =
      ap (last_passing (is_named wids wid)) (is ∙ ap (λ (n : ℕ). latest places n bucket) as_many)
      ∙ sym (sought_in (is_named wids wid) places bucket (length wids) shares (length wids) (omega arith))

  pub begun_in : (end : ℕ) → end ≡ last_in index (hash_on 0 wid) → EndsIn index (hash_on 0 wid) end
  begun_in end is some = walk_has places (length index.hashes) bucket end is some

  -- and goes on to the last one before it, where it has another wId
  pub passed : (end next : ℕ) → 0 < end → end ≤ length wids → is_named wids wid (end - 1) ≡ false → EndsIn index (hash_on 0 wid) end → next ≡ latest places (end - 1) (get_or places (end - 1) 0)
      → last_passing (is_named wids wid) next ≡ last_passing (is_named wids wid) end
  passed end next some low other here is = step_on (is_named wids wid) places bucket (length wids) shares end next some low other (here some) is

  pub passed_in : (end next : ℕ) → 0 < end → EndsIn index (hash_on 0 wid) end → next ≡ latest places (end - 1) (get_or places (end - 1) 0) → EndsIn index (hash_on 0 wid) next
  passed_in end next some here is more = walk_has places (end - 1) bucket next (is ∙ ap (latest places (end - 1)) (here some)) more
