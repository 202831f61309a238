-- Seeking a level through the bucket of its hash passes over no provision that has it.
use Rattle.std.proofs.Common.{◌≡◌, ◌∙◌, sym, ap, ℕ, suc, ◌-◌, ◌<◌, ◌≤◌, Bool, true, false, List, length, get_or, Some, arith}
use Rattle.std.specs.Str.{bytes_eq}
use Rattle.std.proofs.lemmas.List.{length-map}
use Rattle.act_tree.specs.declared.arena.Arena.{Arena}
use Rattle.act_tree.specs.declared.arena.Slot.{Slot}
use Rattle.act_tree.specs.Arena.{provision_in}
use Rattle.act_tree.specs.EidLevels.{own_level}
use Rattle.act_tree.specs.LevelHashes.{level_hash, slot_hash}
use Rattle.act_tree.specs.HashIndex.{EndsIn, bucket_of, buckets, latest}
use Rattle.act_tree.specs.LevelsOfNodes.{latest_at}
use Rattle.act_tree.specs.Slots.{at, size, provision_of}
use Rattle.act_tree.proofs.HashedLevels.{hash_at}
use Rattle.act_tree.proofs.LaidDown.{laid_slot}
use Rattle.act_tree.proofs.HashIndexMoves.{bucket_at}
use Rattle.act_tree.proofs.SoughtNumbers.{last_is, last_passes, last_in, step_on as stepped}
use Rattle.act_tree.proofs.Texts.{same_text}

-- the index has as many hashes as there are slots
pub as_many_hashes : (a : Arena) → length a.levels.hashes ≡ size a
as_many_hashes a = ap length a.hashed ∙ length-map a.slots.items slot_hash

module _ (a : Arena) (level : List ℕ) where
  abbrev pub has : ℕ → Bool
  has k = bytes_eq level (own_level (provision_in (at a k)).own)

  abbrev places : List ℕ
  places = buckets a.levels.width a.levels.hashes

  abbrev bucket : ℕ
  bucket = bucket_of a.levels.width (level_hash level)

  -- what a slot says is said of its number
  pub said : (k : ℕ) (s : Slot) (told : Bool) → k < size a → s ≡ get_or a.slots.items k s → told ≡ bytes_eq level (own_level (provision_of s).own) → has k ≡ told
  said k s told low it is = ap (λ o. bytes_eq level (own_level (provision_in o).own)) (laid_slot a.slots.items k s low it) ∙ sym is

  -- a provision of the level shares its bucket
  pub shares : (k : ℕ) → k < size a → has k ≡ true → get_or places k 0 ≡ bucket
  shares k low it =
      bucket_at a.levels.width a.levels.hashes k (omega (arith, as_many_hashes a))
      ∙ ap (bucket_of a.levels.width) (ap (λ (hs : List ℕ). get_or hs k 0) a.hashed ∙ hash_at a.slots.items k low ∙ ap level_hash (sym (same_text level (own_level (provision_in (at a k)).own) it)))

  -- the last one that has the level, or none has it
  pub latest_is : (k : ℕ) → has k ≡ true → latest_at (at a) level (suc k) ≡ Some k
  latest_is k it = last_is has k it

  pub latest_passes : (k : ℕ) → has k ≡ false → latest_at (at a) level (suc k) ≡ latest_at (at a) level k
  latest_passes k other = last_passes has k other

  -- none has it from the last one of the bucket on
  pub latest_in : (n : ℕ) → n ≤ size a → latest_at (at a) level n ≡ latest_at (at a) level (latest places n bucket)
  latest_in n low = last_in has places bucket (size a) shares n low

  -- one step: the last of the first ones is passed, for the last before it of the bucket
  pub step_on : (end next : ℕ) → 0 < end → end ≤ size a → has (end - 1) ≡ false → EndsIn a.levels (level_hash level) end → next ≡ latest places (end - 1) (get_or places (end - 1) 0)
      → latest_at (at a) level next ≡ latest_at (at a) level end
  step_on end next some low other here is = stepped has places bucket (size a) shares end next some low other (here some) is
