-- The hashes of levels, by which the provisions of a level are found among all that were laid down.
use Rattle.std.specs.Prelude.{ℕ, ◌+◌, ◌*◌, ◌%◌, ◌^◌, List, [], ◌∷◌}
use Rattle.eid_paths.specs.Levels.{level_text}
use Rattle.act_tree.specs.declared.arena.Slot.{Slot}

-- the hash of one byte behind others, which have a hash already; it is in 32 bits
unfoldable pub hash_with : ℕ → ℕ → ℕ
hash_with hash byte = ((hash * 16777619) % 2 ^ 32 + byte) % 2 ^ 32

-- the hash of bytes behind others
unfoldable pub hash_on : ℕ → List ℕ → ℕ
hash_on hash [] = hash
hash_on hash (byte ∷ bytes) = hash_on (hash_with hash byte) bytes

-- the hash of a level, over its whole text
abbrev pub level_hash : List ℕ → ℕ
level_hash level = hash_on 0 level

-- the hash of a provision's level
abbrev pub slot_hash : Slot → ℕ
slot_hash s = level_hash (level_text s.element s.num)
