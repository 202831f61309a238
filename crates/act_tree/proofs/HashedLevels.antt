-- Hashes of levels: over bytes that are joined, and of the slot of a number.
use Rattle.std.proofs.Common.{◌≡◌, ◌∙◌, sym, ap, refl, ℕ, zero, suc, ◌<◌, List, [], ◌∷◌, ◌++◌, length, get_or, set, map, arith}
use Rattle.std.proofs.Math.Seq.{map-set_same}
use Rattle.std.proofs.lemmas.List.{map-set, length-set}
use Rattle.act_tree.specs.declared.arena.Arena.{Arena}
use Rattle.act_tree.specs.declared.arena.Slot.{Slot}
use Rattle.act_tree.specs.Arena.{provision_in}
use Rattle.act_tree.specs.EidLevels.{own_level}
use Rattle.act_tree.specs.LevelHashes.{hash_with, hash_on, level_hash, slot_hash}
use Rattle.act_tree.specs.Slots.{laid}

pub hash_none : (h : ℕ) → hash_on h [] ≡ h
unfolding hash_on
hash_none h = refl

pub hash_one : (h b : ℕ) (bs : List ℕ) → hash_on h (b ∷ bs) ≡ hash_on (hash_with h b) bs
unfolding hash_on
hash_one h b bs = refl

-- the hash of bytes behind others goes on from theirs
pub hash_joined : (h : ℕ) (bs cs : List ℕ) → hash_on h (bs ++ cs) ≡ hash_on (hash_on h bs) cs
hash_joined h [] cs = ap (λ (n : ℕ). hash_on n cs) (sym (hash_none h))
hash_joined h (b ∷ bs) cs = hash_one h b (bs ++ cs) ∙ hash_joined (hash_with h b) bs cs ∙ ap (λ (n : ℕ). hash_on n cs) (sym (hash_one h b bs))

-- a word, a byte and the rest, one after another
pub hash_parts : (h : ℕ) (word num : List ℕ) (b : ℕ) → hash_on (hash_on (hash_on h word) (b ∷ [])) num ≡ hash_on h (word ++ b ∷ num)
hash_parts h word num b = sym (hash_joined (hash_on h word) (b ∷ []) num) ∙ sym (hash_joined h word (b ∷ num))

-- the hash of a number is that of the level of its provision
pub hash_at : (ss : List Slot) (k : ℕ) → k < length ss → get_or (map slot_hash ss) k 0 ≡ level_hash (own_level (provision_in (laid ss k)).own)
hash_at [] k low = absurd (omega arith)
hash_at (s ∷ ss) zero low = refl
hash_at (s ∷ ss) (suc k) low = hash_at ss k (omega arith)

-- a provision that has the element and the num that it had leaves the hashes
pub still_hashed : (a : Arena) (i : ℕ) (was now : Slot) → was ≡ get_or a.slots.items i was → slot_hash now ≡ slot_hash was → a.levels.hashes ≡ map slot_hash (set a.slots.items i now)
still_hashed a i was now it same = a.hashed ∙ sym (map-set_same slot_hash a.slots.items i now was (same ∙ ap slot_hash it))

-- a provision of another level leaves them where its hash is put in the place of the one that it had
pub rehashed : (a : Arena) (hashes : List ℕ) (i hash : ℕ) (now : Slot) → hashes ≡ set a.levels.hashes i hash → hash ≡ slot_hash now → hashes ≡ map slot_hash (set a.slots.items i now)
rehashed a hashes i hash now told it =
    told ∙ ap (set a.levels.hashes i) it ∙ ap (λ (hs : List ℕ). set hs i (slot_hash now)) a.hashed ∙ sym (map-set slot_hash a.slots.items i now)

-- and there are as many hashes as there were
pub as_many_hashed : (a : Arena) (hashes : List ℕ) (i hash : ℕ) → hashes ≡ set a.levels.hashes i hash → length a.numbers.wids ≡ length hashes
as_many_hashed a hashes i hash told = a.noted ∙ sym (ap (λ (hs : List ℕ). length hs) told ∙ length-set a.levels.hashes i hash)
