-- Arenas that can be written to: all their lists are own together.
use Rattle.std.proofs.Common.{◌≡◌, ◌∙◌, ap, sym, true, ℕ, List, length, map}
use Rattle.act_tree.specs.declared.arena.Arena.{Arena}
use Rattle.act_tree.specs.declared.arena.Slot.{Slot}
use Rattle.act_tree.specs.LevelHashes.{slot_hash}
use Rattle.act_tree.specs.Branches.{Branch, Branches}
use Rattle.act_tree.specs.Planted.{IsLaid, AreLaid}
use Rattle.act_tree.specs.Provisions.{Provision}
use Rattle.act_tree.specs.Slots.{IsOwn}
use Rattle.act_tree.specs.WidIndexes.{WidIndexValue}

pub slots_own : (a : Arena) → a.numbers.is_own ≡ true → a.slots.is_own ≡ true
slots_own a own = a.alike ∙ own

pub levels_own : (a : Arena) → a.numbers.is_own ≡ true → a.levels.is_own ≡ true
levels_own a own = a.levels_alike ∙ own

-- an arena whose index of wIds is that of another is own where that is
pub still_own : (old new : Arena) → new.numbers ≡ old.numbers → IsOwn old → IsOwn new
still_own old new same own = ap (λ (ns : WidIndexValue). ns.is_own) same ∙ own

-- an arena in which branches were laid down is own where it was
pub laid_own : (old new : Arena) (id : ℕ) (b : Branch Provision) → IsLaid old new id b → IsOwn old → IsOwn new
laid_own old new id b laid own = laid.grown.own own

pub all_laid_own : (old new : Arena) (ids : List ℕ) (bs : Branches Provision) → AreLaid old new ids bs → IsOwn old → IsOwn new
all_laid_own old new ids bs laid own = laid.grown.own own

-- an arena's indexes are those of slots of the same values
pub same_hashed : (a : Arena) (slots : List Slot) (hashes : List ℕ) → slots ≡ a.slots.items → hashes ≡ a.levels.hashes → hashes ≡ map slot_hash slots
same_hashed a slots hashes same alike = alike ∙ a.hashed ∙ sym (ap (map slot_hash) same)

pub same_noted : (a : Arena) (wids : List (List ℕ)) (hashes : List ℕ) → wids ≡ a.numbers.wids → hashes ≡ a.levels.hashes → length wids ≡ length hashes
same_noted a wids hashes same alike = ap (λ (ws : List (List ℕ)). length ws) same ∙ a.noted ∙ sym (ap (λ (hs : List ℕ). length hs) alike)
