-- The ids of a work ascend, so none stands twice among those that are known.
use Rattle.std.proofs.Common.{◌≡◌, ◌∙◌, ap, ℕ, ◌+◌, ◌≤◌, ◌<◌, ◌==◌, ◌⊎◌, inl, inr, Bool, true, false, cond, ◌&&◌, ◌||◌, List, [], ◌∷◌, ◌++◌, map, Option, Some, None, refl, arith}
use Rattle.std.proofs.lemmas.Bool.Decides.{nat_tests}
use Rattle.std.specs.List.{list_any}
use Rattle.std.specs.Str.{bytes_eq}
use Rattle.desk_base.specs.declared.id.Id.{Id}
use Rattle.law_register.specs.declared.law.command.Command.{Command}
use Rattle.law_register.specs.declared.law.command.Command.TheVariants.{Enact, Record, Correct, Withdraw, Restore, DraftAdd, DraftDrop, File}
use Rattle.law_register.specs.declared.register.known.KnownMod.{KnownMod}
use Rattle.law_register.specs.declared.law.modification.Modification.{Modification}
use Rattle.law_register.specs.Answer.Counted.{is_same_id}
use Rattle.law_register.specs.Register.KnownIds.{IdFacts, facts_of, ids_from_item, ids_recorded, ids_from, ids_of, known_as, known_ids}
use Rattle.law_register.specs.Answer.Soundness.{id_twice}

-- an id comes at this item of this law entry, or later
abbrev pub Later : ℕ → ℕ → Id → Type 0
Later law item id = (law < id.law) ⊎ ((law ≡ id.law) × (item ≤ id.item))

-- ids ascend from this item of this law entry on
abbrev pub Ascend : ℕ → ℕ → List Id → Type 0
Ascend law item [] = Unit {0}
Ascend law item (id ∷ ids) = Later law item id × Ascend id.law (id.item + 1) ids

later_still : (law item : ℕ) (id next : Id) → Later law item id → Later id.law (id.item + 1) next → Later law item next
later_still law item id next (inl a) (inl b) = inl (omega arith)
later_still law item id next (inl a) (inr b) = inl (omega (arith, b.0))
later_still law item id next (inr a) (inl b) = inl (omega (arith, a.0))
later_still law item id next (inr a) (inr b) = inr (a.0 ∙ b.0, omega (arith, a.1, b.1))

from_earlier : (law item : ℕ) (id : Id) (ids : List Id) → Later law item id → Ascend id.law (id.item + 1) ids → Ascend law item ids
from_earlier law item id [] later h = tt
from_earlier law item id (next ∷ ids) later h = (later_still law item id next later h.0, h.1)

-- the ids of a law entry, before those of later ones
next_entry : (law item : ℕ) (ids : List Id) → Ascend (law + 1) 0 ids → Ascend law item ids
next_entry law item [] h = tt
next_entry law item (id ∷ ids) h = (by h.0, h.1)
  where
    by : Later (law + 1) 0 id → Later law item id
    by (inl a) = inl (omega arith)
    by (inr a) = inl (omega (arith, a.0))

items_ascend : (law item : ℕ) (ms : List Modification) (ids : List Id) → Ascend (law + 1) 0 ids → Ascend law item (ids_from_item law item ms ++ ids)
items_ascend law item [] ids h = next_entry law item ids h
items_ascend law item (m ∷ ms) ids h = (inr (refl, omega arith), items_ascend law (item + 1) ms ids h)

from_first : (law : ℕ) (ids : List Id) → Ascend law 1 ids → Ascend law 0 ids
from_first law [] h = tt
from_first law (id ∷ ids) h = (by h.0, h.1)
  where
    by : Later law 1 id → Later law 0 id
    by (inl a) = inl a
    by (inr a) = inr (a.0, omega arith)

entry_ascends : (law : ℕ) (w : List ℕ) (l : Command) (ids : List Id) → Ascend (law + 1) 0 ids → Ascend law 0 (ids_recorded law w l ++ ids)
entry_ascends law w (Record other mods) ids h = by (bytes_eq other w)
  where
    by : (b : Bool) → Ascend law 0 (cond b (ids_from_item law 1 mods) [] ++ ids)
    by true = from_first law (ids_from_item law 1 mods ++ ids) (items_ascend law 1 mods ids h)
    by false = next_entry law 0 ids h
entry_ascends law w (Enact act) ids h = next_entry law 0 ids h
entry_ascends law w (Correct id body) ids h = next_entry law 0 ids h
entry_ascends law w (Withdraw id) ids h = next_entry law 0 ids h
entry_ascends law w (Restore id) ids h = next_entry law 0 ids h
entry_ascends law w (DraftAdd work body) ids h = next_entry law 0 ids h
entry_ascends law w (DraftDrop item) ids h = next_entry law 0 ids h
entry_ascends law w (File work seen) ids h = next_entry law 0 ids h

ids_ascend : (law : ℕ) (w : List ℕ) (ls : List Command) → Ascend law 0 (ids_from law w ls)
ids_ascend law w [] = tt
ids_ascend law w (l ∷ ls) = entry_ascends law w l (ids_from (law + 1) w ls) (ids_ascend (law + 1) w ls)

-- those of them that are known
abbrev known_id : KnownMod → Id
known_id m = m.id

known_ascend : (L : List Command) (law item : ℕ) (ids : List Id) → Ascend law item ids → Ascend law item (map known_id (known_ids L ids))
known_ascend L law item [] h = tt
known_ascend L law item (id ∷ ids) h = by (facts_of id L) (known_ascend L id.law (id.item + 1) ids h.1)
  where
    by : (f : Option IdFacts) → Ascend id.law (id.item + 1) (map known_id (known_ids L ids)) → Ascend law item (map known_id (known_as id f ++ known_ids L ids))
    by None rest = from_earlier law item id (map known_id (known_ids L ids)) h.0 rest
    by (Some f) rest = (h.0, rest)

differs : (a b : ℕ) → a < b → (a == b) ≡ false
differs a b h = grind (arith, nat_tests)

not_both : (a b : Bool) → b ≡ false → a && b ≡ false
not_both true b h = h
not_both false b h = refl

not_left : (a b : Bool) → a ≡ false → a && b ≡ false
not_left true b h = absurd (let no : true ≡ false = h in cc)
not_left false b h = refl

other_id : (id next : Id) → Later id.law (id.item + 1) next → is_same_id id next ≡ false
other_id id next (inl a) = not_left (id.law == next.law) (id.item == next.item) (differs id.law next.law a)
other_id id next (inr a) = not_both (id.law == next.law) (id.item == next.item) (differs id.item next.item (omega (arith, a.1)))

not_among : (id : Id) (ids : List Id) → Ascend id.law (id.item + 1) ids → list_any (is_same_id id) ids ≡ false
not_among id [] h = refl
not_among id (next ∷ ids) h =
    ap (λ b. b || list_any (is_same_id id) ids) (other_id id next h.0) ∙ not_among id ids (from_earlier id.law (id.item + 1) next ids h.0 h.1)

not_twice : (law item : ℕ) (ids : List Id) → Ascend law item ids → id_twice ids ≡ false
not_twice law item [] h = refl
not_twice law item (id ∷ ids) h = ap (λ b. b || id_twice ids) (not_among id ids h.1) ∙ not_twice id.law (id.item + 1) ids h.1

pub known_once : (L : List Command) (w : List ℕ) → id_twice (map (λ (m : KnownMod). m.id) (known_ids L (ids_of w L))) ≡ false
known_once L w = not_twice 1 0 (map known_id (known_ids L (ids_of w L))) (known_ascend L 1 0 (ids_of w L) (ids_ascend 1 w L))
