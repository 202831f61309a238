-- Lists that are own or kept: what a clause sees of one, and the pieces of one.
use Rattle.std.specs.Prelude.{◌≡◌, ℕ, ◌+◌, ◌*◌, ◌<◌, ◌≤◌, Bool, true, false, List, [], length, get_or, take, drop, slice_set, refl}
use Rattle.std.specs.List.{flat_map, refill}
use Rattle.std.specs.Coded.{Coded, code_by, coded×, coded_list, coded_bool, coded_ℕ}

-- the values, whether the list is own, and for how many more values there is room
pub record ListValue (T : Type 0) : Type 0 where
  pub items : List T
  pub is_own : Bool
  pub room : ℕ

-- a list is stored as these three
abbrev pub list_code : {T : Type 0} → Coded T → Coded (ListValue T)
list_code {T} code =
    code_by (List T × (Bool × ℕ)) (coded× (coded_list code) (coded× coded_bool coded_ℕ))
    (λ v. (v.items, (v.is_own, v.room))) (λ p. record { items = p.0; is_own = p.1.0; room = p.1.1 }) (λ _. refl)

-- a list after one of its values became another
abbrev pub with_value : {T : Type 0} → ListValue T → ℕ → T → ListValue T
with_value v i x = record v { items = slice_set v.items i x }

-- a list of these values, with the room that there was
abbrev pub with_list : {T : Type 0} → ListValue T → List T → ListValue T
with_list v xs = record v { items = xs }

-- a list after its values became others; it stays as long as it was
abbrev pub with_values : {T : Type 0} → ListValue T → List T → ListValue T
with_values v xs = with_list v (refill (length v.items) v.items xs)

-- pieces, one after another
abbrev pub joined_pieces : {T : Type 0} → List (List T) → List T
joined_pieces pieces = flat_map (λ p. p) pieces

-- the k-th piece of a list, where pieces have so many values
abbrev pub piece : {T : Type 0} → ℕ → List T → ℕ → List T
piece size items k = take size (drop (k * size) items)

-- pieces of so many values that make up a list: each has the values that stand there, and they end where the list does
pub record ArePieces {T : Type 0} (size : ℕ) (items : List T) (pieces : List (List T)) : Type 0 where
  pub some : 0 < size
  pub here : (k : ℕ) → k < length pieces → get_or pieces k [] ≡ piece size items k
  pub enough : length items ≤ length pieces * size
  pub ended : length pieces * size < length items + size

-- pieces in blocks of so many
abbrev pub AreBlocks : {T : Type 0} → ℕ → List (List T) → Type 0
AreBlocks size blocks = ArePieces size (joined_pieces blocks) blocks

-- the values of a list: its own, or those of its pieces
abbrev pub values_in : {T : Type 0} → Bool → List T → List (List T) → List T
values_in true own pieces = own
values_in false own pieces = joined_pieces pieces

-- the room of a list: none where it is kept
abbrev pub room_in : Bool → ℕ → ℕ
room_in true spare = spare
room_in false spare = 0

-- Each piece of which nothing was written since has the values that stand there, and none begins behind the list. Of an
-- own list it is noted of each piece whether something was; a kept one has all its values in pieces, and their number.
pub record IsList {T : Type 0} (size : ℕ) (is_own : Bool) (own : List T) (pieces : List (List T)) (written : List Bool) (count : ℕ) : Type 0 where
  pub some : 0 < size
  pub shared : (k : ℕ) → k < length pieces → get_or written k false ≡ false
      → get_or pieces k [] ≡ piece size (values_in is_own own pieces) k
  pub ended : length pieces * size < length (values_in is_own own pieces) + size
  pub noted : is_own ≡ true → length written ≡ length pieces
  pub unwritten : is_own ≡ false → written ≡ []
  pub enough : is_own ≡ false → count ≤ length pieces * size
  pub counted : is_own ≡ false → count ≡ length (joined_pieces pieces)

-- of pieces whose values can be written: each of which nothing was written since has the values that stand there, and
-- none begins behind the list
pub record IsNoted {T : Type 0} (size : ℕ) (items : List T) (pieces : List (List T)) (written : List Bool) : Type 0 where
  pub shared : (k : ℕ) → k < length pieces → get_or written k false ≡ false → get_or pieces k [] ≡ piece size items k
  pub ended : length pieces * size < length items + size
  pub noted : length written ≡ length pieces

-- of the first so many pieces nothing was written
pub record AreFresh {T : Type 0} (n : ℕ) (pieces : List (List T)) (written : List Bool) : Type 0 where
  pub within : n ≤ length pieces
  pub fresh : (k : ℕ) → k < n → get_or written k false ≡ false
