-- The journal's file: the magic, records behind open gates, and a closed gate.
use Rattle.std.specs.Prelude.{ℕ, zero, suc, ◌+◌, ◌*◌, ◌/◌, ◌%◌, Bool, ◌&&◌, ◌==◌, nat_lt, nat_le, List, [], ◌∷◌, ◌++◌, length, take, drop, Option, Some, None, Result, Ok, Err, codes, if◌then◌else◌}
use Rattle.std.specs.List.{flat_map}
use Rattle.std.specs.Option.{option_map}

-- where a file is damaged: the first place that shows it, and the byte there, if there is one
pub record Damage : Type 0 where
  pub place : ℕ
  pub byte : Option ℕ

-- the eight bytes that begin a journal
abbrev pub magic : List ℕ
magic = codes "AKNLAW01"

-- the number of four bytes, the highest first
abbrev pub number_of : ℕ → ℕ → ℕ → ℕ → ℕ
number_of a b c d = 16777216 * a + 65536 * b + 256 * c + d

-- the four bytes of a number below 2^32
abbrev pub four_bytes : ℕ → List ℕ
four_bytes n = n / 16777216 ∷ n / 65536 % 256 ∷ n / 256 % 256 ∷ n % 256 ∷ []

-- a payload has 1 to 16,777,216 bytes
abbrev pub is_size : ℕ → Bool
is_size n = nat_le 1 n && nat_le n 16777216

-- the frame of a payload: its length, the payload, and a closed gate
abbrev pub frame_of : List ℕ → List ℕ
frame_of payload = four_bytes (length payload) ++ payload ++ 0 ∷ []

-- the record of a payload: an open gate, its length, and the payload
abbrev pub record_of : List ℕ → List ℕ
record_of payload = 1 ∷ (four_bytes (length payload) ++ payload)

-- the records of payloads, one behind the other
abbrev pub records_of : List (List ℕ) → List ℕ
records_of payloads = flat_map record_of payloads

-- what stands at a gate: the end of the list, a payload with what follows it from the next gate on, or damage
pub data Step : Type 0 where
  ends : Step
  holds : List ℕ → List ℕ → Step
  breaks : Damage → Step

-- a payload of n bytes that begins at a place, and the next gate, have to be there whole
abbrev pub payload_at : ℕ → ℕ → List ℕ → Step
payload_at place n rest = if nat_lt n (length rest) then holds (take n rest) (drop n rest)
    else breaks (record { place = place + length rest; byte = None })

-- a length that begins at a place has to be there whole and be in range
abbrev pub length_at : ℕ → List ℕ → Step
length_at place (a ∷ b ∷ c ∷ d ∷ rest) = if is_size (number_of a b c d)
    then payload_at (place + 4) (number_of a b c d) rest
    else breaks (record { place = place; byte = Some a })
length_at place rest = breaks (record { place = place + length rest; byte = None })

-- what stands at the gate at a place, of the bytes from there on: any value but 1 is closed
abbrev pub step_at : ℕ → List ℕ → Step
step_at place [] = breaks (record { place = place; byte = None })
step_at place (gate ∷ rest) = if gate == 1 then length_at (place + 1) rest else ends

-- a list of payloads, or the first damage
abbrev pub Listing : Type 0
Listing = Result (List (List ℕ)) Damage

-- the list with one payload in front
abbrev pub with_first : List ℕ → Listing → Listing
with_first payload (Ok payloads) = Ok (payload ∷ payloads)
with_first payload (Err damage) = Err damage

-- the list with one payload behind
abbrev pub with_last : List ℕ → Listing → Listing
with_last payload (Ok payloads) = Ok (payloads ++ payload ∷ [])
with_last payload (Err damage) = Err damage

-- the list with more payloads behind
abbrev pub with_more : List (List ℕ) → Listing → Listing
with_more more (Ok payloads) = Ok (payloads ++ more)
with_more more (Err damage) = Err damage

-- what a step at a place makes of the list of what follows it
abbrev pub step_list : ℕ → Step → (ℕ → List ℕ → Listing) → Listing
step_list place ends go = Ok []
step_list place (breaks damage) go = Err damage
step_list place (holds payload rest) go = with_first payload (go (place + 5 + length payload) rest)

-- the payloads from the gate at a place on; each step takes a byte at least, so as many steps as bytes are enough
abbrev pub list_from : ℕ → ℕ → List ℕ → Listing
list_from zero place rest = Ok []
list_from (suc steps) place rest = step_list place (step_at place rest) (list_from steps)

-- the place of the first byte that differs from those of the magic, and that byte
abbrev pub magic_fault : ℕ → List ℕ → List ℕ → Option (ℕ × Option ℕ)
magic_fault place [] file = None
magic_fault place (m ∷ ms) [] = Some (place, None)
magic_fault place (m ∷ ms) (b ∷ bs) = if b == m then magic_fault (place + 1) ms bs else Some (place, Some b)

-- the list of a file that begins with the magic, or a byte that differs
abbrev pub list_behind : Option (ℕ × Option ℕ) → Listing → Listing
list_behind (Some fault) listing = Err (record { place = fault.0; byte = fault.1 })
list_behind None listing = listing

-- the payloads of a file, or the damage that it shows first; a file of at most nine bytes has none, whatever they are
abbrev pub list_of : List ℕ → Listing
list_of file = if nat_le (length file) 9 then Ok []
    else list_behind (magic_fault 0 magic file) (list_from (length file) 8 (drop 8 file))

-- the bytes of the records of payloads
abbrev pub records_size : List (List ℕ) → ℕ
records_size [] = 0
records_size (payload ∷ payloads) = 5 + length payload + records_size payloads

-- the place of the gate that ends a list
abbrev pub end_of : Listing → Option ℕ
end_of (Ok payloads) = Some (8 + records_size payloads)
end_of (Err damage) = None

-- the number of the gate at a place, which is how many of the payloads stand before it; the first gate is at `from`
abbrev pub gate_number : ℕ → List (List ℕ) → ℕ → Option ℕ
gate_number from [] place = if place == from then Some 0 else None
gate_number from (payload ∷ payloads) place = if place == from then Some 0
    else option_map (λ n. n + 1) (gate_number (from + 5 + length payload) payloads place)

-- the number of the gate at a place of a file with this list
abbrev pub gate_in : Listing → ℕ → Option ℕ
gate_in (Ok payloads) place = gate_number 8 payloads place
gate_in (Err damage) place = None
