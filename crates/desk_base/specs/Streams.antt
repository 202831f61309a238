-- What the streams of the outside take, give and count.
use Rattle.std.specs.Prelude.{ℕ, ◌≡◌, ◌+◌, ◌-◌, ◌^◌, ◌≤◌, List, ◌++◌, Option, Some, None, Result, Ok, Err, max, min}

-- a count of faults with one fault more; it stands still at its last value
abbrev pub risen : ℕ → ℕ
risen count = max count (min (count + 1) (2 ^ 64 - 1))

-- a count of faults rose, or stands at its last value; it did not fall
abbrev pub Rose : ℕ → ℕ → Type 0
Rose before now = risen before ≤ now

-- a call that fails counts one fault, and any other leaves the count as it was
abbrev pub HasCause : {T E : Type 0} → ℕ → ℕ → Result T E → Type 0
HasCause before now (Ok value) = now ≡ before
HasCause before now (Err fault) = now ≡ risen before

-- a read lowers the room of its source by the bytes that it gives
abbrev pub LowersRoom : {E : Type 0} → ℕ → ℕ → Result ℕ E → Type 0
LowersRoom before now (Ok n) = now + n ≡ before
LowersRoom before now (Err fault) = now ≡ before

-- what is written is what was written before, and a front part of the bytes, where the sink tells it
abbrev pub AppendsFront : Option (List ℕ) → Option (List ℕ) → List ℕ → Type 0
AppendsFront None now bytes = Unit {0}
AppendsFront (Some before) now bytes =
    (front : List ℕ) × ((rest : List ℕ) × ((now ≡ Some (before ++ front)) × (front ++ rest ≡ bytes)))

-- a write appends all its bytes, or after a failure a front part of them, where the sink tells what is written
abbrev pub Appended : {E : Type 0} → Option (List ℕ) → Option (List ℕ) → List ℕ → Result Unit E → Type 0
Appended None now bytes result = Unit {0}
Appended (Some before) now bytes (Ok done) = now ≡ Some (before ++ bytes)
Appended (Some before) now bytes (Err fault) = AppendsFront (Some before) now bytes
