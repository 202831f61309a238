-- What bytes say: a value and the bytes behind it, or where the first broken field begins.
use Rattle.std.specs.Prelude.{◌≡◌, ℕ, List, Result, Ok, Err}
use Rattle.entry_codec.specs.declared.reading.reader.Stop.{Stop}
use Rattle.entry_codec.specs.declared.reading.reader.Stop.TheVariants as stops
use Rattle.entry_codec.specs.declared.fault.CodecFault.{CodecFault}
use Rattle.entry_codec.specs.declared.fault.DecodeFail.{DecodeFail}
use Rattle.entry_codec.specs.declared.fault.DecodeFail.TheVariants as fails

-- a value and the bytes that are left behind it; or, where a field is broken, how many bytes are left from its first one on
abbrev pub Read : Type 0 → Type 0
Read V = Result (V × List ℕ) ℕ

-- one reading, and then another that goes on from it; the first broken field is that of both
infixl 10 ◌>>=◌
abbrev pub ◌>>=◌ : {A B : Type 0} → Result A ℕ → (A → Result B ℕ) → Result B ℕ
Ok a >>= next = next a
Err left >>= next = Err left

-- a call that stops does so at the broken field, or for want of memory
abbrev pub Stops : {B : Type 0} → Stop → Result B ℕ → Type 0
Stops stops.Memory reading = Unit {0}
Stops (stops.Broken left) reading = reading ≡ Err left

-- a call gives what the reading says, as clauses see it, and leaves what it leaves; or it stops
abbrev pub Reads : {A B : Type 0} → (A → B) → Result A Stop → List ℕ → Read B → Type 0
Reads view (Ok a) left reading = reading ≡ Ok (view a, left)
Reads view (Err stop) left reading = Stops stop reading

-- a decoding that fails does so by its fault, or for want of memory
abbrev pub Fails : {B : Type 0} → DecodeFail → Result B CodecFault → Type 0
Fails fails.Memory decoding = Unit {0}
Fails (fails.Fault fault) decoding = decoding ≡ Err fault

-- a call gives exactly what the decoding says, or exactly its fault; besides, only memory may be wanting
abbrev pub Gives : {A B : Type 0} → (A → B) → Result A DecodeFail → Result B CodecFault → Type 0
Gives view (Ok a) decoding = decoding ≡ Ok (view a)
Gives view (Err fail) decoding = Fails fail decoding
