-- What a reading gives: a value, or the first fault of the text.
use Rattle.std.specs.Prelude.{◌≡◌, ℕ, ◌-◌, min, Bool, true, false, List, length, Option, Some, None, Result, Ok, Err}
use Rattle.frbr_names.specs.declared.fault.NameRule.{NameRule}
use Rattle.frbr_names.specs.declared.fault.NameFault.{NameFault}

-- what the text says, or the first fault that keeps it from saying it
abbrev pub Read : Type 0 → Type 0
Read A = Result A NameFault

-- one reading, and then another that goes on from it; the first fault is the fault of both
infixl 10 ◌>>=◌
abbrev pub ◌>>=◌ : {A B : Type 0} → Read A → (A → Read B) → Read B
Ok a >>= next = next a
Err fault >>= next = Err fault

-- one reading after another that gives nothing of its own
infixl 10 ◌>>◌
abbrev pub ◌>>◌ : {A B : Type 0} → Read A → Read B → Read B
Ok a >> next = next
Err fault >> next = Err fault

-- a rule is broken by the part that begins at a byte; places past 32 bits are the last of them
abbrev pub fault_at : NameRule → ℕ → NameFault
fault_at rule place = record { rule = rule; place = min place 4294967295 }

-- the byte at which what is left of a text begins
abbrev pub place_of : List ℕ → List ℕ → ℕ
place_of text left = length text - length left

-- what was found; where nothing was, that is the fault
abbrev pub or_fault : {A : Type 0} → NameFault → Option A → Read A
or_fault fault None = Err fault
or_fault fault (Some a) = Ok a

-- a rule is kept; where it is not, that is the fault
abbrev pub unless_broken : NameFault → Bool → Read Unit
unless_broken fault true = Ok tt
unless_broken fault false = Err fault

-- a call gives exactly what the reading says, as clauses see it, or exactly its fault
abbrev pub Gives : {A B : Type 0} → (A → B) → Result A NameFault → Read B → Type 0
Gives view (Ok a) reading = reading ≡ Ok (view a)
Gives view (Err fault) reading = reading ≡ Err fault
