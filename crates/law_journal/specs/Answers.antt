-- Answers of the system.
use Rattle.std.specs.Prelude.{◌≡◌, Result, Ok, Err}

-- a value that is handed on is the one that was answered
abbrev pub HasValueOf : {T E F : Type 0} → Result T E → Result T F → Type 0
HasValueOf (Ok value) result = result ≡ Ok value
HasValueOf (Err fault) (Ok value) = ⊥
HasValueOf (Err fault) (Err other) = Unit {0}
