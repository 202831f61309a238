-- What is read of a source.
use Rattle.std.specs.Prelude.{ℕ, ◌≡◌, ◌<◌, List, [], ◌++◌, length, Option, Some, None, ◌⊎◌}
use Rattle.desk_base.specs.Streams.{risen}
use Rattle.dossier_text.specs.declared.stop.Stop.{Stop}
use Rattle.dossier_text.specs.declared.stop.Stop.TheVariants as stops

-- the bytes are the first of what a source had left, and what it has left now are the others; they are all of
-- them, or more than the limit
pub record IsInput (limit : ℕ) (all : List ℕ) (now : Option (List ℕ)) (bytes : List ℕ) : Type 0 where
  pub rest : List ℕ
  pub left : now ≡ Some rest
  pub begins : all ≡ bytes ++ rest
  pub enough : (rest ≡ []) ⊎ (limit < length bytes)

-- the same of a source that tells what it has left; of another nothing is known
abbrev pub IsInputOf : ℕ → Option (List ℕ) → Option (List ℕ) → List ℕ → Type 0
IsInputOf limit None now bytes = Unit {0}
IsInputOf limit (Some all) now bytes = IsInput limit all now bytes

-- the reading stops because the count of the source's faults rose by one, or for want of memory, and then the count is as it was
abbrev pub IsInputStop : ℕ → ℕ → Stop → Type 0
IsInputStop before now stops.Source = now ≡ risen before
IsInputStop before now stops.Memory = now ≡ before
IsInputStop before now stops.Sink = ⊥
