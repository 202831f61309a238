-- Questions.
use Rattle.std.specs.Prelude.{ℕ, List, [], ◌∷◌, Option, codes, find}
use Rattle.std.specs.Str.{bytes_eq}
use Rattle.law_register.specs.declared.answer.question.Reading.{Reading}
use Rattle.law_register.specs.declared.answer.question.Reading.TheVariants.{Force, Efficacy}

-- the word for a reading
abbrev pub reading_name : Reading → List ℕ
reading_name Force = codes "force"
reading_name Efficacy = codes "efficacy"

-- the reading that a word names, if it names one
abbrev pub reading_named : List ℕ → Option Reading
reading_named word = find (λ reading. bytes_eq word (reading_name reading)) (Force ∷ Efficacy ∷ [])
