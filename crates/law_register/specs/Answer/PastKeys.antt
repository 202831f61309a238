-- The keys under which tables of past viewpoints are kept, the latest first.
use Rattle.std.specs.Prelude.{Bool, true, false, ◌&&◌, ◌==◌, List, [], ◌∷◌, take, if◌then◌else◌}
use Rattle.std.specs.List.{list_any}
use Rattle.std.specs.Str.{bytes_eq}
use Rattle.law_register.specs.declared.answer.question.Question.{Question}
use Rattle.law_register.specs.declared.answer.question.Reading.{Reading}
use Rattle.law_register.specs.declared.answer.question.Reading.TheVariants.{Force, Efficacy}
use Rattle.law_register.specs.declared.answer.past_key.PastKey.{PastKey}

-- the key of a question
abbrev pub key_of : Question → PastKey
key_of q = record { work = q.work; viewpoint = q.viewpoint; reading = q.reading }

-- two readings are the same
abbrev pub is_same_reading : Reading → Reading → Bool
is_same_reading Force Force = true
is_same_reading Efficacy Efficacy = true
is_same_reading Force Efficacy = false
is_same_reading Efficacy Force = false

-- two keys are the same
abbrev pub is_same_key : PastKey → PastKey → Bool
is_same_key a b = bytes_eq a.work b.work && (a.viewpoint == b.viewpoint) && is_same_reading a.reading b.reading

-- a key is one of these
abbrev pub has_key : PastKey → List PastKey → Bool
has_key key keys = list_any (is_same_key key) keys

-- the keys but this one, in their order
abbrev pub others : PastKey → List PastKey → List PastKey
others key [] = []
others key (k ∷ ks) = if is_same_key key k then ks else k ∷ others key ks

-- the keys once this one is the latest: it is first, and the others follow in their order, cut to 16
abbrev pub keys_after : PastKey → List PastKey → List PastKey
keys_after key keys = take 16 (key ∷ others key keys)
