-- The parts that forms are made of: objects of known keys, and the values that stand at them.
use Rattle.std.specs.Prelude.{ℕ, Bool, true, false, ◌&&◌, ◌||◌, nat_le, List, [], ◌∷◌, Option, Some, None, is_some, Ok}
use Rattle.std.specs.List.{list_all, list_any}
use Rattle.std.specs.Str.{bytes_eq}
use Rattle.serde_json.specs.Data.{Data, Items, no_items, item, Members, no_members, member}
use Rattle.serde_json.specs.Find.{get, as_object, as_array, as_str, as_number, as_u64}
use Rattle.desk_base.specs.declared.period.Period.{Period}
use Rattle.desk_base.specs.Days.{day_of}
use Rattle.akn_json.specs.Reading.Keys.{key_name}
use Rattle.akn_json.specs.declared.fault.FormRule.TheVariants.{WrongShape, BadDay, BadNumber}
use Rattle.akn_json.specs.declared.reading.key.Key.{Key}
use Rattle.akn_json.specs.declared.reading.key.Key.TheVariants as key
use Rattle.akn_json.specs.declared.reading.tables.Keys.{Keys}
use Rattle.akn_json.specs.declared.reading.tables.TheConstants.{PERIOD}
use Rattle.akn_json.specs.Reading.Reads.{Read, ◌>>=◌, ◌>>◌, broken, or_fault, unless_broken}

-- one of these keys has the name
abbrev pub is_named : List ℕ → List Key → Bool
is_named name keys = list_any (λ known. bytes_eq name (key_name known)) keys

-- each member of an object is at one of the required or of the optional keys
abbrev pub has_only : List Key → List Key → Members → Bool
has_only required optional no_members = true
has_only required optional (member name d ms) =
    (is_named name required || is_named name optional) && has_only required optional ms

-- an object has a member at each of these keys
abbrev pub has_all : List Key → Data → Bool
has_all keys d = list_all (λ known. is_some (get (key_name known) d)) keys

-- these are the members of an object: it has one at each required key, and none at another than the optional ones
abbrev pub are_at : List Key → List Key → Data → Option Members → Bool
are_at required optional d None = false
are_at required optional d (Some ms) = has_only required optional ms && has_all required d

-- an object has members at the required keys of a table, and at no others than its optional ones
unfoldable pub has_members : {R O : ℕ} → Keys R O → Data → Bool
has_members keys d = are_at keys.required keys.optional d (as_object d)

-- an object with the members of a table
unfoldable pub members_in : {R O : ℕ} → Keys R O → Data → Read Unit
members_in keys d = unless_broken (broken WrongShape) (has_members keys d)

-- an object with the members of the one table or of the other
unfoldable pub either_in : {R O P Q : ℕ} → Keys R O → Keys P Q → Data → Read Unit
either_in one other d = unless_broken (broken WrongShape) (has_members one d || has_members other d)

-- the value at a key of an object
unfoldable pub field_in : Key → Data → Read Data
field_in at d = or_fault (broken WrongShape) (get (key_name at) d)

-- what was found, read so; where nothing was, a stated value
abbrev pub read_or : {A : Type 0} → A → (Data → Read A) → Option Data → Read A
read_or absent reading None = Ok absent
read_or absent reading (Some d) = reading d

-- the value at a key of an object, read so; where the object has no such key, a stated value
unfoldable pub optional_in : {A : Type 0} → Key → A → (Data → Read A) → Data → Read A
optional_in at absent reading d = read_or absent reading (get (key_name at) d)

-- a list
unfoldable pub items_in : Data → Read Items
items_in d = or_fault (broken WrongShape) (as_array d)

-- each item of a list, read in order
abbrev pub each : {A : Type 0} → (Data → Read A) → Items → Read (List A)
each reading no_items = Ok []
each reading (item d ds) = do
  a ← reading d
  rest ← each reading ds
  Ok (a ∷ rest)

-- a text
unfoldable pub text_in : Data → Read (List ℕ)
text_in d = or_fault (broken WrongShape) (as_str d)

-- a whole number up to a limit
unfoldable pub number_in : ℕ → Data → Read ℕ
number_in most d = do
  number ← or_fault (broken WrongShape) (as_number d)
  n ← or_fault (broken BadNumber) (as_u64 number)
  unless_broken (broken BadNumber) (nat_le n most)
  Ok n

-- a day, as a text
unfoldable pub day_in : Data → Read ℕ
day_in d = do
  text ← text_in d
  or_fault (broken BadDay) (day_of text)

-- the end of a period, where one is stated
unfoldable pub end_in : Data → Read (Option ℕ)
end_in d = do
  day ← day_in d
  Ok (Some day)

-- a period, which may have no end
unfoldable pub period_in : Data → Read Period
period_in d = do
  members_in PERIOD d
  from ← field_in key.From d
  start ← day_in from
  end ← optional_in key.Until None end_in d
  Ok (record { start = start; end = end })
