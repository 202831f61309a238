-- A JSON value that borrows its text, as the one that serde_json reads: a number has a value, and of a repeated key the last value counts.
use Rattle.std.specs.Prelude.{ℕ, List, map, Bool, true, false, ◌&&◌, ◌||◌, Option, Some, None, is_some, negsuc}
use Rattle.std.specs.Borrow.{Bor}
use Rattle.std.specs.Str.{bytes_eq}
use Rattle.std.specs.declared.alloc.Global.{Global}
use Rattle.json.specs.Json as json
use Rattle.json.specs.declared.value.Value.{Value}
use Rattle.json.specs.Value as borrowed
use Rattle.serde_json.specs.Data.{Num, negative, Data, null, boolean, number, string, array, object, Items, no_items, item, Members, no_members, put}
use Rattle.serde_json.specs.Read.{number_of}
use Rattle.serde_json.specs.View.{items_of}
use Rattle.akn_json.specs.declared.reading.key.Key.{Key}
use Rattle.akn_json.specs.Reading.Fields.{is_named}

-- a number; in the place of one that is out of range stands one below zero
abbrev pub num_or_below : Option Num → Num
num_or_below None = negative (negsuc 0)
num_or_below (Some n) = n

-- the value that serde_json makes of what the grammar gives: the members go in one after another
abbrev mutual
  pub data_of : json.Json → Data
  data_of json.null = null
  data_of (json.boolean b) = boolean b
  data_of (json.number s) = number (num_or_below (number_of s))
  data_of (json.string s) = string s
  data_of (json.array js) = array (items_data js)
  data_of (json.object ms) = object (members_data ms no_members)

  pub items_data : json.Items → Items
  items_data json.no_items = no_items
  items_data (json.item j js) = item (data_of j) (items_data js)

  pub members_data : json.Members → Members → Members
  members_data json.no_members found = found
  members_data (json.member k j ms) found = members_data ms (put k (data_of j) found)

-- each number of a value is in range
abbrev mutual
  pub is_in_range : json.Json → Bool
  is_in_range json.null = true
  is_in_range (json.boolean b) = true
  is_in_range (json.number s) = is_some (number_of s)
  is_in_range (json.string s) = true
  is_in_range (json.array js) = are_items_in_range js
  is_in_range (json.object ms) = are_members_in_range ms

  pub are_items_in_range : json.Items → Bool
  are_items_in_range json.no_items = true
  are_items_in_range (json.item j js) = is_in_range j && are_items_in_range js

  pub are_members_in_range : json.Members → Bool
  are_members_in_range json.no_members = true
  are_members_in_range (json.member k j ms) = is_in_range j && are_members_in_range ms

-- what is there, if a test holds
abbrev pub kept : {A : Type 0} → Bool → A → Option A
kept true a = Some a
kept false a = None

-- a value as the definitions of the forms see it
abbrev pub seen : Value Global → Data
seen v = data_of (borrowed.value_view v)

-- the items of a list, so seen
abbrev pub items_seen : List (Value Global) → Items
items_seen vs = items_of (map seen vs)

-- the members of an object, so seen
abbrev pub members_seen : List (Bor (List ℕ) × Value Global) → Members
members_seen ms = members_data (borrowed.members_view ms) no_members

-- the members of an object, as its text has them, are at required or at optional keys
abbrev pub are_known : List Key → List Key → json.Members → Bool
are_known required optional json.no_members = true
are_known required optional (json.member name j ms) = (is_named name required || is_named name optional) && are_known required optional ms

-- each member of an object, as its text has them, is at this key
abbrev pub are_named : List ℕ → json.Members → Bool
are_named name json.no_members = true
are_named name (json.member other j ms) = bytes_eq other name && are_named name ms

-- an object has members, and all of them at one key
abbrev pub has_one_key : json.Members → Bool
has_one_key json.no_members = false
has_one_key (json.member name j ms) = are_named name (json.member name j ms)
