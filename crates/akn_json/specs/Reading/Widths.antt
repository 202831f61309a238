-- How many items the lists of a JSON value have.
use Rattle.std.specs.Prelude.{ℕ, max}
use Rattle.serde_json.specs.Data.{Data, null, boolean, number, string, array, object, Items, no_items, item, Members, no_members, member}
use Rattle.serde_json.specs.Events.{items_len}

-- the most items that a list has which stands in a value, at any depth
abbrev mutual
  pub width : Data → ℕ
  width null = 0
  width (boolean b) = 0
  width (number n) = 0
  width (string s) = 0
  width (array ds) = max (items_len ds) (items_width ds)
  width (object ms) = members_width ms

  pub items_width : Items → ℕ
  items_width no_items = 0
  items_width (item d ds) = max (width d) (items_width ds)

  pub members_width : Members → ℕ
  members_width no_members = 0
  members_width (member name d ms) = max (width d) (members_width ms)
