-- Ids: how they are printed, and how they are read.
use Rattle.std.specs.Prelude.{ℕ, ◌==◌, Bool, List, ◌∷◌, ◌++◌, Option, Some, None}
use Rattle.std.specs.Fmt.{decimal}
use Rattle.std.specs.List.{before_first, after_first}
use Rattle.desk_base.specs.Decimals.{decimal_up_to}
use Rattle.desk_base.specs.declared.id.Id.{Id}

-- `n.i`, both in decimal
abbrev pub id_text : Id → List ℕ
id_text id = decimal id.law ++ 46 ∷ decimal id.item

-- the byte is a full stop
abbrev pub is_stop : ℕ → Bool
is_stop byte = byte == 46

-- the number of a law entry that stands before the first full stop, or that is all of a text without one
unfoldable pub law_of : List ℕ → Option ℕ
law_of text = decimal_up_to 4294967295 (before_first is_stop text)

-- the number of an item that stands behind the first full stop
unfoldable pub item_of : List ℕ → Option ℕ
item_of text = decimal_up_to 65535 (after_first is_stop text)

-- the id of the item with this number, in the law entry with that one
abbrev pub id_with : Option ℕ → Option ℕ → Option Id
id_with None item = None
id_with (Some law) None = None
id_with (Some law) (Some item) = Some (record { law = law; item = item })

-- the id that a text spells: `n.i`, both in decimal
unfoldable pub id_of : List ℕ → Option Id
id_of text = id_with (law_of text) (item_of text)
