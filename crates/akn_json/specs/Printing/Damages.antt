-- What keeps a register from being opened, as JSON with the keys of each object in ascending byte order.
use Rattle.std.specs.Prelude.{ℕ, Option, Some, None, codes}
use Rattle.serde_json.specs.Data.{Data, null, string, object, no_members, member}
use Rattle.law_register.specs.declared.desk.damage.Damage.{Damage}
use Rattle.law_register.specs.declared.desk.damage.Damage.TheVariants.{Journal, Entry, Order}
use Rattle.akn_json.specs.Printing.Refusals.{number_data}

-- the byte at a place; null where the bytes end
abbrev pub byte_data : Option ℕ → Data
byte_data (Some byte) = number_data byte
byte_data None = null

-- damage of what holds the payloads, by its place there; a payload that is no entry, by its number and the place in it; an entry that is not
-- accepted behind those before it, by its number and that of the rule
abbrev pub damage_data : Damage → Data
damage_data (Journal place byte) =
    object (member (codes "byte") (byte_data byte)
    (member (codes "damaged") (string (codes "journal"))
    (member (codes "place") (number_data place) no_members)))
damage_data (Entry n place byte) =
    object (member (codes "byte") (byte_data byte)
    (member (codes "damaged") (string (codes "entry"))
    (member (codes "number") (number_data n)
    (member (codes "place") (number_data place) no_members))))
damage_data (Order n rule) =
    object (member (codes "damaged") (string (codes "order"))
    (member (codes "number") (number_data n)
    (member (codes "rule") (number_data rule) no_members)))
