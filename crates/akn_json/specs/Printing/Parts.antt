-- The parts that printed modifications share, with the keys of each object in ascending byte order.
use Rattle.std.specs.Prelude.{ℕ, List, Option, Some, None, codes}
use Rattle.serde_json.specs.Data.{Data, string, object, Members, no_members, member}
use Rattle.desk_base.specs.Days.{day_text}
use Rattle.desk_base.specs.declared.period.Period.{Period}
use Rattle.law_register.specs.declared.law.modification.ModSource.{ModSource}
use Rattle.akn_json.specs.Printing.Refusals.{number_data}

-- a day
abbrev pub day_data : ℕ → Data
day_data day = string (day_text day)

-- the end of a period, exactly where it has one
abbrev pub until_data : Option ℕ → Members
until_data None = no_members
until_data (Some day) = member (codes "until") (day_data day) no_members

-- a period
abbrev pub period_data : Period → Data
period_data period = object (member (codes "from") (day_data period.start) (until_data period.end))

-- the provision that modifies, exactly where one is named
abbrev pub named_data : Option (List ℕ) → Members
named_data None = no_members
named_data (Some wid) = member (codes "provision") (string wid) no_members

-- the work that modifies, the place in it, and the provision of it
abbrev pub source_data : ModSource → Data
source_data source =
    object (member (codes "href") (string source.href)
    (member (codes "place") (number_data source.place) (named_data source.provision)))

-- a provision, by its wId
abbrev pub provision_data : List ℕ → Data
provision_data wid = object (member (codes "wId") (string wid) no_members)

-- the last members of each modification: its source, and the word for its kind
abbrev pub kind_data : ModSource → List ℕ → Members
kind_data source word = member (codes "source") (source_data source) (member (codes "type") (string word) no_members)
