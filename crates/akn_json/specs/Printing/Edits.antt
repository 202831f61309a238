-- Textual modifications as JSON, with the keys of each object in ascending byte order. Every key of the form stands, whatever its value.
use Rattle.std.specs.Prelude.{ℕ, List, map, codes}
use Rattle.serde_json.specs.Data.{Data, string, array, object, Items, Members, no_members, member}
use Rattle.serde_json.specs.View.{items_of}
use Rattle.desk_base.specs.declared.period.Period.{Period}
use Rattle.law_register.specs.declared.law.modification.ModSource.{ModSource}
use Rattle.textual_mods.specs.declared.edit.Pos.{Pos}
use Rattle.textual_mods.specs.declared.edit.Pos.TheVariants as pos
use Rattle.textual_mods.specs.declared.edit.SplitAt.{SplitAt}
use Rattle.textual_mods.specs.declared.edit.SplitAt.TheVariants as cuts
use Rattle.textual_mods.specs.declared.edit.Spot.{Spot}
use Rattle.textual_mods.specs.declared.edit.TextPos.{TextPos}
use Rattle.textual_mods.specs.declared.edit.TextPos.TheVariants as stands
use Rattle.textual_mods.specs.declared.edit.TextualMod.{TextualMod}
use Rattle.textual_mods.specs.declared.edit.TextualMod.TheVariants.{Repeal, SubstituteNodes, SubstituteText, InsertNodes, InsertText, Renumber, Split, Join}
use Rattle.akn_json.specs.declared.reading.modifications.edit_kinds.EditKind.TheVariants as kind
use Rattle.akn_json.specs.Reading.Modifications.EditKinds.{kind_word}
use Rattle.akn_json.specs.Printing.Nodes.{payload_data}
use Rattle.akn_json.specs.Printing.Parts.{period_data, provision_data, kind_data}
use Rattle.akn_json.specs.Printing.Refusals.{number_data}

-- the word for a position
abbrev pub pos_word : Pos → List ℕ
pos_word pos.Before = codes "before"
pos_word pos.After = codes "after"
pos_word pos.Start = codes "start"
pos_word pos.End = codes "end"

-- a provision, and a position at it
abbrev pub anchor_data : List ℕ → Pos → Data
anchor_data wid at = object (member (codes "pos") (string (pos_word at)) (member (codes "wId") (string wid) no_members))

-- what an edit is directed at and when it is in force, and the members behind both
abbrev pub target_data : Data → Period → Members → Members
target_data target force rest = member (codes "destination") target (member (codes "force") (period_data force) rest)

-- one occurrence of a text, and the members behind it
abbrev pub spot_data : Spot → Members → Members
spot_data spot rest =
    member (codes "occurrence") (number_data spot.occurrence) (member (codes "old") (string spot.old) rest)

-- the heading and the num of the provision that a split makes, and the members behind them
abbrev pub made_data : List ℕ → List ℕ → Members → Members
made_data heading num rest = member (codes "heading") (string heading) (member (codes "num") (string num) rest)

-- the position of a text that is inserted
abbrev pub pos_of : TextPos → Pos
pos_of stands.Start = pos.Start
pos_of stands.End = pos.End
pos_of (stands.Before spot) = pos.Before
pos_of (stands.After spot) = pos.After

-- the last members of an insertion of text: the occurrence beside which it stands, exactly where there is one, its source and its kind
abbrev pub beside_data : ModSource → TextPos → Members
beside_data source stands.Start = kind_data source (kind_word kind.Insertion)
beside_data source stands.End = kind_data source (kind_word kind.Insertion)
beside_data source (stands.Before spot) = spot_data spot (kind_data source (kind_word kind.Insertion))
beside_data source (stands.After spot) = spot_data spot (kind_data source (kind_word kind.Insertion))

-- the split of a provision: at a child, or at an occurrence of a text
abbrev pub split_data : ModSource → Period → List ℕ → SplitAt → List ℕ → List ℕ → Data
split_data source force wid (cuts.Child child) num heading =
    object (member (codes "child") (string child)
    (target_data (provision_data wid) force (made_data heading num (kind_data source (kind_word kind.Split)))))
split_data source force wid (cuts.Text spot) num heading =
    object (target_data (provision_data wid) force
    (made_data heading num (spot_data spot (kind_data source (kind_word kind.Split)))))

-- a provision, with the num that it gets
abbrev pub pair_data : List ℕ × List ℕ → Data
pair_data pair = object (member (codes "num") (string pair.1) (member (codes "wId") (string pair.0) no_members))

-- provisions with the nums that they get
abbrev pub pairs_data : List (List ℕ × List ℕ) → Items
pairs_data pairs = items_of (map pair_data pairs)

-- a textual modification
unfoldable pub textual_data : ModSource → Period → TextualMod → Data
textual_data source force (Repeal wid) =
    object (target_data (provision_data wid) force (kind_data source (kind_word kind.Repeal)))
textual_data source force (SubstituteNodes wid new) =
    object (target_data (provision_data wid) force
    (member (codes "new") (payload_data new) (kind_data source (kind_word kind.Substitution))))
textual_data source force (SubstituteText wid spot new) =
    object (target_data (provision_data wid) force
    (member (codes "new") (string new) (spot_data spot (kind_data source (kind_word kind.Substitution)))))
textual_data source force (InsertNodes wid at new) =
    object (target_data (anchor_data wid at) force
    (member (codes "new") (payload_data new) (kind_data source (kind_word kind.Insertion))))
textual_data source force (InsertText wid at new) =
    object (target_data (anchor_data wid (pos_of at)) force (member (codes "new") (string new) (beside_data source at)))
textual_data source force (Renumber pairs) =
    object (member (codes "force") (period_data force)
    (member (codes "renumber") (array (pairs_data pairs)) (kind_data source (kind_word kind.Renumbering))))
textual_data source force (Split wid at num heading) = split_data source force wid at num heading
textual_data source force (Join wid second separator) =
    object (target_data (provision_data wid) force
    (member (codes "second") (string second)
    (member (codes "separator") (string separator) (kind_data source (kind_word kind.Join)))))
