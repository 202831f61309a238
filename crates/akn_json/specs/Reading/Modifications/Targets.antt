-- What an edit is directed at: a provision, a position at it, or a text in its content.
use Rattle.std.specs.Prelude.{ℕ, List, [], ◌∷◌, Option, Some, None, Ok, codes, if◌then◌else◌}
use Rattle.std.specs.Str.{bytes_eq}
use Rattle.serde_json.specs.Data.{Data}
use Rattle.textual_mods.specs.declared.edit.Pos.{Pos}
use Rattle.textual_mods.specs.declared.edit.Pos.TheVariants as pos
use Rattle.textual_mods.specs.declared.edit.Spot.{Spot}
use Rattle.akn_json.specs.declared.fault.FormRule.TheVariants.{UnknownWord}
use Rattle.akn_json.specs.declared.reading.key.Key.TheVariants as key
use Rattle.akn_json.specs.declared.reading.tables.TheConstants.{PROVISION, ANCHOR}
use Rattle.akn_json.specs.declared.reading.modifications.targets.Anchor.{Anchor}
use Rattle.akn_json.specs.Reading.Reads.{Read, ◌>>=◌, ◌>>◌, broken, or_fault}
use Rattle.akn_json.specs.Reading.Fields.{members_in, field_in, optional_in, text_in, number_in}

-- a provision, by its wId
unfoldable pub wid_in : Data → Read (List ℕ)
wid_in d = do
  members_in PROVISION d
  w ← field_in key.Wid d
  text_in w

-- the provision that an edit is directed at
unfoldable pub destination_in : Data → Read (List ℕ)
destination_in d = do
  target ← field_in key.Destination d
  wid_in target

-- the position that a word names, if it names one
abbrev pub pos_named : List ℕ → Option Pos
pos_named word =
    if bytes_eq word (codes "before") then Some pos.Before
    else if bytes_eq word (codes "after") then Some pos.After
    else if bytes_eq word (codes "start") then Some pos.Start
    else if bytes_eq word (codes "end") then Some pos.End
    else None

-- a position
unfoldable pub pos_in : Data → Read Pos
pos_in d = do
  word ← text_in d
  or_fault (broken UnknownWord) (pos_named word)

-- a provision, and a position at it
unfoldable pub place_in : Data → Read Anchor
place_in d = do
  members_in ANCHOR d
  w ← field_in key.Wid d
  wid ← text_in w
  p ← field_in key.Pos d
  pos ← pos_in p
  Ok (record { wid = wid; pos = pos })

-- where an insertion stands
unfoldable pub anchor_in : Data → Read Anchor
anchor_in d = do
  target ← field_in key.Destination d
  place_in target

-- which occurrence of a text is meant: the first, where none is stated
unfoldable pub occurrence_in : Data → Read ℕ
occurrence_in d = optional_in key.Occurrence 1 (number_in 65535) d

-- one occurrence of a text
unfoldable pub spot_in : Data → Read Spot
spot_in d = do
  o ← field_in key.Old d
  old ← text_in o
  occurrence ← occurrence_in d
  Ok (record { old = old; occurrence = occurrence })
