-- The form of a dossier, and what bytes say as one.
use Rattle.std.specs.Prelude.{ℕ, List, Ok}
use Rattle.serde_json.specs.Data.{Data}
use Rattle.akn_json.specs.declared.dossier.Dossier.{Dossier}
use Rattle.akn_json.specs.declared.reading.key.Key.TheVariants as key
use Rattle.akn_json.specs.declared.reading.tables.TheConstants.{DOSSIER}
use Rattle.akn_json.specs.Reading.Reads.{Read, ◌>>=◌, ◌>>◌}
use Rattle.akn_json.specs.Reading.Fields.{members_in, field_in}
use Rattle.akn_json.specs.Reading.Acts.{act_in}
use Rattle.akn_json.specs.Reading.Modifications.{mods_in}
use Rattle.akn_json.specs.Reading.Bytes.{value_of}

-- a dossier: an act and its modifications
unfoldable pub dossier_in : Data → Read Dossier
dossier_in d = do
  members_in DOSSIER d
  a ← field_in key.Act d
  act ← act_in a
  m ← field_in key.Modifications d
  mods ← mods_in m
  Ok (record { act = act; mods = mods })

-- the dossier that bytes are, or their first fault
unfoldable pub dossier_of : List ℕ → Read Dossier
dossier_of bytes = do
  d ← value_of bytes
  dossier_in d
