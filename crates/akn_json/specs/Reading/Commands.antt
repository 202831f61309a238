-- The form of commands: who asks, under which number, and for what. The word for the kind chooses the keys and is judged before
-- them; the values follow in the order drafter, number, and those of the kind.
use Rattle.std.specs.Prelude.{ℕ, List, Ok}
use Rattle.serde_json.specs.Data.{Data}
use Rattle.desk_base.specs.declared.id.Id.{Id}
use Rattle.law_register.specs.Register.Drafters.{drafter_of}
use Rattle.law_register.specs.declared.law.command.Command.{Command}
use Rattle.law_register.specs.declared.law.command.Command.TheVariants as command
use Rattle.law_register.specs.declared.law.modification.Modification.{Modification}
use Rattle.akn_json.specs.declared.asked.Asked.{Asked}
use Rattle.akn_json.specs.declared.fault.FormRule.TheVariants.{BadName, UnknownWord}
use Rattle.akn_json.specs.declared.reading.command_kinds.CommandKind.{CommandKind}
use Rattle.akn_json.specs.declared.reading.command_kinds.CommandKind.TheVariants as kind
use Rattle.akn_json.specs.declared.reading.key.Key.{Key}
use Rattle.akn_json.specs.declared.reading.key.Key.TheVariants as key
use Rattle.akn_json.specs.declared.reading.tables.TheConstants.{ENACT, RECORD, CORRECT, WITHDRAW, RESTORE, DRAFT_ADD, DRAFT_DROP, FILE}
use Rattle.akn_json.specs.Reading.CommandKinds.{command_named}
use Rattle.akn_json.specs.Reading.Bytes.{value_of}
use Rattle.akn_json.specs.Reading.Reads.{Read, ◌>>=◌, ◌>>◌, broken, inside, or_fault}
use Rattle.akn_json.specs.Reading.Fields.{members_in, field_in, text_in, number_in}
use Rattle.akn_json.specs.Reading.Names.{id_in, work_in}
use Rattle.akn_json.specs.Reading.Acts.{act_in}
use Rattle.akn_json.specs.Reading.Modifications.{modification_in, mods_in}

-- the kind of a command
unfoldable pub command_kind_in : Data → Read CommandKind
command_kind_in d = do
  c ← field_in key.Command d
  word ← text_in c
  or_fault (broken UnknownWord) (command_named word)

-- the members of a command
abbrev pub command_keys_in : CommandKind → Data → Read Unit
command_keys_in kind.Enact d = members_in ENACT d
command_keys_in kind.Record d = members_in RECORD d
command_keys_in kind.Correct d = members_in CORRECT d
command_keys_in kind.Withdraw d = members_in WITHDRAW d
command_keys_in kind.Restore d = members_in RESTORE d
command_keys_in kind.DraftAdd d = members_in DRAFT_ADD d
command_keys_in kind.DraftDrop d = members_in DRAFT_DROP d
command_keys_in kind.File d = members_in FILE d

-- the name of who asks
unfoldable pub drafter_in : Data → Read (List ℕ)
drafter_in d = do
  a ← field_in key.Drafter d
  name ← text_in a
  or_fault (broken BadName) (drafter_of name)

-- the work that a command is on
unfoldable pub asked_work_in : Data → Read (List ℕ)
asked_work_in d = do
  w ← field_in key.Work d
  work_in w

-- the modification that a command is on
unfoldable pub asked_id_in : Data → Read Id
asked_id_in d = do
  i ← field_in key.Id d
  id_in i

-- the one modification that a command brings, where a fault has the place 1
unfoldable pub body_in : Data → Read Modification
body_in d = do
  m ← field_in key.Modification d
  inside 1 (modification_in m)

-- a number of a command
unfoldable pub count_in : Key → Data → Read ℕ
count_in at d = do
  n ← field_in at d
  number_in 4294967295 n

-- an act is enacted
unfoldable pub enact_in : Data → Read Command
enact_in d = do
  a ← field_in key.Act d
  act ← act_in a
  Ok (command.Enact act)

-- modifications of a work are recorded
unfoldable pub record_in : Data → Read Command
record_in d = do
  work ← asked_work_in d
  m ← field_in key.Modifications d
  mods ← mods_in m
  Ok (command.Record work mods)

-- a modification is corrected, withdrawn or restored
unfoldable pub correct_in : Data → Read Command
correct_in d = do
  id ← asked_id_in d
  body ← body_in d
  Ok (command.Correct id body)

unfoldable pub withdraw_in : Data → Read Command
withdraw_in d = do
  id ← asked_id_in d
  Ok (command.Withdraw id)

unfoldable pub restore_in : Data → Read Command
restore_in d = do
  id ← asked_id_in d
  Ok (command.Restore id)

-- a modification joins the draft, an item leaves it, or the items of a work are filed
unfoldable pub draft_add_in : Data → Read Command
draft_add_in d = do
  work ← asked_work_in d
  body ← body_in d
  Ok (command.DraftAdd work body)

unfoldable pub draft_drop_in : Data → Read Command
draft_drop_in d = do
  item ← count_in key.Item d
  Ok (command.DraftDrop item)

unfoldable pub file_in : Data → Read Command
file_in d = do
  work ← asked_work_in d
  seen ← count_in key.Seen d
  Ok (command.File work seen)

-- what a command of a kind asks for
abbrev pub command_in : CommandKind → Data → Read Command
command_in kind.Enact d = enact_in d
command_in kind.Record d = record_in d
command_in kind.Correct d = correct_in d
command_in kind.Withdraw d = withdraw_in d
command_in kind.Restore d = restore_in d
command_in kind.DraftAdd d = draft_add_in d
command_in kind.DraftDrop d = draft_drop_in d
command_in kind.File d = file_in d

-- a command, with who asks for it and under which number
unfoldable pub asked_in : Data → Read Asked
asked_in d = do
  kind ← command_kind_in d
  command_keys_in kind d
  drafter ← drafter_in d
  r ← field_in key.Request d
  request ← number_in 18446744073709551615 r
  command ← command_in kind d
  Ok (record { drafter = drafter; request = request; command = command })

-- the command that bytes ask for, or their first fault
unfoldable pub asked_of : List ℕ → Read Asked
asked_of bytes = do
  d ← value_of bytes
  asked_in d
