-- How many bytes an entry takes where it is kept: a number of 1, 2, 4 or 8 bytes, a text behind its length, a list behind its count.
use Rattle.std.specs.Prelude.{ℕ, ◌+◌, List, [], ◌∷◌, Option, unwrap_or}
use Rattle.desk_base.specs.Sizes.{name_size, text_size}
use Rattle.desk_base.specs.declared.sizes.TheConstants.{DAY_SIZE, ID_SIZE, PERIOD_SIZE}
use Rattle.act_tree.specs.NodeSizes.{payload_size}
use Rattle.bearing_mods.specs.Sizes.{force_size, efficacy_size}
use Rattle.textual_mods.specs.EditSizes.{edit_size}
use Rattle.law_register.specs.declared.law.act.Act.{Act}
use Rattle.law_register.specs.declared.law.command.Command.{Command}
use Rattle.law_register.specs.declared.law.command.Command.TheVariants.{Enact, Record, Correct, Withdraw, Restore, DraftAdd, DraftDrop, File}
use Rattle.law_register.specs.declared.register.entry.Entry.{Entry}
use Rattle.law_register.specs.Law.Formats.{format_of}
use Rattle.law_register.specs.declared.law.format.EntryFormat.{EntryFormat}
use Rattle.law_register.specs.declared.law.format.EntryFormat.TheVariants.{First, Second}
use Rattle.law_register.specs.declared.law.modification.Destination.{Destination}
use Rattle.law_register.specs.declared.law.modification.Destination.TheVariants as to
use Rattle.law_register.specs.declared.law.modification.ModSource.{ModSource}
use Rattle.law_register.specs.declared.law.modification.Modification.{Modification}
use Rattle.law_register.specs.declared.law.modification.Modification.TheVariants as mods

-- the limit of an act, which only the second format says
abbrev pub limit_size : EntryFormat → ℕ
limit_size First = 0
limit_size Second = 2

-- an act: its work, language, day, numbering, limit, period and nodes
abbrev pub act_size : EntryFormat → Act → ℕ
act_size format act =
    text_size act.work + 3 + DAY_SIZE + 2 + limit_size format + PERIOD_SIZE + payload_size act.body

-- the provision of a source, which only the second format says; an empty text says that none is named
abbrev pub provision_size : EntryFormat → Option (List ℕ) → ℕ
provision_size First provision = 0
provision_size Second provision = text_size (unwrap_or provision [])

-- a source: its IRI, its place and its provision
abbrev pub source_size : EntryFormat → ModSource → ℕ
source_size format source = text_size source.href + 2 + provision_size format source.provision

-- a destination, behind a byte for its kind
abbrev pub destination_size : Destination → ℕ
destination_size (to.Modification id) = 1 + ID_SIZE
destination_size (to.Node wid) = 1 + text_size wid

-- a modification, behind a byte for its kind; an effect stands behind the day from which it is counted
abbrev pub modification_size : EntryFormat → Modification → ℕ
modification_size format (mods.Textual source force edit) =
    1 + source_size format source + PERIOD_SIZE + edit_size edit
modification_size format (mods.Force source destination on effect) =
    1 + source_size format source + destination_size destination + (DAY_SIZE + force_size effect)
modification_size format (mods.Efficacy source destination on effect) =
    1 + source_size format source + destination_size destination + (DAY_SIZE + efficacy_size effect)

-- modifications, without their count
abbrev pub modifications_size : EntryFormat → List Modification → ℕ
modifications_size format [] = 0
modifications_size format (m ∷ ms) = modification_size format m + modifications_size format ms

-- a command, behind a byte for its kind
abbrev pub command_size : EntryFormat → Command → ℕ
command_size format (Enact act) = 1 + act_size format act
command_size format (Record work mods) = 1 + text_size work + (2 + modifications_size format mods)
command_size format (Correct id body) = 1 + ID_SIZE + modification_size format body
command_size format (Withdraw id) = 1 + ID_SIZE
command_size format (Restore id) = 1 + ID_SIZE
command_size format (DraftAdd work body) = 1 + text_size work + modification_size format body
command_size format (DraftDrop item) = 1 + 4
command_size format (File work seen) = 1 + text_size work + 4

-- an entry of a drafter's command, in the format that the command asks for: the format in one byte, the drafter, the request,
-- the day, the law number, the command
abbrev pub size_of : List ℕ → Command → ℕ
size_of drafter command = 1 + name_size drafter + 8 + DAY_SIZE + 4 + command_size (format_of command) command

-- an entry
abbrev pub entry_size : Entry → ℕ
entry_size e = size_of e.drafter e.command

-- entries
abbrev pub entries_size : List Entry → ℕ
entries_size [] = 0
entries_size (e ∷ es) = entry_size e + entries_size es
