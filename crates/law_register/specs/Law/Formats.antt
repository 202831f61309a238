-- The format in which an entry is spelled: the first, but where its act is wide or one of its sources names a provision.
use Rattle.std.specs.Prelude.{ℕ, Bool, true, false, if◌then◌else◌}
use Rattle.std.specs.List.{list_any}
use Rattle.act_tree.specs.declared.limits.NodeLimit.{NodeLimit}
use Rattle.act_tree.specs.declared.limits.NodeLimit.TheVariants.{Plain, Wide}
use Rattle.law_register.specs.declared.law.command.Command.{Command}
use Rattle.law_register.specs.declared.law.command.Command.TheVariants.{Enact, Record, Correct, DraftAdd}
use Rattle.law_register.specs.declared.law.format.EntryFormat.{EntryFormat}
use Rattle.law_register.specs.declared.law.format.EntryFormat.TheVariants.{First, Second}
use Rattle.law_register.specs.Law.Sources.{names_provision}

-- the byte with which a spelling in a format begins
abbrev pub format_number : EntryFormat → ℕ
format_number First = 1
format_number Second = 2

-- an act of this limit is wide
abbrev pub is_wide : NodeLimit → Bool
is_wide Plain = false
is_wide Wide = true

-- a command asks for the second format: its act is wide, or one of its sources names a provision
unfoldable pub asks_second : Command → Bool
asks_second (Enact act) = is_wide act.limit
asks_second (Record work mods) = list_any names_provision mods
asks_second (Correct id body) = names_provision body
asks_second (DraftAdd work body) = names_provision body
asks_second _ = false

-- the format in which an entry of a command is spelled
abbrev pub format_of : Command → EntryFormat
format_of command = if asks_second command then Second else First
