-- The fields of commands, in any format.
use Rattle.std.specs.Prelude.{List, [], ◌∷◌}
use Rattle.law_register.specs.declared.law.command.Command.{Command}
use Rattle.law_register.specs.declared.law.command.Command.TheVariants.{Enact, Record, Correct, Withdraw, Restore, DraftAdd, DraftDrop, File}
use Rattle.entry_codec.specs.Fields.{Field, Kind, HeldBy, pair, kind, first, second, third, fourth, fifth, sixth, seventh, eighth, one_of}
use Rattle.entry_codec.specs.Values.{number32, work, id}
use Rattle.entry_codec.specs.Formats.{Format}
use Rattle.entry_codec.specs.Acts.{act}
use Rattle.entry_codec.specs.Modifications.{modification, modifications}

-- the kinds of a command that are spelled alike in every format
abbrev pub withdraw : Kind Command
withdraw = kind 4 (λ i. Withdraw i) id

abbrev pub restore : Kind Command
restore = kind 5 (λ i. Restore i) id

abbrev pub draft_drop : Kind Command
draft_drop = kind 7 (λ n. DraftDrop n) number32

abbrev pub file : Kind Command
file = kind 8 (λ p. File p.0 p.1) (pair work number32)

module _ (format : Format) where
  -- the others
  abbrev pub enact : Kind Command
  enact = kind 1 (λ a. Enact a) (act format)

  abbrev pub recorded : Kind Command
  recorded = kind 2 (λ p. Record p.0 p.1) (pair work (modifications format))

  abbrev pub correct : Kind Command
  correct = kind 3 (λ p. Correct p.0 p.1) (pair id (modification format))

  abbrev pub draft_add : Kind Command
  draft_add = kind 6 (λ p. DraftAdd p.0 p.1) (pair work (modification format))

  abbrev pub command_kinds : List (Kind Command)
  command_kinds = enact ∷ recorded ∷ correct ∷ withdraw ∷ restore ∷ draft_add ∷ draft_drop ∷ file ∷ []

  -- of what a command is made
  abbrev pub command_parts : Command → HeldBy command_kinds
  command_parts (Enact a) = first a
  command_parts (Record iri mods) = second (iri, mods)
  command_parts (Correct i body) = third (i, body)
  command_parts (Withdraw i) = fourth i
  command_parts (Restore i) = fifth i
  command_parts (DraftAdd iri body) = sixth (iri, body)
  command_parts (DraftDrop item) = seventh item
  command_parts (File iri seen) = eighth (iri, seen)

  -- a command
  unfoldable pub command : Field Command
  command = one_of command_kinds command_parts
