-- The kinds of command, and the words for them.
use Rattle.std.specs.Prelude.{ℕ, List, [], ◌∷◌, Option, codes, find}
use Rattle.std.specs.Str.{bytes_eq}
use Rattle.akn_json.specs.declared.reading.command_kinds.CommandKind.{CommandKind}
use Rattle.akn_json.specs.declared.reading.command_kinds.CommandKind.TheVariants as kind

-- the word for a kind of command
abbrev pub command_word : CommandKind → List ℕ
command_word kind.Enact = codes "enact"
command_word kind.Record = codes "record"
command_word kind.Correct = codes "correct"
command_word kind.Withdraw = codes "withdraw"
command_word kind.Restore = codes "restore"
command_word kind.DraftAdd = codes "draftAdd"
command_word kind.DraftDrop = codes "draftDrop"
command_word kind.File = codes "file"

-- the kinds of command
abbrev pub command_kinds : List CommandKind
command_kinds =
    kind.Enact ∷ kind.Record ∷ kind.Correct ∷ kind.Withdraw ∷ kind.Restore
    ∷ kind.DraftAdd ∷ kind.DraftDrop ∷ kind.File ∷ []

-- the kind of command that a word names, if it names one
abbrev pub command_named : List ℕ → Option CommandKind
command_named word = find (λ k. bytes_eq (command_word k) word) command_kinds
