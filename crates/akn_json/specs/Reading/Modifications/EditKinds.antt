-- The kinds of textual modification, and the tables of keys by which they are read.
use Rattle.std.specs.Prelude.{ℕ, List, [], ◌∷◌, Option, codes, find, Ok, Err}
use Rattle.std.specs.Str.{bytes_eq}
use Rattle.serde_json.specs.Data.{Data, null, boolean, number, string, array, object}
use Rattle.akn_json.specs.declared.fault.FormRule.TheVariants.{WrongShape, UnknownWord}
use Rattle.akn_json.specs.declared.reading.modifications.edit_kinds.EditKind.{EditKind}
use Rattle.akn_json.specs.declared.reading.modifications.edit_kinds.EditKind.TheVariants as kind
use Rattle.akn_json.specs.declared.reading.modifications.edits.EditForm.{EditForm}
use Rattle.akn_json.specs.declared.reading.modifications.edits.EditForm.TheVariants as form
use Rattle.akn_json.specs.declared.reading.modifications.edits.Payload.{Payload}
use Rattle.akn_json.specs.declared.reading.modifications.edits.Payload.TheVariants as payload
use Rattle.akn_json.specs.declared.reading.key.Key.TheVariants as key
use Rattle.akn_json.specs.Reading.Reads.{Read, ◌>>=◌, broken, or_fault}
use Rattle.akn_json.specs.Reading.Fields.{field_in, text_in}

-- the word for a kind of textual modification
abbrev pub kind_word : EditKind → List ℕ
kind_word kind.Repeal = codes "repeal"
kind_word kind.Substitution = codes "substitution"
kind_word kind.Insertion = codes "insertion"
kind_word kind.Renumbering = codes "renumbering"
kind_word kind.Split = codes "split"
kind_word kind.Join = codes "join"

-- the kinds of textual modification
abbrev pub all_kinds : List EditKind
all_kinds = kind.Repeal ∷ kind.Substitution ∷ kind.Insertion ∷ kind.Renumbering ∷ kind.Split ∷ kind.Join ∷ []

-- the kind of textual modification that a word names, if it names one
abbrev pub kind_named : List ℕ → Option EditKind
kind_named word = find (λ k. bytes_eq (kind_word k) word) all_kinds

-- the kind of a textual modification
unfoldable pub kind_in : Data → Read EditKind
kind_in d = do
  t ← field_in key.Type d
  word ← text_in t
  or_fault (broken UnknownWord) (kind_named word)

-- a list brings nodes, and a text brings a text; there is no third
abbrev pub payload_of : Data → Read Payload
payload_of null = Err (broken WrongShape)
payload_of (boolean b) = Err (broken WrongShape)
payload_of (number n) = Err (broken WrongShape)
payload_of (string s) = Ok payload.Text
payload_of (array ds) = Ok payload.Nodes
payload_of (object ms) = Err (broken WrongShape)

-- what a substitution or an insertion brings
unfoldable pub payload_in : Data → Read Payload
payload_in d = do
  new ← field_in key.New d
  payload_of new

-- the table of a substitution
abbrev pub substitution_form : Payload → EditForm
substitution_form payload.Nodes = form.SubstituteNodes
substitution_form payload.Text = form.SubstituteText

-- the table of an insertion
abbrev pub insertion_form : Payload → EditForm
insertion_form payload.Nodes = form.InsertNodes
insertion_form payload.Text = form.InsertText

-- the table of a textual modification, which its kind and what it brings choose
unfoldable pub form_in : EditKind → Data → Read EditForm
form_in kind.Repeal d = Ok form.Repeal
form_in kind.Substitution d = do
  brought ← payload_in d
  Ok (substitution_form brought)
form_in kind.Insertion d = do
  brought ← payload_in d
  Ok (insertion_form brought)
form_in kind.Renumbering d = Ok form.Renumber
form_in kind.Split d = Ok form.Split
form_in kind.Join d = Ok form.Join
