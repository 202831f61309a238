-- The keys of the forms.
use Rattle.std.specs.Prelude.{ℕ, ◌≡◌, List, [], ◌∷◌, ◌++◌, codes}
use Rattle.akn_json.specs.declared.reading.key.Key.{Key}
use Rattle.akn_json.specs.declared.reading.key.Key.TheVariants as key
use Rattle.akn_json.specs.declared.reading.tables.Keys.{Keys}

-- a key as it stands in the JSON text
abbrev pub key_name : Key → List ℕ
key_name key.Act = codes "act"
key_name key.Modifications = codes "modifications"
key_name key.FrbrUri = codes "FRBRuri"
key_name key.FrbrDate = codes "FRBRdate"
key_name key.FrbrLanguage = codes "FRBRlanguage"
key_name key.Numbering = codes "numbering"
key_name key.NodeLimit = codes "nodeLimit"
key_name key.Force = codes "force"
key_name key.Body = codes "body"
key_name key.Element = codes "element"
key_name key.Num = codes "num"
key_name key.Heading = codes "heading"
key_name key.Content = codes "content"
key_name key.Refs = codes "refs"
key_name key.Children = codes "children"
key_name key.TextualMod = codes "textualMod"
key_name key.ForceMod = codes "forceMod"
key_name key.EfficacyMod = codes "efficacyMod"
key_name key.Type = codes "type"
key_name key.Source = codes "source"
key_name key.Destination = codes "destination"
key_name key.Href = codes "href"
key_name key.Place = codes "place"
key_name key.Provision = codes "provision"
key_name key.From = codes "from"
key_name key.Until = codes "until"
key_name key.Wid = codes "wId"
key_name key.New = codes "new"
key_name key.Old = codes "old"
key_name key.Occurrence = codes "occurrence"
key_name key.Pos = codes "pos"
key_name key.Renumber = codes "renumber"
key_name key.Child = codes "child"
key_name key.Second = codes "second"
key_name key.Separator = codes "separator"
key_name key.On = codes "on"
key_name key.Date = codes "date"
key_name key.Days = codes "days"
key_name key.Modification = codes "modification"
key_name key.Drafter = codes "drafter"
key_name key.Request = codes "request"
key_name key.Command = codes "command"
key_name key.Work = codes "work"
key_name key.Id = codes "id"
key_name key.Item = codes "item"
key_name key.Seen = codes "seen"

-- the names of keys, with a blank between two
abbrev pub names_of : List Key → List ℕ
names_of [] = []
names_of (known ∷ []) = key_name known
names_of (known ∷ next ∷ more) = key_name known ++ 32 ∷ names_of (next ∷ more)

-- an object of a table has members at keys of these names, and may have some at those besides
abbrev pub HasKeys : {R O : ℕ} → Keys R O → List ℕ → List ℕ → Type 0
HasKeys keys required optional = (names_of keys.required ≡ required) × (names_of keys.optional ≡ optional)
