-- What a writer holds in the end, where it has written the tokens of one value.
use Rattle.std.proofs.Common.{◌≡◌, ◌∙◌, ap, ℕ, List, [], ◌++◌}
use Rattle.json.specs.Token.{Token}
use Rattle.json.specs.Print.{print}
use Rattle.json.specs.Tree.{json_tokens}
use Rattle.serde_json.specs.Data.{Data}
use Rattle.serde_json.specs.Written.{outline, compact_text}
use Rattle.serde_json.proofs.Texts.{print-outline}

-- a writer that begins with no bytes and writes the tokens of a value ends with the value's text
pub text_of_tokens : (d : Data) (bytes before : List ℕ) (old new : List Token)
    → bytes ≡ before ++ print new → before ≡ [] → old ≡ [] → new ≡ old ++ json_tokens (outline d) → bytes ≡ compact_text d
text_of_tokens d bytes before old new are empty begun written =
    are ∙ ap (λ b. b ++ print new) empty ∙ ap print written ∙ ap (λ t. print (t ++ json_tokens (outline d))) begun ∙ print-outline d
