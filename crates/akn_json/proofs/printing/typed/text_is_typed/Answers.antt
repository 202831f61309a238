use Rattle.std.proofs.lemmas.Str.{is_utf8-from_IsUtf8}
use Rattle.akn_json.proofs.printing.typed.text_is_typed.Goals as goal

pub returns : goal.returns
returns c = is_utf8-from_IsUtf8 _ c.utf8._text
