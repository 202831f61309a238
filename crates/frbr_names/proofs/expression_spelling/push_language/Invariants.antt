use Rattle.std.proofs.Common.{◌≡◌, ◌++◌, string_bytes, encode_utf8_all, drop}
use Rattle.frbr_names.proofs.expression_spelling.push_language.Given as goal

abbrev pub invariant-loop-letter : goal.invariant-loop-letter
invariant-loop-letter l =
    string_bytes l.text ++ encode_utf8_all (drop l.letter-index l.letter-items) ≡ string_bytes l.initial.text ++ encode_utf8_all l.fn.language
