use Rattle.std.proofs.Common.{append_assoc}
use Rattle.akn_json.specs.Printing.Edits.{textual_data}
use Rattle.akn_json.proofs.printing.edits.put_join.Goals as goal

pub returns-clause-tokens : goal.returns-clause-tokens
unfolding textual_data
returns-clause-tokens c =
    rw (
      c.in_ok-put_kind.ensures.tokens,
      c.in_ok-put_text-2.ensures.tokens,
      append_assoc,
      c.in_ok-put_text.ensures.tokens,
      append_assoc,
      c.in_ok-put_target.ensures.tokens,
      append_assoc,
      c.in_ok-begin_object.ensures.ok,
      append_assoc,
      c.word.ensures,
      c.as_str.ensures,
      c.as_str-2.ensures,
      c.as_str-3.ensures,
    )
