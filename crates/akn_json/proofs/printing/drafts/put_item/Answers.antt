use Rattle.std.proofs.Common.{append_assoc}
use Rattle.akn_json.proofs.printing.drafts.put_item.Goals as goal

pub returns-clause-tokens : goal.returns-clause-tokens
returns-clause-tokens c =
    rw (
      c.in_ok-end_object.ensures.ok,
      c.in_ok-put_text.ensures.tokens,
      append_assoc,
      c.in_ok-put_modification.ensures.tokens,
      append_assoc,
      c.in_ok-key.ensures.ok,
      append_assoc,
      c.in_ok-put_number.ensures.tokens,
      append_assoc,
      c.in_ok-begin_object.ensures.ok,
      append_assoc,
      c.from.ensures,
      c.as_str.ensures,
    )
