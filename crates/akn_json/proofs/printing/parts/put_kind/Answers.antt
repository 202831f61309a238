use Rattle.std.proofs.Common.{append_assoc}
use Rattle.akn_json.proofs.printing.parts.put_kind.Goals as goal

pub returns-clause-tokens : goal.returns-clause-tokens
returns-clause-tokens c =
    rw (
      c.in_ok-end_object.ensures.ok,
      c.in_ok-put_text.ensures.tokens,
      append_assoc,
      c.in_ok-put_source.ensures.tokens,
      append_assoc,
      c.in_ok-key.ensures.ok,
      append_assoc,
    )
