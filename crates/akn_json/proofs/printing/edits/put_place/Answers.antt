use Rattle.std.proofs.Common.{append_assoc}
use Rattle.akn_json.proofs.printing.edits.put_place.Goals as goal

pub returns-clause-tokens : goal.returns-clause-tokens
returns-clause-tokens c =
    rw (
      c.in_ok-put_period.ensures.tokens,
      c.in_ok-key-2.ensures.ok,
      append_assoc,
      c.in_ok-put_anchor.ensures.tokens,
      append_assoc,
      c.in_ok-key.ensures.ok,
      append_assoc,
    )
