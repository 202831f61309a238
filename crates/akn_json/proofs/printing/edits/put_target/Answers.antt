use Rattle.std.proofs.Common.{append_assoc}
use Rattle.akn_json.proofs.printing.edits.put_target.Goals as goal

pub returns-clause-tokens : goal.returns-clause-tokens
returns-clause-tokens c =
    rw (
      c.in_ok-put_period.ensures.tokens,
      c.in_ok-key-2.ensures.ok,
      append_assoc,
      c.in_ok-put_provision.ensures.tokens,
      append_assoc,
      c.in_ok-key.ensures.ok,
      append_assoc,
    )
