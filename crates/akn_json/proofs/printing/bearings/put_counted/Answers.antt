use Rattle.std.proofs.Common.{append_assoc}
use Rattle.akn_json.proofs.printing.bearings.put_counted.Goals as goal

pub returns-clause-tokens : goal.returns-clause-tokens
returns-clause-tokens c =
    rw (
      c.in_ok-put_kind.ensures.tokens,
      c.in_ok-put_day.ensures.tokens,
      append_assoc,
      c.in_ok-put_destination.ensures.tokens,
      append_assoc,
      c.in_ok-key.ensures.ok,
      append_assoc,
    )
