use Rattle.std.proofs.Common.{append_assoc}
use Rattle.akn_json.proofs.printing.refusals.put_fault.Goals as goal

pub returns-clause-tokens : goal.returns-clause-tokens
returns-clause-tokens c =
    rw (
      c.in_ok-end_object.ensures.ok,
      c.in_ok-put_number-2.ensures.tokens,
      append_assoc,
      c.in_ok-put_text.ensures.tokens,
      append_assoc,
      c.in_ok-put_number.ensures.tokens,
      append_assoc,
      c.in_ok-begin_object.ensures.ok,
      append_assoc,
      c.name.ensures,
      c.from-2.ensures,
      c.from.ensures,
      c.number.ensures,
    )
