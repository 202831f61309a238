use Rattle.std.proofs.Common.{append_assoc}
use Rattle.law_http.proofs.acknowledging.put_body_lines.Goals as goal

pub returns-clause-items : goal.returns-clause-items
returns-clause-items c =
    rw (
      c.put_behind-3.ensures.items,
      c.put_behind-2.ensures.items,
      append_assoc,
      c.put_behind.ensures.items,
      append_assoc,
      c.as_bytes.ensures.value,
      c.format.ensures.text,
    )
