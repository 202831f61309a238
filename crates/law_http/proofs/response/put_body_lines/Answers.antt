use Rattle.std.proofs.Common.{append_assoc}
use Rattle.law_http.proofs.response.put_body_lines.Goals as goal

pub returns : goal.returns
returns c =
    rw (
      c.in_ok-extend_from_slice-3.ensures.items,
      c.in_ok-extend_from_slice-2.ensures.items,
      append_assoc,
      c.in_ok-extend_from_slice.ensures.items,
      append_assoc,
      c.as_bytes.ensures.value,
      c.format.ensures.text,
    )
