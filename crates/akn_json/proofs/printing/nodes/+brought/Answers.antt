use Rattle.std.proofs.Common.{append_assoc}
use Rattle.akn_json.proofs.printing.nodes.+brought.Goals as goal

pub put_node-returns-clause-tokens : goal.put_node-returns-clause-tokens
put_node-returns-clause-tokens t c =
    rw (
      c.in_ok-end_object.ensures.ok,
      c.in_ok-put_texts.ensures.tokens,
      append_assoc,
      c.in_ok-key-2.ensures.ok,
      append_assoc,
      c.in_ok-put_text-4.ensures.tokens,
      append_assoc,
      c.in_ok-put_text-3.ensures.tokens,
      append_assoc,
      c.in_ok-put_text-2.ensures.tokens,
      append_assoc,
      c.in_ok-put_text.ensures.tokens,
      append_assoc,
      c.in_ok-put_nodes.ensures.tokens,
      append_assoc,
      c.in_ok-key.ensures.ok,
      append_assoc,
      c.in_ok-begin_object.ensures.ok,
      append_assoc,
      c.as_str.ensures,
      c.name.ensures,
      c.as_str-2.ensures,
      c.as_str-3.ensures,
      c.as_slice.ensures,
    )
