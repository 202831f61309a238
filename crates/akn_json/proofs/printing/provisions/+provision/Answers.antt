use Rattle.std.proofs.Common.{append_assoc}
use Rattle.akn_json.proofs.printing.provisions.+provision.Goals as goal

pub put_node-returns-clause-tokens : goal.put_node-returns-clause-tokens
put_node-returns-clause-tokens t c =
    rw (
      c.in_ok-put_wid.ensures.tokens,
      c.in_ok-put_texts.ensures.tokens,
      append_assoc,
      c.in_ok-key-2.ensures.ok,
      append_assoc,
      c.in_ok-put_text-5.ensures.tokens,
      append_assoc,
      c.in_ok-put_text-4.ensures.tokens,
      append_assoc,
      c.in_ok-put_text-3.ensures.tokens,
      append_assoc,
      c.in_ok-put_text-2.ensures.tokens,
      append_assoc,
      c.in_ok-put_text.ensures.tokens,
      append_assoc,
      c.in_ok-put_nodes.ensures.tokens,
      append_assoc,
      c.in_ok-key.ensures.ok,
      append_assoc,
      c.in_ok-put_flag.ensures.tokens,
      append_assoc,
      c.in_ok-begin_object.ensures.ok,
      append_assoc,
      c.as_str-eid.ensures,
      c.as_str.ensures,
      c.name.ensures,
      c.as_str-2.ensures,
      c.as_str-3.ensures,
      c.as_slice.ensures,
      c.as_str-4.ensures,
    )
