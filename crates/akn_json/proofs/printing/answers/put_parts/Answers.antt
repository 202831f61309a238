use Rattle.std.proofs.Common.{append_assoc}
use Rattle.akn_json.specs.Printing.Answers.{answer_data}
use Rattle.akn_json.proofs.printing.answers.put_parts.Goals as goal

pub returns-clause-tokens : goal.returns-clause-tokens
unfolding answer_data
returns-clause-tokens c =
    rw (
      c.in_ok-end_object.ensures.ok,
      c.in_ok-put_number.ensures.tokens,
      append_assoc,
      c.in_ok-put_unapplied.ensures.tokens,
      append_assoc,
      c.in_ok-key-3.ensures.ok,
      append_assoc,
      c.in_ok-put_text-2.ensures.tokens,
      append_assoc,
      c.in_ok-put_text.ensures.tokens,
      append_assoc,
      c.in_ok-put_nodes.ensures.tokens,
      append_assoc,
      c.in_ok-key-2.ensures.ok,
      append_assoc,
      c.in_ok-put_flag.ensures.tokens,
      append_assoc,
      c.in_ok-put_ids.ensures.tokens,
      append_assoc,
      c.in_ok-key.ensures.ok,
      append_assoc,
      c.in_ok-begin_object.ensures.ok,
      append_assoc,
      c.from.ensures,
      c.as_slice-2.ensures,
      c.name.ensures,
      c.as_str.ensures.value,
      c.in_ok-iri.ensures,
      c.as_slice.ensures,
    )
