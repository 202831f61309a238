use Rattle.std.proofs.Common.{append_assoc}
use Rattle.lawdesk.proofs.following.put_refusal.Goals as goal

pub returns-clause-tokens : goal.returns-clause-tokens
returns-clause-tokens c =
    rw (
      c.in_ok-end_object.ensures.ok,
      c.in_ok-u64.ensures.ok,
      append_assoc,
      c.in_ok-key.ensures.ok,
      append_assoc,
      c.in_ok-put_kind.ensures.tokens,
      append_assoc,
      c.in_ok-begin_object.ensures.ok,
      append_assoc,
      c.frame_number.ensures,
      c.refusal_name-name.ensures,
      c.refusal_number-rule.ensures,
    )
