use Rattle.std.proofs.Common.{append_assoc}
use Rattle.akn_json.specs.Printing.Drafts.{modification_data}
use Rattle.akn_json.proofs.printing.drafts.put_efficacy_mod.Goals as goal

pub returns-clause-tokens : goal.returns-clause-tokens
unfolding modification_data
returns-clause-tokens c =
    rw (
      c.in_ok-end_object.ensures.ok,
      c.in_ok-put_efficacy.ensures.tokens,
      append_assoc,
      c.in_ok-key.ensures.ok,
      append_assoc,
      c.in_ok-begin_object.ensures.ok,
      append_assoc,
    )
