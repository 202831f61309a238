use Rattle.law_follow.proofs.Adding.{added, added_refused, added_spelled, refused_payload}
use Rattle.law_follow.proofs.opening.add_payload.Goals as goal

pub returns-in-Ok-clause-adds : goal.returns-in-Ok-clause-adds
returns-in-Ok-clause-adds c =
    added c.add_entry.result _ _ _ c.in-Ok.entry c.in-Ok.ensures.judged c.add_entry.ensures.adds c.add_entry.ensures.refuses

pub returns-in-Ok-clause-spelled : goal.returns-in-Ok-clause-spelled
returns-in-Ok-clause-spelled c =
    added_spelled c.add_entry.result _ _ c.in-Ok.entry _ c.in-Ok.ensures.spelled c.add_entry.ensures.adds

pub returns-in-Ok-clause-refuses : goal.returns-in-Ok-clause-refuses
returns-in-Ok-clause-refuses c = added_refused c.add_entry.result c.add_entry.ensures.refuses

pub returns-in-Err-clause-adds : goal.returns-in-Err-clause-adds
returns-in-Err-clause-adds c =
    refused_payload c.args.register.now.entries c.in-Err.unfit c.damage_of.result _ c.in-Err.ensures.judged c.damage_of.ensures.told
