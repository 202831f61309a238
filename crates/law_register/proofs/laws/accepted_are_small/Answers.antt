use Rattle.law_register.proofs.Legal.{accepted_new, kept_rules, some_size}
use Rattle.law_register.proofs.Limits.{small_entry}
use Rattle.law_register.proofs.laws.accepted_are_small.Goals as goal

pub returns : goal.returns
returns c =
    let es = c.args._register.now.entries in
    let e = c.args._entry.now in
    let new = accepted_new es e.drafter e.request e.command e.law c.requires in
    record {
      some = some_size e.drafter e.command;
      most = small_entry es e.drafter e.command (kept_rules es e.drafter e.command new.kept).register;
    }
