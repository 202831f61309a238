use Rattle.table_trial.proofs.Following.{held_then}
use Rattle.table_trial.proofs.entering.told_of_entry.Goals as goal

-- src/entering.rt:139:24
pub told_of_touched-requires : goal.told_of_touched-requires
told_of_touched-requires g c = held_then c.args.register.now.entries c.args.entry c.append_touching.new.register.entries c.in-Ok.touched c.args.kept.now
    c.in-Ok.ensures.entries c.in-Ok.ensures.touched c.requires.accepted c.requires.holds
