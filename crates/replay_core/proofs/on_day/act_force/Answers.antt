use Rattle.std.proofs.Common.{◌∙◌}
use Rattle.law_register.specs.declared.law.modification.Destination.{Destination}
use Rattle.law_register.specs.declared.law.modification.Destination.TheVariants as to
use Rattle.replay_core.proofs.Turning.{forces-ordered}
use Rattle.replay_core.proofs.on_day.act_force.Goals as goal

pub force_at-requires : goal.force_at-requires
force_at-requires c =
    let act : Destination = to.Node c.in_ok-copy_of.field-0 in
    rw (c.forces.ensures ∙ c.requires act) (forces-ordered act c.args.day c.args.known.now.mods)
