use Rattle.std.proofs.Common.{sym, subst, List}
use Rattle.law_register.specs.declared.register.known.KnownMod.{KnownMod}
use Rattle.replay_core.specs.Touching.{AreOfNamed}
use Rattle.replay_core.proofs.NamedMods.{named_mods}
use Rattle.replay_core.proofs.touched.touched_day_of.Goals as goal

pub day_by-requires : goal.day_by-requires
day_by-requires c =
    let es = c.args.register.now.entries in
    let e = c.args.entry.now in
    subst (λ (mods : List KnownMod). AreOfNamed es mods e.command) (sym c.as_slice.ensures)
    (named_mods es e c.args.known.now c.requires.concerned c.requires.known)
