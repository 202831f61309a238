-- The modifications so far, with what is left as it is after the entry, are all as they are after it.
use Rattle.std.proofs.Common.{◌≡◌, ◌++◌, drop, map}
use Rattle.law_register.specs.Register.KnownNext.{mod_after}
use Rattle.law_register.proofs.register.growing.mods_after.Given as goal

abbrev pub invariant-loop-known : goal.invariant-loop-known
invariant-loop-known l = l.copies ++ map (mod_after l.command) (drop l.known-index l.mods) ≡ map (mod_after l.command) l.mods
