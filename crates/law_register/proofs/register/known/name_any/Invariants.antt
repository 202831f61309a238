-- None of those passed names a provision, so the rest decides.
use Rattle.std.proofs.Common.{◌≡◌, drop}
use Rattle.std.specs.List.{list_any}
use Rattle.law_register.specs.Law.Sources.{names_provision}
use Rattle.law_register.proofs.register.known.name_any.Given as goal

abbrev pub invariant-loop-known : goal.invariant-loop-known
invariant-loop-known l =
    list_any (λ m. names_provision m.body) (drop l.known-index l.mods) ≡ list_any (λ m. names_provision m.body) l.mods
