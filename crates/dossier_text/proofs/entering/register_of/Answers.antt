use Rattle.std.proofs.Common.{◌≡◌, sym, subst, true, List}
use Rattle.std.specs.List.{list_all}
use Rattle.law_register.specs.Law.Spelling.{is_well_spelled}
use Rattle.law_register.specs.declared.law.command.Command.{Command}
use Rattle.dossier_text.proofs.WellSpelled.{commands_are}
use Rattle.dossier_text.proofs.entering.register_of.Goals as goal

pub enter_all-requires-clause-spelled : goal.enter_all-requires-clause-spelled
enter_all-requires-clause-spelled c =
    let P : List Command → Type 0 = λ commands. list_all is_well_spelled commands ≡ true in
    subst P (sym c.in_ok-commands.ensures) (commands_are c.args.dossier c.requires.act c.requires.mods)
