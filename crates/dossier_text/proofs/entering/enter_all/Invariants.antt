-- What comes of the commands that are left, behind the entries so far, is what comes of all; each has its number, and is well spelled.
use Rattle.std.proofs.Common.{◌≡◌, ◌+◌, length, true}
use Rattle.std.specs.List.{list_all}
use Rattle.std.specs.Vec.Iter.{into_iter_items}
use Rattle.law_register.specs.Law.Spelling.{is_well_spelled}
use Rattle.dossier_text.specs.Entering as spec
use Rattle.dossier_text.proofs.entering.enter_all.Given as goal

abbrev pub invariant-loop-command : goal.invariant-loop-command
invariant-loop-command l = record {
  counted : l.request + length (into_iter_items l.command-iterator) ≡ 1 + length l.fn.commands.items;
  spelled : list_all is_well_spelled (into_iter_items l.command-iterator) ≡ true;
  entered : spec.all_entered l.register.entries l.request (into_iter_items l.command-iterator) ≡ spec.all_entered l.initial.register.entries 1 l.fn.commands.items;
}
