-- The commands so far, with the records of the others, are those of all.
use Rattle.std.proofs.Common.{◌≡◌, ◌++◌, map}
use Rattle.std.specs.Vec.Iter.{into_iter_items}
use Rattle.dossier_text.specs.Entering as spec
use Rattle.dossier_text.proofs.entering.add_records.Given as goal

abbrev pub invariant-loop-body : goal.invariant-loop-body
invariant-loop-body l =
    l.commands.items ++ map (spec.record_of l.work) (into_iter_items l.body-iterator)
    ≡ l.initial.commands.items ++ map (spec.record_of l.work) l.fn.mods
