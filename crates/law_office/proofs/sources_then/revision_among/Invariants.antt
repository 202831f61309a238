-- None of those passed has the name, so what is left decides.
use Rattle.std.proofs.Common.{◌≡◌, drop, map}
use Rattle.law_office.specs.Movements.{revision_among}
use Rattle.law_office.specs.Tables.{revised_view}
use Rattle.law_office.proofs.sources_then.revision_among.Given as goal

abbrev pub invariant-loop-one : goal.invariant-loop-one
invariant-loop-one l = revision_among (map revised_view (drop l.one-index l.revised)) l.work ≡ revision_among (map revised_view l.revised) l.work
