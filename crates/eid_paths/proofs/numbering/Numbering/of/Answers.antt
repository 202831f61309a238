use Rattle.eid_paths.proofs.NumberingLaws.{set_at}
use Rattle.eid_paths.proofs.numbering.Numbering.of.Goals as goal

pub loop-element-preserved : goal.loop-element-preserved
loop-element-preserved c = set_at c.args.elements.now c.loop-element.element-index c.place.result c.loop-element.throughout _ c.loop-element-test.true c.loop-element.invariant c.place.ensures
