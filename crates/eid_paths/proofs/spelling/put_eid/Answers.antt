use Rattle.eid_paths.proofs.EidLaws.{all_spelled, carried}
use Rattle.eid_paths.proofs.Spellings.{begun, begun_nums}
use Rattle.eid_paths.proofs.spelling.put_eid.Goals as goal

pub loop-level-init : goal.loop-level-init
loop-level-init c = (
  rw (c.in_ok-push_level.ensures.text, c.new-eid.ensures.bytes) (begun c.args.levels.now c.index-levels-0.result c.requires c.index-levels-0.is),
  begun_nums c.args.levels.now c.index-levels-0.result c.requires c.index-levels-0.is c.push_level.ensures.num,
)

pub returns-clause-levels : goal.returns-clause-levels
returns-clause-levels c =
    carried c.from_string.result _ c.args.levels.now c.from_string.ensures
    (all_spelled _ _ c.args.levels.now c.loop-level.level-index c.loop-level-test.false c.requires c.loop-level.invariant.0 c.loop-level.invariant.1)
