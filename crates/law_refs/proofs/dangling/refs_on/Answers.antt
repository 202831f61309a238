use Rattle.std.proofs.Common.{◌∙◌, sym}
use Rattle.law_refs.proofs.Latest.{found_here, not_here}
use Rattle.law_refs.proofs.dangling.refs_on.Goals as goal

pub returns-then-has_begun : goal.returns-then-has_begun
returns-then-has_begun c =
    c.as_slice.ensures
    ∙ found_here c.args.day c.args.all.now c.loop-index.index c.index-all-index.result c.loop-index-test.true c.loop-index.auto.index c.index-all-index.is
    (sym c.has_begun.ensures ∙ c.if-has_begun.true) c.loop-index.invariant

pub loop-index-preserved : goal.loop-index-preserved
loop-index-preserved c =
    not_here c.args.day c.args.all.now c.loop-index.index c.index-all-index.result c.loop-index-test.true c.loop-index.auto.index c.index-all-index.is
    (sym c.has_begun.ensures ∙ c.if-has_begun.false) c.loop-index.invariant
