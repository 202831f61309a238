use Rattle.akn_json.specs.Printing.Typed.{IsTypedPair}
use Rattle.akn_json.proofs.TypedParts.{more_typed}
use Rattle.akn_json.proofs.printing.typed.each_pair_is_typed.Goals as goal

pub loop-one-preserved : goal.loop-one-preserved
loop-one-preserved c =
    let l = c.loop-one in
    more_typed IsTypedPair c.args.pairs.now l.one-index c.one-item.result c.loop-one-test.true c.one-item.is l.invariant c.pair_is_typed.ensures
