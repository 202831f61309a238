use Rattle.akn_json.specs.Printing.Typed.{IsTypedItem}
use Rattle.akn_json.proofs.TypedParts.{more_typed}
use Rattle.akn_json.proofs.printing.typed.items_are_typed.Goals as goal

pub loop-one-preserved : goal.loop-one-preserved
loop-one-preserved c =
    let l = c.loop-one in
    more_typed IsTypedItem c.args.items.now l.one-index c.one-item.result c.loop-one-test.true c.one-item.is l.invariant c.item_is_typed.ensures
