use Rattle.std.proofs.Common.{◌≤◌, sym, subst, arith}
use Rattle.serde_json.specs.Data.{depth, items_depth}
use Rattle.akn_json.specs.Reading.Values.{seen, items_seen}
use Rattle.akn_json.proofs.Values.{item_depth}
use Rattle.akn_json.proofs.reading.modifications.each_modification.Goals as goal

pub modification_at-requires : goal.modification_at-requires
modification_at-requires c =
    let xs = c.args.values.now in
    let below = subst (λ y. depth (seen y) ≤ items_depth (items_seen xs)) (sym c.index-values-index.is) (item_depth xs c.loop-index.index _ (omega arith)) in
    omega (arith, below, c.requires.depth)
