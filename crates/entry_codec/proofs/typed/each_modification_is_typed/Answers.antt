use Rattle.entry_codec.specs.Typed.{IsModification}
use Rattle.entry_codec.proofs.TypedParts.{more_typed}
use Rattle.entry_codec.proofs.typed.each_modification_is_typed.Goals as goal

pub loop-one-preserved : goal.loop-one-preserved
loop-one-preserved c =
    let l = c.loop-one in
    more_typed IsModification c.args.mods.now l.one-index c.one-item.result c.loop-one-test.true c.one-item.is l.invariant c.modification_is_typed.ensures
