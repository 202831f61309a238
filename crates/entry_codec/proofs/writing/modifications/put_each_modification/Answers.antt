use Rattle.entry_codec.specs.Formats.{format_in}
use Rattle.entry_codec.specs.Modifications.{modification}
use Rattle.entry_codec.specs.Typed.{IsModification}
use Rattle.entry_codec.proofs.TypedParts.{more_written, more_typed}
use Rattle.entry_codec.proofs.writing.modifications.put_each_modification.Goals as goal

pub loop-modification-preserved : goal.loop-modification-preserved
loop-modification-preserved c =
    let l = c.loop-modification in
    record {
      bytes = more_written (modification (format_in c.args.format)).spell c.args.mods.now l.modification-index c.modification-item.result _ _ _ c.loop-modification-test.true c.modification-item.is l.invariant.bytes c.in_ok-put_modification.ensures.bytes;
      typed = more_typed IsModification c.args.mods.now l.modification-index c.modification-item.result c.loop-modification-test.true c.modification-item.is l.invariant.typed c.in_ok-put_modification.ensures.typed;
    }
