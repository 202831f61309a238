-- What is read so far, with what the rest gives behind it, is what all give.
use Rattle.std.proofs.Common.{◌≡◌, ◌+◌, drop}
use Rattle.akn_json.specs.Reading.Values.{items_seen}
use Rattle.akn_json.specs.Reading.Modifications.{each_from}
use Rattle.akn_json.proofs.Forms.{with_front}
use Rattle.akn_json.proofs.reading.modifications.each_modification.Given as goal

abbrev pub invariant-loop-index : goal.invariant-loop-index
invariant-loop-index l =
    with_front l.mods (each_from (l.index + 1) (items_seen (drop l.index l.values))) ≡ each_from 1 (items_seen l.values)
