-- What is read so far, with what the rest gives behind it, is what all give.
use Rattle.std.proofs.Common.{◌≡◌, drop}
use Rattle.akn_json.specs.Reading.Values.{items_seen}
use Rattle.akn_json.specs.Reading.Fields.{each}
use Rattle.akn_json.specs.Reading.Modifications.Renumberings.{pair_in}
use Rattle.akn_json.proofs.Forms.{with_front}
use Rattle.akn_json.proofs.reading.modifications.renumberings.each_pair.Given as goal

abbrev pub invariant-loop-value : goal.invariant-loop-value
invariant-loop-value l =
    with_front l.pairs (each pair_in (items_seen (drop l.value-index l.values))) ≡ each pair_in (items_seen l.values)
