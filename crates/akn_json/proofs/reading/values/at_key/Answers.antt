use Rattle.std.proofs.Common.{ap, ◌∙◌}
use Rattle.json.specs.Find.{get}
use Rattle.json.specs.Value.{value_view}
use Rattle.akn_json.specs.Reading.Keys.{key_name}
use Rattle.akn_json.proofs.Values.{found_seen}
use Rattle.akn_json.proofs.reading.values.at_key.Goals as goal

pub returns : goal.returns
returns c = found_seen (key_name c.args.key) c.args.value.now c.get.result (c.get.ensures ∙ ap (λ k. get k (value_view c.args.value.now)) c.name.ensures)
