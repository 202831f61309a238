use Rattle.std.proofs.Common.{Some, sym, ap, ◌∙◌}
use Rattle.serde_json.specs.Find.{as_array}
use Rattle.akn_json.specs.Reading.Values.{seen}
use Rattle.akn_json.proofs.Values.{seen-Array}
use Rattle.akn_json.proofs.reading.values.as_array.Goals as goal

pub returns-in-Array : goal.returns-in-Array
returns-in-Array c = sym (ap (λ v. as_array (seen v)) c.in-Array.is ∙ ap as_array (seen-Array c.in-Array.items))
