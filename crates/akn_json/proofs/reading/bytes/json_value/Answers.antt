-- A text is read as such, and bytes that are none are refused.
use Rattle.std.proofs.Common.{◌≤◌, IfOk, length, subst}
use Rattle.akn_json.specs.Reading.Reads.{Gives}
use Rattle.akn_json.specs.Reading.Values.{seen}
use Rattle.akn_json.specs.Reading.Widths.{width}
use Rattle.akn_json.proofs.Forms.{json_of-text, json_of-refused}
use Rattle.akn_json.proofs.reading.bytes.json_value.Goals as goal

pub returns-in-Ok-clause-value : goal.returns-in-Ok-clause-value
returns-in-Ok-clause-value c = subst (Gives seen c.read.result) (json_of-text _ _ c.in-Ok.ensures.cases.0 c.in-Ok.ensures.cases.1) c.read.ensures.value

pub returns-in-Ok-clause-lists : goal.returns-in-Ok-clause-lists
returns-in-Ok-clause-lists c = subst (λ t. IfOk c.read.result (λ v. width (seen v) ≤ length t)) c.in-Ok.ensures.cases.0 c.read.ensures.lists

pub returns-in-Err-clause-value : goal.returns-in-Err-clause-value
returns-in-Err-clause-value c = json_of-refused _ c.in-Err.ensures.cases.0
