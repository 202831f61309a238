use Rattle.std.proofs.Common.{subst}
use Rattle.akn_json.specs.Printing.Typed.{IsTypedText}
use Rattle.akn_json.proofs.TypedParts.{work_typed}
use Rattle.akn_json.proofs.printing.typed.work_is_typed.Goals as goal

pub returns : goal.returns
returns c = work_typed c.args.work.now c.date.result c.date.ensures (subst IsTypedText c.as_str.ensures c.text_is_typed.ensures)
