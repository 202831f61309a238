use Rattle.std.proofs.Common.{subst}
use Rattle.entry_codec.specs.Typed.{IsText, IsWorkText}
use Rattle.entry_codec.proofs.TypedParts.{on_ok, work_typed}
use Rattle.entry_codec.proofs.writing.texts.put_work.Goals as goal

pub returns-clause-typed : goal.returns-clause-typed
returns-clause-typed c =
    let w = c.args.work.now in
    on_ok c.put_text.result (IsText c.as_str.result.now) (IsWorkText w)
    (λ text. work_typed w c.date.result c.date.ensures c.works_are_short.ensures (subst IsText c.as_str.ensures text))
    c.put_text.ensures.typed
