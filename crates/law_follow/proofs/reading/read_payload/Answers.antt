use Rattle.std.proofs.lemmas.Result.{err_from_is_err_and}
use Rattle.std.proofs.Common.{rules}
use Rattle.law_follow.proofs.Fronts.{payload_cut, payload_failed}
use Rattle.law_follow.proofs.reading.read_payload.Goals as goal

pub returns-in_err-payload-clause-read : goal.returns-in_err-payload-clause-read
returns-in_err-payload-clause-read g c =
    let p = err_from_is_err_and c.from_residual.result c.from_residual.ensures.1 in
    rw (p.1, p.2)
    (payload_failed _ _ (g.S.Source.left c.args.source.now) (g.S.Source.left c.read_bytes.new.source) c.in_err-payload.field-0.0 c.in_err-payload.ensures.device c.in_err-payload.ensures.fewer)

pub returns-then-len-head-clause-read : goal.returns-then-len-head-clause-read
returns-then-len-head-clause-read g c =
    payload_cut c.args.head.number c.args.head.size (g.S.Source.left c.args.source.now) (g.S.Source.left c.read_bytes.new.source)
    c.in_ok-payload.payload.items c.in_ok-payload.ensures.taken (search rules)
