use Rattle.std.proofs.Common.{◌≡◌}
use Rattle.indexmap.specs.IndexMap.{insert_entry}
use Rattle.law_register.specs.declared.register.indexes.RequestKey.{RequestKey}
use Rattle.law_register.proofs.Puts.{on_ok, request_eq, request_put}
use Rattle.law_register.proofs.register.marks.put_request.Goals as goal

pub returns-clause-marks : goal.returns-clause-marks
returns-clause-marks c = λ d r.
    let key : RequestKey = record { drafter = c.args.drafter; request = c.args.request } in
    let es = c.args.requests.now.entries in
    request_put c.insert.new.self.entries es key c.args.mark d r
    (on_ok c.insert.result (c.insert.new.self.entries ≡ insert_entry request_eq es key c.args.mark) (c.insert.ensures.succeeds c.requires) c.insert.ensures.entries)
