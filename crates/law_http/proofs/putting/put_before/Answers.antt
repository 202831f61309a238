use Rattle.std.proofs.Common.{◌∙◌, ap}
use Rattle.law_http.specs.ServedMembers.{end_after}
use Rattle.law_http.proofs.Said.{put_by}
use Rattle.law_http.proofs.putting.put_before.Goals as goal

pub returns-clause-puts : goal.returns-clause-puts
returns-clause-puts g c =
    put_by _ _ _ _ _ _ _ c.put_response-put.result c.put_response-put.ensures.appended c.put_response-put.ensures.cause
    (c.end_after.ensures ∙ ap (end_after c.put_response-put.result) c.end_behind.ensures)
