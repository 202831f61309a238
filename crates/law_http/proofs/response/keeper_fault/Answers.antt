use Rattle.std.proofs.Common.{sym, ap}
use Rattle.std.specs.Fmt.{digits}
use Rattle.law_http.specs.Responses as spec
use Rattle.law_http.proofs.response.keeper_fault.Goals as goal

pub returns-then-closes : goal.returns-then-closes
unfolding digits
returns-then-closes c = sym (ap (λ closes. spec.reply_bytes (spec.keeper_fault closes)) c.if-closes.true)

pub returns-else-closes : goal.returns-else-closes
unfolding digits
returns-else-closes c = sym (ap (λ closes. spec.reply_bytes (spec.keeper_fault closes)) c.if-closes.false)
