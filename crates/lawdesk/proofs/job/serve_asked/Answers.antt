-- Of other words nothing is served.
use Rattle.std.proofs.Common.{string_bytes}
use Rattle.lawdesk.proofs.Served.{nothing_served}
use Rattle.lawdesk.proofs.job.serve_asked.Goals as goal

pub returns : goal.returns
returns c = nothing_served string_bytes c.args.words.now c.if-words-eq3.false
