-- Where there was not enough memory to take the words, they are a form, and nothing was asked of any device.
use Rattle.std.proofs.Common.{map, string_bytes}
use Rattle.lawdesk.specs.Jobs.{job_of}
use Rattle.lawdesk.proofs.Runs.{ran_wanting}
use Rattle.lawdesk.proofs.run.run_alone.Goals as goal

pub returns-in-Err-clause-ran : goal.returns-in-Err-clause-ran
returns-in-Err-clause-ran g c =
    ran_wanting g.S.Source.left g.S.Source.room g.S.Source.faults g.W.Sink.written g.W.Sink.faults g.K.Keeper.holding g.K.Keeper.faults
    g.C.Clock.days c.args.source.now c.args.sink.now c.args.keeper.now (g.met.K.Keeper.is_holding c.args.keeper.now) c.args.clock.now
    c.args.steps.now (job_of (map string_bytes c.args.words.now)) c.in-Err.ensures.asked c.requires.alone
