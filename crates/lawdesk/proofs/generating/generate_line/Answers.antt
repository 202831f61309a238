-- The line of the register that is generated is told.
use Rattle.lawdesk.specs.Generating.{told_generated}
use Rattle.lawdesk.proofs.Tellings.{one_of_three}
use Rattle.lawdesk.proofs.generating.generate_line.Goals as goal

pub returns : goal.returns
returns g c =
    let told = c.tell.ensures.told (told_generated c.args.job) c.report_generated.ensures in
    record {
      status_is = one_of_three g.W.Sink.written g.W.Sink.faults c.args.sink.now c.tell.new.sink c.tell.result
          (told_generated c.args.job) told;
      told = told;
    }
