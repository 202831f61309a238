-- What the command did.
use Rattle.std.proofs.Common.{refl}
use Rattle.law_http.proofs.telling.do_command.Goals as goal

pub returns : goal.returns
returns g c =
    let done = c.command.ensures in record {
      tells = (
        c.command.result,
        refl,
        record {
          outcome = done.outcome.ends;
          marks = done.marks;
          cause = done.cause;
          crash = done.crash;
          sound = done.sound;
          durable = done.durable;
          origin = done.origin;
          keys = done.past;
        },
      );
      within = done.outcome.within;
    }
