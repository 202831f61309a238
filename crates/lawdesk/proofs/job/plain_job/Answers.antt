-- Other words are no job.
use Rattle.lawdesk.proofs.OtherLengths.{no_plain_job}
use Rattle.lawdesk.proofs.job.plain_job.Goals as goal

pub returns : goal.returns
returns g c = no_plain_job g.S.AsStr.text c.args.words.now c.if-words-eq1.false c.if-words-eq2.false c.if-words-eq3.false
