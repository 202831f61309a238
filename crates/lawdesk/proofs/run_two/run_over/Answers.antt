-- What is promised of a run is one fact.
use Rattle.lawdesk.proofs.run_two.run_over.Goals as goal

pub returns : goal.returns
returns g c = record {
  status_is = c.run.ensures.status;
  wrong_words = c.run.ensures.words;
  ran = c.run.ensures.ran;
  same_gates = c.run.ensures.gates_alone;
  served = c.run.ensures.served;
  same_source = c.run.ensures.source_alone;
}
