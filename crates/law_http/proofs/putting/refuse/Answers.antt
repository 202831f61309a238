use Rattle.law_http.proofs.putting.refuse.Goals as goal

pub returns-clause-refuses : goal.returns-clause-refuses
returns-clause-refuses g c = (c.refused_message-response.result, c.refused_message-response.ensures, c.put_before.ensures.puts)
