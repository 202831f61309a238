-- Where words are no form, the first that is wrong is named.
use Rattle.lawdesk.proofs.WordForms.{named}
use Rattle.lawdesk.proofs.WordFronts.{fronts, wrongs}
use Rattle.lawdesk.proofs.laws.wrong_words_are_named.Goals as goal

pub returns-clause-named : goal.returns-clause-named
returns-clause-named c = named

pub returns-clause-front : goal.returns-clause-front
returns-clause-front c = fronts

pub returns-clause-wrong : goal.returns-clause-wrong
returns-clause-wrong c = wrongs
