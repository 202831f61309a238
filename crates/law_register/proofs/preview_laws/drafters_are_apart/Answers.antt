use Rattle.law_register.proofs.Apart.{same_answer, same_draft, same_preview}
use Rattle.law_register.proofs.preview_laws.drafters_are_apart.Goals as goal

pub returns-clause-draft : goal.returns-clause-draft
returns-clause-draft c = same_draft c.args._drafter.now c.args._one.now.entries c.args._other.now.entries c.requires.own

pub returns-clause-preview : goal.returns-clause-preview
returns-clause-preview c q = same_preview c.args._drafter.now c.args._one.now.entries c.args._other.now.entries q c.requires.law c.requires.own

pub returns-clause-text : goal.returns-clause-text
returns-clause-text c q = same_answer c.args._one.now.entries c.args._other.now.entries q c.requires.law
