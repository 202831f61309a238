use Rattle.std.proofs.Common.{◌∙◌, sym}
use Rattle.law_refs.proofs.Covered.{name_stays}
use Rattle.law_refs.proofs.works.Works.note.Goals as goal

pub returns-then-has : goal.returns-then-has
returns-then-has c = name_stays c.args.work.now.text.now c.args.self.now (sym c.has.ensures ∙ c.if-has.true)
