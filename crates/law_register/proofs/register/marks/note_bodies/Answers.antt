use Rattle.std.proofs.Common.{◌∙◌, ap, length, drop}
use Rattle.law_register.proofs.Noting.{noted_behind}
use Rattle.law_register.proofs.register.marks.note_bodies.Goals as goal

pub returns-clause-behind : goal.returns-clause-behind
returns-clause-behind c = noted_behind c.args.first _ c.args.all.now.items _ c.requires.first c.put_bodies.ensures.items

pub returns-clause-count : goal.returns-clause-count
returns-clause-count c =
    c.count_from.ensures.value ∙ ap (λ xs. length (drop c.args.first xs)) c.deref.ensures.value ∙ ap length (returns-clause-behind c)
