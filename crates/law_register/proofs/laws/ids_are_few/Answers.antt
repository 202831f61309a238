use Rattle.std.proofs.Common.{◌≤◌, ap, subst, List, length}
use Rattle.law_register.specs.declared.register.entry.Entry.{Entry}
use Rattle.law_register.specs.Register.KnownIds.{ids_of}
use Rattle.law_register.specs.Register.LawList.{laws}
use Rattle.law_register.specs.Register.Registers.{Contents}
use Rattle.law_register.proofs.Limits.{legal_ids}
use Rattle.law_register.proofs.laws.ids_are_few.Goals as goal

pub returns : goal.returns
returns c =
    let P : List Entry → Type 0 = λ es. length (ids_of c.args._work.now (laws es)) ≤ 512 in
    subst P (ap (λ (s : Contents). s.entries) c.register.view_is) (legal_ids c.args._work.now c.register.inside.entries.items c.register.invariant.legal)
