use Rattle.std.proofs.Common.{◌≡◌, ◌≤◌, sym, subst, List, length}
use Rattle.law_register.specs.declared.law.modification.Modification.{Modification}
use Rattle.law_register.proofs.Grown.{few_recorded, if_ok}
use Rattle.law_register.proofs.register.growing.bodies_in.Goals as goal

pub returns-in-Record-clause-few : goal.returns-in-Record-clause-few
returns-in-Record-clause-few c =
    let few = few_recorded c.args.register.now.entries c.args.entry.now c.in-Record.other c.in-Record.mods c.requires c.in-Record.is in
    if_ok c.copy.result (λ (bodies : List Modification). bodies ≡ c.in-Record.mods) (λ (bodies : List Modification). length bodies ≤ 64)
    (λ bodies same. subst (λ (ms : List Modification). length ms ≤ 64) (sym same) few) c.copy.ensures
