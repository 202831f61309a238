use Rattle.std.proofs.Common.{◌≡◌, subst, sym, Option, IfSome}
use Rattle.std.specs.Option.{option_copied}
use Rattle.law_refs.specs.Right.{anew_work}
use Rattle.law_refs.specs.declared.ref_row.WorkRefs.{WorkRefs}
use Rattle.law_refs.proofs.Sharing.{found_right, put_right}
use Rattle.law_refs.proofs.revising.put.Goals as goal

pub with_row-requires : goal.with_row-requires
with_row-requires g c =
    let answers = g.T.Targets.broken_rule c.args.targets.now in
    subst (λ (found : Option WorkRefs). IfSome found (λ (kept : WorkRefs). anew_work answers kept ≡ kept)) (sym c.get.ensures.value)
    (found_right answers c.args.works.now.entries c.args.row.now.work c.requires)

pub returns-clause-right : goal.returns-clause-right
returns-clause-right g c =
    put_right (g.T.Targets.broken_rule c.args.targets.now) c.args.works.now.entries c.insert.new.self.entries c.args.row.now c.in_ok-copy.field-0
    c.in_ok-now.now (option_copied c.get.result) c.in_ok-insert.ensures.entries c.in_ok-copy.ensures c.in_ok-now.ensures.kept c.get.ensures.value
    c.requires
