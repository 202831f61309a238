use Rattle.std.proofs.Common.{subst, sym}
use Rattle.law_refs.specs.Missing.{IsDangling}
use Rattle.law_reports.proofs.DanglingTables.{is_of_register}
use Rattle.law_reports.proofs.dangling_rows.dangling_refs.Goals as goal

pub returns-clause-whole : goal.returns-clause-whole
returns-clause-whole c = λ entries day all.
    is_of_register c.table_of.result entries day c.as_slice.result.now (subst (λ found. IsDangling entries day found) (sym c.as_slice.ensures) all)
    c.table_of.ensures
