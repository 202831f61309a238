use Rattle.std.proofs.Common.{ap, subst, sym, List, Option}
use Rattle.law_register.specs.declared.answer.version.Version.{Version}
use Rattle.version_cache.specs.Rows.{kept_view, rows_view}
use Rattle.version_cache.specs.Tables.{RowValue, TableValue, last_version}
use Rattle.version_cache.specs.Working.{IsWorking}
use Rattle.version_cache.proofs.Going.{committed_goes_on}
use Rattle.version_cache.proofs.RowFronts.{committed_ascend, committed_rows}
use Rattle.version_cache.proofs.table.Table.commit.Goals as goal

pub invariant_of-self : goal.invariant_of-self
invariant_of-self c = record {
  ascending =
      committed_ascend c.args.revision.touched c.args.revision.kept c.args.self.now.rows.items c.args.revision.rows.items c.put_behind.new.rows.items c.args.self.now.ascending
      c.args.revision.ascending c.args.revision.late c.requires c.put_behind.ensures;
  goes_on =
      subst (λ (working : Option Version). IsWorking (last_version (kept_view c.args.self.now.enacted) (rows_view c.put_behind.new.rows.items)) working) (sym c.put_working.ensures)
      (committed_goes_on (kept_view c.args.self.now.enacted) c.args.revision.touched c.args.revision.kept c.args.self.now.rows.items c.args.revision.rows.items
      c.put_behind.new.rows.items c.args.revision.working c.args.self.now.ascending c.requires c.put_behind.ensures c.args.revision.goes_on);
}

pub returns : goal.returns
returns c =
    ap
    (λ (rows : List RowValue). let table : TableValue = record { reading = c.args.self.now.reading; enacted = kept_view c.args.self.now.enacted; rows = rows } in table)
    (committed_rows c.args.revision.touched c.args.revision.kept c.args.self.now.rows.items c.args.revision.rows.items c.put_behind.new.rows.items c.args.self.now.ascending c.requires
    c.put_behind.ensures)
