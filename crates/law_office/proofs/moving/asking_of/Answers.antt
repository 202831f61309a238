use Rattle.std.proofs.Common.{sym, subst, List, Some}
use Rattle.law_office.specs.declared.line.DatedWork.{DatedWork}
use Rattle.law_office.specs.Asked.{AreAsked}
use Rattle.law_office.specs.Tables.{kept_in}
use Rattle.law_office.proofs.moving.asking_of.Goals as goal

pub touched_of-requires-clause-names : goal.touched_of-requires-clause-names
touched_of-requires-clause-names c =
    subst (λ (ns : List DatedWork). AreAsked (kept_in c.args.tables.now) (Some c.args.concerned.now) ns) (sym c.as_slice.ensures.value) c.in_ok-names.ensures
