use Rattle.std.proofs.Common.{refl, subst, List}
use Rattle.std.specs.Prelude.{IsPermutation}
use Rattle.law_office.specs.declared.line.DatedWork.{DatedWork}
use Rattle.law_office.proofs.line.line_of.Goals as goal

pub returns : goal.returns
returns c =
    let line : List DatedWork = c.sort.new.self.items in
    record {
      dated = line;
      all = subst (λ (works : List DatedWork). IsPermutation works line) c.in_ok-line.ensures c.sort.ensures.permutation;
      order = c.in_ok-sort.ensures.sorted;
      are = refl;
    }
