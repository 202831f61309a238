use Rattle.std.proofs.Common.{◌∙◌, ap, ◌++◌, List, option_map}
use Rattle.law_office.specs.declared.line.DatedWork.{DatedWork}
use Rattle.law_office.specs.Asked.{dated_if}
use Rattle.law_office.specs.Tables.{kept_in}
use Rattle.law_office.proofs.Naming.{are_asked}
use Rattle.law_office.proofs.asked.names_asked.Goals as goal

pub returns : goal.returns
returns c =
    are_asked (kept_in c.args.tables.now) (option_map (λ known. known.now) c.args.concerned) c.args.naming.now.keys c.add_concerned.new.names.items
    c.sort.new.self.items c.names_are_apart.ensures c.requires.named
    (c.in_ok-add_concerned.ensures ∙ ap (λ (ns : List DatedWork). ns ++ dated_if (option_map (λ known. known.now) c.args.concerned)) c.in_ok-names.ensures)
    c.sort.ensures.permutation c.in_ok-sort.ensures.sorted
