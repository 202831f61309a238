use Rattle.std.proofs.Common.{◌∙◌, ap, option_map}
use Rattle.held_provisions.proofs.FoundWorks.{known_found, map_twice}
use Rattle.held_provisions.proofs.looking.work_in.Goals as goal

pub returns-clause-known : goal.returns-clause-known
returns-clause-known g c =
    map_twice _ g.T.InLine.known_of c.find_work.result
    ∙ ap (option_map g.T.InLine.known_of) c.find_work.ensures
    ∙ known_found g.T.InLine.known_of c.args.work.now c.args.works.now
