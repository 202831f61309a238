use Rattle.std.proofs.Common.{◌∙◌, Bool, List, [], ◌∷◌, ◌++◌, false, ap}
use Rattle.act_tree.proofs.Pieces.{noted_next}
use Rattle.act_tree.proofs.kept_list.make_next.Goals as goal

pub returns-clause-noted : goal.returns-clause-noted
returns-clause-noted g c =
    noted_next c.args.size c.args.items.now c.args.pieces.now c.push.new.self c.args.written.now.items c.push_reserved.new.self.items c.args.place c.in_ok-made.made c.requires.noted c.requires.next c.requires.within
    c.in_ok-made.ensures c.in_ok-push.ensures.ok (c.push_reserved.ensures.items ∙ ap (λ (bs : List Bool). bs ++ false ∷ []) c.reserve.ensures.items)
