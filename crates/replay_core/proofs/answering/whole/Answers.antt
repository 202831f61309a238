use Rattle.std.proofs.Common.{◌∙◌, ap, sym, None}
use Rattle.std.proofs.lemmas.Result.{IfOk-weaker}
use Rattle.act_tree.specs.Branches.{listed, listed-branches_of}
use Rattle.act_tree.specs.Seen.{tree_view}
use Rattle.law_register.specs.Answer.Answers.{all_shown}
use Rattle.replay_core.proofs.answering.whole.Goals as goal

pub returns : goal.returns
returns c =
    let n = (tree_view c.args.tree.now).numbering in
    IfOk-weaker c.show_all.result _ _
    (λ shown e. sym (listed-branches_of shown) ∙ ap listed (e ∙ ap (all_shown c.args.on.now.known.now c.args.on.now.reading c.args.on.now.day n c.args.flag None) c.top.ensures.branches))
    c.show_all.ensures
