use Rattle.std.proofs.Common.{sym, subst, List, take}
use Rattle.std.proofs.lemmas.Result.{IfOk-weaker}
use Rattle.law_register.specs.declared.law.command.Command.{Command}
use Rattle.law_register.specs.Answer.Soundness.{IsSound}
use Rattle.law_register.specs.Provisions.Line.{line}
use Rattle.law_register.specs.Register.LawList.{laws}
use Rattle.held_provisions.proofs.knowing.FromLineCarrier.carry.Goals as goal

pub returns-clause-sound : goal.returns-clause-sound
returns-clause-sound g c sound =
    let law : List Command = take c.args.viewpoint (laws c.args.register.now.entries) in
    IfOk-weaker c.carried_at.result _ _
    (λ carried e. subst IsSound (sym e)
    (c.what_is_carried_is_sound.ensures (line law) c.args.known (c.laws_have_lines.ensures law) (subst IsSound (sym c.requires) sound)))
    c.carried_at.ensures.known
