use Rattle.std.proofs.Common.{ap, subst, List}
use Rattle.std.specs.Option.{IfSome}
use Rattle.law_register.specs.declared.register.entry.Entry.{Entry}
use Rattle.law_register.specs.Answer.Previews.{known_previewed}
use Rattle.law_register.specs.Answer.Soundness.{IsSound}
use Rattle.law_register.specs.Register.Registers.{Contents}
use Rattle.law_register.proofs.Previews.{preview_sound}
use Rattle.law_register.proofs.preview_laws.previews_are_sound.Goals as goal

pub returns : goal.returns
returns c =
    let d = c.args._drafter.now in
    let w = c.args._work.now in
    let P : List Entry → Type 0 = λ es. IfSome (known_previewed es d w) IsSound in
    subst P (ap (λ (s : Contents). s.entries) c.register.view_is) (preview_sound c.register.inside.entries.items d w c.register.invariant.legal)
