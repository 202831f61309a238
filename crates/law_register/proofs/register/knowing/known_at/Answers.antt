use Rattle.std.proofs.Common.{◌∙◌, ap, sym, subst, List, take, Option, option_map}
use Rattle.std.specs.Option.{IfSome}
use Rattle.law_register.specs.declared.law.act.Act.{Act}
use Rattle.law_register.specs.declared.law.command.Command.{Command}
use Rattle.law_register.specs.declared.register.entry.Entry.{Entry}
use Rattle.law_register.specs.declared.register.indexes.EnactedMark.{EnactedMark}
use Rattle.law_register.specs.declared.register.known.Known.{Known}
use Rattle.law_register.specs.Register.Indexes.{told_at, act_of, enacted_in, work_mark, EnactedStands}
use Rattle.law_register.specs.Register.KnownIds.{enacted, known_by}
use Rattle.law_register.specs.Register.LawList.{laws, front}
use Rattle.law_register.specs.Register.Registers.{Contents}
use Rattle.law_register.specs.Answer.Soundness.{IsSound}
use Rattle.law_register.proofs.Lookups.{enacted_told, enacted_none}
use Rattle.law_register.proofs.Past.{past_of, act_known}
use Rattle.law_register.proofs.Sound.{known_is_sound}
use Rattle.law_register.proofs.register.knowing.known_at.Goals as goal

pub returns-in_ok-known_of_act-in-Some-clause-known : goal.returns-in_ok-known_of_act-in-Some-clause-known
returns-in_ok-known_of_act-in-Some-clause-known c =
    let E = c.args.register.now.entries in
    let I = c.register.inside.entries.items in
    let w = c.args.work.now in
    let v = c.args.viewpoint in
    let m = c.in-Some.mark in
    let fr = c.front-front.result in
    let found = enacted w (take v (laws I)) in
    let S : Option EnactedMark → Type 0 = λ k. EnactedStands I k found in
    let act = act_known I w v (laws I) (enacted_in (work_mark c.register.inside.indexes w)) (c.register.invariant.stands.works w).act in
    let stands = subst S (sym c.in-Some.ensures) act in
    c.in_ok-known_of_act-in-Some.ensures
    ∙ ap (λ es. known_by w v fr (take v (laws es)) (option_map (λ (a : Act). (m.number, a)) (told_at es m.entry act_of))) c.deref.ensures.value
    ∙ ap (known_by w v fr (take v (laws I))) (enacted_told I m found stands)
    ∙ ap (λ es. known_by w v fr (take v (laws es)) (enacted w (take v (laws es)))) (ap (λ (s : Contents). s.entries) c.register.view_is)
    ∙ ap (λ k. known_by w v k (take v (laws E)) (enacted w (take v (laws E)))) c.front-front.ensures.value

pub returns-in_ok-known_of_act-in-Some-clause-sound : goal.returns-in_ok-known_of_act-in-Some-clause-sound
returns-in_ok-known_of_act-in-Some-clause-sound c =
    let E = c.args.register.now.entries in
    let I = c.register.inside.entries.items in
    let w = c.args.work.now in
    let v = c.args.viewpoint in
    let past = past_of I v c.register.invariant.legal in
    let K : List Command → Type 0 = λ l. IfSome (known_by w v (front E) l (enacted w l)) IsSound in
    let V : List Entry → Type 0 = λ es. K (take v (laws es)) in
    let S : Option Known → Type 0 = λ k. IfSome k IsSound in
    subst S (sym (returns-in_ok-known_of_act-in-Some-clause-known c))
    (subst V (ap (λ (s : Contents). s.entries) c.register.view_is) (subst K past.known (known_is_sound w v (front E) past.before past.legal)))

pub returns-in-None-clause-known : goal.returns-in-None-clause-known
returns-in-None-clause-known c =
    let E = c.args.register.now.entries in
    let I = c.register.inside.entries.items in
    let w = c.args.work.now in
    let v = c.args.viewpoint in
    let found = enacted w (take v (laws I)) in
    let S : Option EnactedMark → Type 0 = λ k. EnactedStands I k found in
    let act = act_known I w v (laws I) (enacted_in (work_mark c.register.inside.indexes w)) (c.register.invariant.stands.works w).act in
    ap (known_by w v (front E) (take v (laws I))) (enacted_none I found (subst S (sym c.in-None.ensures) act))
    ∙ ap (λ es. known_by w v (front E) (take v (laws es)) (enacted w (take v (laws es)))) (ap (λ (s : Contents). s.entries) c.register.view_is)
