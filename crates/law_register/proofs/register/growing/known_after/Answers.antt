use Rattle.std.proofs.Common.{◌≡◌, ◌∙◌, ◌∷◌, ◌++◌, [], ap, sym, Some}
use Rattle.law_register.specs.declared.register.known.Known.{Known}
use Rattle.law_register.specs.Answer.Soundness.{IsSound}
use Rattle.law_register.specs.Register.KnownNext.{known_now, up_to}
use Rattle.law_register.specs.Register.LawList.{front}
use Rattle.law_register.proofs.Grown.{grown_by, grown_draft, grown_sound, if_ok}
use Rattle.law_register.proofs.register.growing.known_after.Goals as goal

pub returns-in-Some-clause-known : goal.returns-in-Some-clause-known
returns-in-Some-clause-known c =
    let es = c.args.register.now.entries in
    let known : Known = up_to (front es) c.args.known.now in
    grown_by es c.args.entry.now c.args.known.now.act.work known c.entries_are_legal.ensures c.requires.accepted c.requires.known c.in-Some.field-0 c.known_then.result c.in-Some.is
    c.known_then.ensures

pub returns-in-Some-clause-sound : goal.returns-in-Some-clause-sound
returns-in-Some-clause-sound c =
    let es = c.args.register.now.entries in
    let w = c.args.known.now.act.work in
    if_ok c.known_then.result (λ (new : Known). known_now (es ++ c.args.entry.now ∷ []) w ≡ Some new) IsSound
    (λ new is. grown_sound es c.args.entry.now w new c.entries_are_legal.ensures c.requires.accepted is) (returns-in-Some-clause-known c)

pub returns-in-None-clause-known : goal.returns-in-None-clause-known
returns-in-None-clause-known c =
    let es = c.args.register.now.entries in
    let w = c.args.known.now.act.work in
    let known : Known = up_to (front es) c.args.known.now in
    let stays = grown_draft es c.args.entry.now w known c.entries_are_legal.ensures c.requires.accepted c.requires.known c.in-None.is in
    if_ok c.known_still.result (λ (new : Known). new ≡ known) (λ (new : Known). known_now (es ++ c.args.entry.now ∷ []) w ≡ Some new)
    (λ new same. stays ∙ ap Some (sym same)) c.known_still.ensures

pub returns-in-None-clause-sound : goal.returns-in-None-clause-sound
returns-in-None-clause-sound c =
    let es = c.args.register.now.entries in
    let w = c.args.known.now.act.work in
    if_ok c.known_still.result (λ (new : Known). known_now (es ++ c.args.entry.now ∷ []) w ≡ Some new) IsSound
    (λ new is. grown_sound es c.args.entry.now w new c.entries_are_legal.ensures c.requires.accepted is) (returns-in-None-clause-known c)
