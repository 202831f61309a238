use Rattle.std.proofs.Common.{◌∙◌, ◌+◌, ap, sym, ℕ, List, [], Option, Some}
use Rattle.law_register.specs.declared.law.act.Act.{Act}
use Rattle.law_register.specs.declared.register.known.Known.{Known}
use Rattle.law_register.specs.declared.register.known.KnownMod.{KnownMod}
use Rattle.law_register.specs.Register.KnownNext.{newly_known}
use Rattle.law_register.proofs.Grown.{enact_known, grown_sound}
use Rattle.law_register.proofs.register.growing.known_enacted.Goals as goal

pub returns-clause-known : goal.returns-clause-known
returns-clause-known c =
    let es = c.args.register.now.entries in
    let number : ℕ = c.front-number.result + 1 in
    let told : Act → List KnownMod → List ℕ → Option Known =
    λ act mods days. Some (record { act = act; enacted = number; viewpoint = number; front = number; mods = mods; source_days = days }) in
    enact_known es c.args.entry.now c.args.act.now c.entries_are_legal.ensures c.requires.accepted c.requires.enacts
    ∙ ap (λ n. Some (newly_known (n + 1) c.args.act.now)) (sym c.front-number.ensures.value)
    ∙ ap (λ (mods : List KnownMod). told c.args.act.now mods []) (sym c.new.ensures)
    ∙ ap (told c.args.act.now c.new.result) (sym c.new-2.ensures)
    ∙ ap (λ act. told act c.new.result c.new-2.result) (sym c.in_ok-copy.ensures)

pub returns-clause-sound : goal.returns-clause-sound
returns-clause-sound c =
    grown_sound c.args.register.now.entries c.args.entry.now c.args.act.now.work _ c.entries_are_legal.ensures c.requires.accepted (returns-clause-known c)
