use Rattle.std.proofs.Common.{◌≡◌, ◌∙◌, sym, ap, Option, Some, option_map, List}
use Rattle.law_register.specs.declared.register.entry.Entry.{Entry}
use Rattle.law_register.specs.declared.register.known.Known.{Known}
use Rattle.law_register.specs.Provisions.Carrying.{carrying}
use Rattle.law_register.specs.Provisions.Line.{line}
use Rattle.law_register.specs.Register.KnownIds.{known_at}
use Rattle.law_register.specs.Register.KnownNext.{known_now}
use Rattle.law_register.specs.Register.LawList.{laws}
use Rattle.source_provisions.proofs.HeldNow.{held_is}
use Rattle.law_office.specs.Tables.{kept_in}
use Rattle.law_office.proofs.HasSources.{sources_ahead}
use Rattle.law_office.proofs.tabling.held_of.Goals as goal

pub carry-requires : goal.carry-requires
carry-requires c =
    c.known_works_carry_nothing.ensures.viewpoints c.args.register.now.entries c.args.work.now c.front.result c.in-Some.known
    (sym c.in_ok-known.ensures.known ∙ c.in-Some.is)

pub returns-in_ok-carry-in-Some : goal.returns-in_ok-carry-in-Some
returns-in_ok-carry-in-Some c =
    let es : List Entry = c.args.register.now.entries in
    let known : Known = c.in-Some.known in
    let now : known_now es c.args.work.now ≡ Some known =
    ap (known_at es c.args.work.now) (sym c.front.ensures.value) ∙ sym c.in_ok-known.ensures.known ∙ c.in-Some.is in
    ap Some
    (c.in_ok-carry-in-Some.ensures (line (laws es)) (c.laws_have_lines.ensures (laws es))
    (sources_ahead es c.args.work.now (kept_in c.args.tables.now) c.requires.ahead known now))
    ∙ sym (held_is es c.args.work.now ∙ ap (λ (k : Option Known). option_map (carrying (line (laws es))) k) now)
