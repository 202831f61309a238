use Rattle.std.proofs.Common.{◌≡◌, ◌∙◌, sym, ap, subst, Option, Some, option_map}
use Rattle.law_register.specs.declared.register.known.Known.{Known}
use Rattle.law_register.specs.Answer.Touched.{work_entered}
use Rattle.law_register.specs.Provisions.Carrying.{held_now}
use Rattle.law_register.specs.Register.KnownNext.{known_now, up_to}
use Rattle.law_register.specs.Register.LawList.{front, law_of}
use Rattle.version_cache.specs.declared.work_tables.WorkTables.{WorkTables}
use Rattle.version_cache.specs.Seen.{work_view}
use Rattle.version_cache.specs.Works.{IsForIf}
use Rattle.law_office.specs.Tables.{Matches, kept_in}
use Rattle.law_office.proofs.Concerning.{entered, none_touched}
use Rattle.law_office.proofs.KeptOf.{kept_known, kept_named}
use Rattle.law_office.proofs.moving.own_day.Goals as goal

pub touched_day_of-requires-clause-concerned : goal.touched_day_of-requires-clause-concerned
touched_day_of-requires-clause-concerned c =
    let es = c.args.register.now.entries in
    let e = c.args.entry.now in
    let work = c.args.concerned.now.act.work in
    let for : IsForIf (held_now es work) (work_view c.in-Some.kept.now) =
    subst (λ (o : Option WorkTables). Matches (held_now es work) (option_map work_view o)) (sym c.in-Some.ensures.value) (c.requires.right work) in
    subst (λ (k : Known). work_entered es (law_of es e) ≡ Some k.act.work) (sym c.known.ensures)
    (entered es e work c.requires.concerned ∙ ap Some (sym (kept_named es work (work_view c.in-Some.kept.now) for)))

pub touched_day_of-requires-clause-known : goal.touched_day_of-requires-clause-known
touched_day_of-requires-clause-known c =
    let es = c.args.register.now.entries in
    let work = c.args.concerned.now.act.work in
    let for : IsForIf (held_now es work) (work_view c.in-Some.kept.now) =
    subst (λ (o : Option WorkTables). Matches (held_now es work) (option_map work_view o)) (sym c.in-Some.ensures.value) (c.requires.right work) in
    subst (λ (k : Known). known_now es k.act.work ≡ Some (up_to (front es) k)) (sym c.known.ensures)
    (kept_known es work (work_view c.in-Some.kept.now) for)

pub returns-in-None : goal.returns-in-None
returns-in-None c =
    none_touched c.args.register.now.entries c.args.entry.now c.entries_are_legal.ensures (kept_in c.args.tables.now) c.requires.right c.args.concerned.now
    c.requires.known (ap (λ (o : Option WorkTables). option_map work_view o) (sym c.in-None.ensures.value))
