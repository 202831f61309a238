use Rattle.std.proofs.Common.{◌≡◌, ◌++◌, ◌∷◌, [], sym, ap, subst, Option, Some, option_map}
use Rattle.law_register.specs.declared.register.known.Known.{Known}
use Rattle.law_register.specs.Provisions.Carrying.{held_now}
use Rattle.law_register.specs.Register.KnownNext.{known_now, up_to}
use Rattle.law_register.specs.Register.LawList.{front}
use Rattle.version_cache.specs.declared.work_tables.WorkTables.{WorkTables}
use Rattle.version_cache.specs.Seen.{work_view}
use Rattle.version_cache.specs.Works.{IsForIf}
use Rattle.law_office.specs.Tables.{Matches, kept_in}
use Rattle.law_office.proofs.Concerning.{concerned_known, enacted_known, enacts, kept_if_entered}
use Rattle.law_office.proofs.KeptOf.{kept_known}
use Rattle.law_office.proofs.changes.concerned.Goals as goal

pub known_enacted-requires-clause-enacts : goal.known_enacted-requires-clause-enacts
known_enacted-requires-clause-enacts c = enacts c.args.entry.now.command c.in-Some.act.now c.in-Some.ensures

pub returns-in-Some-clause-known : goal.returns-in-Some-clause-known
returns-in-Some-clause-known c =
    enacted_known c.args.register.now.entries c.args.entry.now c.in-Some.act.now c.in_ok-known_enacted.field-0
    (enacts c.args.entry.now.command c.in-Some.act.now c.in-Some.ensures) c.in_ok-known_enacted.ensures.known

pub known_after-requires-clause-known : goal.known_after-requires-clause-known
known_after-requires-clause-known c =
    let es = c.args.register.now.entries in
    let work = c.in-Some-work_entered.work.now in
    let for : IsForIf (held_now es work) (work_view c.in-Some-get.kept.now) =
    subst (λ (o : Option WorkTables). Matches (held_now es work) (option_map work_view o)) (sym c.in-Some-get.ensures.value) (c.requires.right work) in
    subst (λ (k : Known). known_now es k.act.work ≡ Some (up_to (front es) k)) (sym c.known.ensures) (kept_known es work (work_view c.in-Some-get.kept.now) for)

pub returns-in_ok-known_after-in-Some-get-clause-known : goal.returns-in_ok-known_after-in-Some-get-clause-known
returns-in_ok-known_after-in-Some-get-clause-known c =
    let es = c.args.register.now.entries in
    let e = c.args.entry.now in
    let work = c.in-Some-work_entered.work.now in
    let for : IsForIf (held_now es work) (work_view c.in-Some-get.kept.now) =
    subst (λ (o : Option WorkTables). Matches (held_now es work) (option_map work_view o)) (sym c.in-Some-get.ensures.value) (c.requires.right work) in
    concerned_known es e work (work_view c.in-Some-get.kept.now) c.in_ok-known_after-in-Some-get.field-0 for c.in-Some-work_entered.ensures
    (subst (λ (k : Known). known_now (es ++ e ∷ []) k.act.work ≡ Some c.in_ok-known_after-in-Some-get.field-0) c.known.ensures c.in_ok-known_after-in-Some-get.ensures.known)

pub returns-in-None-clause-none : goal.returns-in-None-clause-none
returns-in-None-clause-none c none =
    absurd
    (kept_if_entered c.args.register.now.entries c.args.entry.now (kept_in c.args.tables.now) c.in-Some-work_entered.work.now c.entries_are_legal.ensures
    c.requires.accepted c.requires.right c.in-Some-work_entered.ensures c.in_default.ensures
    (ap (λ (o : Option WorkTables). option_map work_view o) c.in-None.ensures.value))
