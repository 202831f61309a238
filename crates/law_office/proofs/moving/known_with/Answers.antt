use Rattle.std.proofs.Common.{◌≡◌, ◌∙◌, ◌++◌, ◌∷◌, [], sym, ap, subst, ℕ, List, Option, Some, option_map}
use Rattle.law_register.specs.declared.register.known.Known.{Known}
use Rattle.law_register.specs.Provisions.Carrying.{held_now}
use Rattle.law_register.specs.Register.KnownNext.{known_now, up_to}
use Rattle.law_register.specs.Register.LawList.{front}
use Rattle.version_cache.specs.declared.work_tables.WorkTables.{WorkTables}
use Rattle.version_cache.specs.Seen.{work_view}
use Rattle.version_cache.specs.Works.{IsForIf}
use Rattle.law_office.specs.Tables.{Matches}
use Rattle.law_office.proofs.KeptOf.{kept_known, kept_named, now_named}
use Rattle.law_office.proofs.moving.known_with.Goals as goal

pub known_after-requires-clause-known : goal.known_after-requires-clause-known
known_after-requires-clause-known c =
    let es = c.args.movement.now.register.now.entries in
    let work = c.args.work.now in
    let for : IsForIf (held_now es work) (work_view c.in-Some.kept.now) =
    subst (λ (o : Option WorkTables). Matches (held_now es work) (option_map work_view o)) (sym c.in-Some.ensures.value) (c.requires.right work) in
    subst (λ (k : Known). known_now es k.act.work ≡ Some (up_to (front es) k)) (sym c.known-known.ensures)
    (kept_known es work (work_view c.in-Some.kept.now) for)

pub returns-in_ok-known_after-in-Some-clause-known : goal.returns-in_ok-known_after-in-Some-clause-known
returns-in_ok-known_after-in-Some-clause-known c =
    let es = c.args.movement.now.register.now.entries in
    let e = c.args.movement.now.entry.now in
    let work = c.args.work.now in
    let for : IsForIf (held_now es work) (work_view c.in-Some.kept.now) =
    subst (λ (o : Option WorkTables). Matches (held_now es work) (option_map work_view o)) (sym c.in-Some.ensures.value) (c.requires.right work) in
    λ some. sym (subst (λ (x : List ℕ). known_now (es ++ e ∷ []) x ≡ Some c.in_ok-known_after-in-Some.field-0)
    (ap (λ (k : Known). k.act.work) c.known-known.ensures ∙ kept_named es work (work_view c.in-Some.kept.now) for) c.in_ok-known_after-in-Some.ensures.known)

pub returns-in_ok-known_after-in-Some-clause-named : goal.returns-in_ok-known_after-in-Some-clause-named
returns-in_ok-known_after-in-Some-clause-named c =
    let es = c.args.movement.now.register.now.entries in
    let e = c.args.movement.now.entry.now in
    let work = c.args.work.now in
    let for : IsForIf (held_now es work) (work_view c.in-Some.kept.now) =
    subst (λ (o : Option WorkTables). Matches (held_now es work) (option_map work_view o)) (sym c.in-Some.ensures.value) (c.requires.right work) in
    let is : known_now (es ++ e ∷ []) work ≡ Some c.in_ok-known_after-in-Some.field-0 =
    subst (λ (x : List ℕ). known_now (es ++ e ∷ []) x ≡ Some c.in_ok-known_after-in-Some.field-0)
    (ap (λ (k : Known). k.act.work) c.known-known.ensures ∙ kept_named es work (work_view c.in-Some.kept.now) for) c.in_ok-known_after-in-Some.ensures.known in
    (now_named (es ++ e ∷ []) work c.in_ok-known_after-in-Some.field-0 is, is)
