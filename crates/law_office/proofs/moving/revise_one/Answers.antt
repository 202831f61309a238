use Rattle.std.proofs.Common.{◌≡◌, ◌∙◌, ◌++◌, ◌∷◌, [], sym, ap, subst, arith, ℕ, List, Option, Some, None, map, option_map}
use Rattle.std.proofs.lemmas.List.{map-append}
use Rattle.std.specs.Option.{IfSome}
use Rattle.law_register.specs.declared.register.known.Known.{Known}
use Rattle.law_register.specs.Answer.Soundness.{IsSound}
use Rattle.law_register.specs.Provisions.Carrying.{carrying, held_now}
use Rattle.law_register.specs.Provisions.Line.{IsLine}
use Rattle.law_register.specs.Provisions.Touching.{touched_works}
use Rattle.law_register.specs.Register.LawList.{front, laws}
use Rattle.source_provisions.proofs.HeldNow.{held_sound}
use Rattle.held_provisions.specs.Sources.{AreSources}
use Rattle.version_cache.specs.declared.work_revision.WorkRevision.{WorkRevision}
use Rattle.version_cache.specs.Seen.{work_revision_view}
use Rattle.version_cache.specs.Works.{AreRightEarly}
use Rattle.law_office.specs.Movements.{FitOnce, IsRevisedAs, then_of}
use Rattle.law_office.specs.Tables.{enacted_view, kept_in, revised_view}
use Rattle.law_office.proofs.After.{legal_then}
use Rattle.law_office.proofs.InLine.{works_of}
use Rattle.law_office.proofs.Moved.{cost_now, held_then, on_none, on_pushed, on_still, right_early}
use Rattle.law_office.proofs.moving.revise_one.Goals as goal

pub carried_then-requires-clause-fit : goal.carried_then-requires-clause-fit
carried_then-requires-clause-fit g c =
    subst (λ (rs : List (List ℕ × WorkRevision)). FitOnce (map revised_view rs) (kept_in c.args.tables.now)) (sym c.as_slice.ensures.value) c.requires.moving.fit

pub carried_then-requires-clause-alone : goal.carried_then-requires-clause-alone
carried_then-requires-clause-alone g c =
    let then_entries = c.args.movement.now.register.now.entries ++ c.args.movement.now.entry.now ∷ [] in
    c.known_works_carry_nothing.ensures.viewpoints then_entries c.args.known.act.work (front then_entries) c.args.known c.requires.known

pub revise_kept-requires-clause-sound : goal.revise_kept-requires-clause-sound
revise_kept-requires-clause-sound g c =
    let es = c.args.movement.now.register.now.entries in
    let e = c.args.movement.now.entry.now in
    let legal = c.entries_are_legal.ensures in
    let kept = kept_in c.args.tables.now in
    let enacted = option_map (λ e. enacted_view e.now) c.args.enacted in
    let known = c.args.known in
    let held : held_now (es ++ e ∷ []) known.act.work ≡ Some c.in_ok-carried.carried =
    held_then es e kept enacted (map revised_view c.args.revised.now.items) known.act.work (works_of c.args._rest.now) c.requires.moving legal c.requires.right c.requires.ahead known c.requires.known
    c.in_ok-carried.carried (c.laws_have_lines.ensures (laws (es ++ e ∷ [])))
    (subst (λ (rs : List (List ℕ × WorkRevision)). (ws : List Known) → IsLine ws → AreSources ws known (then_of enacted (map revised_view rs) kept) → c.in_ok-carried.carried ≡ carrying ws known)
    c.as_slice.ensures.value c.in_ok-carried.ensures) in
    subst (λ (k : Option Known). IfSome k IsSound) held (held_sound (es ++ e ∷ []) known.act.work (legal_then es e legal c.requires.accepted))

pub revise_kept-requires-clause-right : goal.revise_kept-requires-clause-right
revise_kept-requires-clause-right g c =
    let es = c.args.movement.now.register.now.entries in
    let e = c.args.movement.now.entry.now in
    let legal = c.entries_are_legal.ensures in
    let kept = kept_in c.args.tables.now in
    let enacted = option_map (λ e. enacted_view e.now) c.args.enacted in
    let known = c.args.known in
    let held : held_now (es ++ e ∷ []) known.act.work ≡ Some c.in_ok-carried.carried =
    held_then es e kept enacted (map revised_view c.args.revised.now.items) known.act.work (works_of c.args._rest.now) c.requires.moving legal c.requires.right c.requires.ahead known c.requires.known
    c.in_ok-carried.carried (c.laws_have_lines.ensures (laws (es ++ e ∷ [])))
    (subst (λ (rs : List (List ℕ × WorkRevision)). (ws : List Known) → IsLine ws → AreSources ws known (then_of enacted (map revised_view rs) kept) → c.in_ok-carried.carried ≡ carrying ws known)
    c.as_slice.ensures.value c.in_ok-carried.ensures) in
    subst (λ (w : List ℕ). IfSome (kept w) (AreRightEarly c.in_ok-carried.carried c.args.day)) (sym c.in_ok-name.ensures)
    (right_early es e (λ work one for. c.tables_are_right_until_touched.ensures es e work one (legal_then es e legal c.requires.accepted) for)
    kept c.requires.right known.act.work c.in_ok-carried.carried c.args.day held c.requires.day)

pub returns-in_ok-push-in-Some-clause-steps : goal.returns-in_ok-push-in-Some-clause-steps
returns-in_ok-push-in-Some-clause-steps g c =
    let es = c.args.movement.now.register.now.entries in
    let e = c.args.movement.now.entry.now in
    let legal = c.entries_are_legal.ensures in
    let kept = kept_in c.args.tables.now in
    let enacted = option_map (λ e. enacted_view e.now) c.args.enacted in
    let known = c.args.known in
    let held : held_now (es ++ e ∷ []) known.act.work ≡ Some c.in_ok-carried.carried =
    held_then es e kept enacted (map revised_view c.args.revised.now.items) known.act.work (works_of c.args._rest.now) c.requires.moving legal c.requires.right c.requires.ahead known c.requires.known
    c.in_ok-carried.carried (c.laws_have_lines.ensures (laws (es ++ e ∷ [])))
    (subst (λ (rs : List (List ℕ × WorkRevision)). (ws : List Known) → IsLine ws → AreSources ws known (then_of enacted (map revised_view rs) kept) → c.in_ok-carried.carried ≡ carrying ws known)
    c.as_slice.ensures.value c.in_ok-carried.ensures) in
    let cost = cost_now (es ++ e ∷ []) (touched_works es e) known.act.work c.in_ok-carried.carried c.args.day held c.requires.day in
    omega (arith, c.revise_kept.ensures.steps, cost)

pub returns-in-None-clause-steps : goal.returns-in-None-clause-steps
returns-in-None-clause-steps g c =
    let es = c.args.movement.now.register.now.entries in
    let e = c.args.movement.now.entry.now in
    let legal = c.entries_are_legal.ensures in
    let kept = kept_in c.args.tables.now in
    let enacted = option_map (λ e. enacted_view e.now) c.args.enacted in
    let known = c.args.known in
    let held : held_now (es ++ e ∷ []) known.act.work ≡ Some c.in_ok-carried.carried =
    held_then es e kept enacted (map revised_view c.args.revised.now.items) known.act.work (works_of c.args._rest.now) c.requires.moving legal c.requires.right c.requires.ahead known c.requires.known
    c.in_ok-carried.carried (c.laws_have_lines.ensures (laws (es ++ e ∷ [])))
    (subst (λ (rs : List (List ℕ × WorkRevision)). (ws : List Known) → IsLine ws → AreSources ws known (then_of enacted (map revised_view rs) kept) → c.in_ok-carried.carried ≡ carrying ws known)
    c.as_slice.ensures.value c.in_ok-carried.ensures) in
    let cost = cost_now (es ++ e ∷ []) (touched_works es e) known.act.work c.in_ok-carried.carried c.args.day held c.requires.day in
    omega (arith, c.revise_kept.ensures.steps, cost)

pub returns-in_err-push-in-Some-clause-steps : goal.returns-in_err-push-in-Some-clause-steps
returns-in_err-push-in-Some-clause-steps g c =
    let es = c.args.movement.now.register.now.entries in
    let e = c.args.movement.now.entry.now in
    let legal = c.entries_are_legal.ensures in
    let kept = kept_in c.args.tables.now in
    let enacted = option_map (λ e. enacted_view e.now) c.args.enacted in
    let known = c.args.known in
    let held : held_now (es ++ e ∷ []) known.act.work ≡ Some c.in_ok-carried.carried =
    held_then es e kept enacted (map revised_view c.args.revised.now.items) known.act.work (works_of c.args._rest.now) c.requires.moving legal c.requires.right c.requires.ahead known c.requires.known
    c.in_ok-carried.carried (c.laws_have_lines.ensures (laws (es ++ e ∷ [])))
    (subst (λ (rs : List (List ℕ × WorkRevision)). (ws : List Known) → IsLine ws → AreSources ws known (then_of enacted (map revised_view rs) kept) → c.in_ok-carried.carried ≡ carrying ws known)
    c.as_slice.ensures.value c.in_ok-carried.ensures) in
    let cost = cost_now (es ++ e ∷ []) (touched_works es e) known.act.work c.in_ok-carried.carried c.args.day held c.requires.day in
    omega (arith, c.revise_kept.ensures.steps, cost)

pub returns-in_err-revision-clause-steps : goal.returns-in_err-revision-clause-steps
returns-in_err-revision-clause-steps g c =
    let es = c.args.movement.now.register.now.entries in
    let e = c.args.movement.now.entry.now in
    let legal = c.entries_are_legal.ensures in
    let kept = kept_in c.args.tables.now in
    let enacted = option_map (λ e. enacted_view e.now) c.args.enacted in
    let known = c.args.known in
    let held : held_now (es ++ e ∷ []) known.act.work ≡ Some c.in_ok-carried.carried =
    held_then es e kept enacted (map revised_view c.args.revised.now.items) known.act.work (works_of c.args._rest.now) c.requires.moving legal c.requires.right c.requires.ahead known c.requires.known
    c.in_ok-carried.carried (c.laws_have_lines.ensures (laws (es ++ e ∷ [])))
    (subst (λ (rs : List (List ℕ × WorkRevision)). (ws : List Known) → IsLine ws → AreSources ws known (then_of enacted (map revised_view rs) kept) → c.in_ok-carried.carried ≡ carrying ws known)
    c.as_slice.ensures.value c.in_ok-carried.ensures) in
    let cost = cost_now (es ++ e ∷ []) (touched_works es e) known.act.work c.in_ok-carried.carried c.args.day held c.requires.day in
    omega (arith, c.revise_kept.ensures.steps, cost)

pub returns-in_ok-push-in-Some-clause-moving : goal.returns-in_ok-push-in-Some-clause-moving
returns-in_ok-push-in-Some-clause-moving g c =
    let es = c.args.movement.now.register.now.entries in
    let e = c.args.movement.now.entry.now in
    let legal = c.entries_are_legal.ensures in
    let kept = kept_in c.args.tables.now in
    let enacted = option_map (λ e. enacted_view e.now) c.args.enacted in
    let known = c.args.known in
    let held : held_now (es ++ e ∷ []) known.act.work ≡ Some c.in_ok-carried.carried =
    held_then es e kept enacted (map revised_view c.args.revised.now.items) known.act.work (works_of c.args._rest.now) c.requires.moving legal c.requires.right c.requires.ahead known c.requires.known
    c.in_ok-carried.carried (c.laws_have_lines.ensures (laws (es ++ e ∷ [])))
    (subst (λ (rs : List (List ℕ × WorkRevision)). (ws : List Known) → IsLine ws → AreSources ws known (then_of enacted (map revised_view rs) kept) → c.in_ok-carried.carried ≡ carrying ws known)
    c.as_slice.ensures.value c.in_ok-carried.ensures) in
    let revision = c.in-Some.revision in
    let made : IsRevisedAs c.in_ok-carried.carried c.args.day (kept known.act.work) (Some (work_revision_view revision)) =
    subst (λ (r : Option WorkRevision). IsRevisedAs c.in_ok-carried.carried c.args.day (kept known.act.work) (option_map work_revision_view r)) c.in-Some.is
    (subst (λ (w : List ℕ). IsRevisedAs c.in_ok-carried.carried c.args.day (kept w) (option_map work_revision_view c.in_ok-revision.field-0)) c.in_ok-name.ensures c.in_ok-revision.ensures.made) in
    on_pushed es e legal c.requires.accepted kept c.requires.right enacted (map revised_view c.args.revised.now.items) known.act.work (works_of c.args._rest.now) c.requires.moving
    (kept_in c.revise_kept.new.tables) c.revise_kept.ensures.same c.requires.once c.in_ok-carried.carried c.args.day c.in_ok-name.name (work_revision_view revision)
    (map revised_view c.push.new.self.items) held c.requires.day c.in_ok-name.ensures made
    (ap (map revised_view) c.in_ok-push-in-Some.ensures.items ∙ map-append revised_view c.args.revised.now.items ((c.in_ok-name.name, revision) ∷ []))

pub returns-in-None-clause-moving : goal.returns-in-None-clause-moving
returns-in-None-clause-moving g c =
    let es = c.args.movement.now.register.now.entries in
    let e = c.args.movement.now.entry.now in
    let legal = c.entries_are_legal.ensures in
    let kept = kept_in c.args.tables.now in
    let enacted = option_map (λ e. enacted_view e.now) c.args.enacted in
    let known = c.args.known in
    let held : held_now (es ++ e ∷ []) known.act.work ≡ Some c.in_ok-carried.carried =
    held_then es e kept enacted (map revised_view c.args.revised.now.items) known.act.work (works_of c.args._rest.now) c.requires.moving legal c.requires.right c.requires.ahead known c.requires.known
    c.in_ok-carried.carried (c.laws_have_lines.ensures (laws (es ++ e ∷ [])))
    (subst (λ (rs : List (List ℕ × WorkRevision)). (ws : List Known) → IsLine ws → AreSources ws known (then_of enacted (map revised_view rs) kept) → c.in_ok-carried.carried ≡ carrying ws known)
    c.as_slice.ensures.value c.in_ok-carried.ensures) in
    let made : IsRevisedAs c.in_ok-carried.carried c.args.day (kept known.act.work) None =
    subst (λ (r : Option WorkRevision). IsRevisedAs c.in_ok-carried.carried c.args.day (kept known.act.work) (option_map work_revision_view r)) c.in-None.is
    (subst (λ (w : List ℕ). IsRevisedAs c.in_ok-carried.carried c.args.day (kept w) (option_map work_revision_view c.in_ok-revision.field-0)) c.in_ok-name.ensures c.in_ok-revision.ensures.made) in
    on_still es e legal c.requires.accepted kept c.requires.right enacted (map revised_view c.args.revised.now.items) known.act.work (works_of c.args._rest.now) c.requires.moving
    (kept_in c.revise_kept.new.tables) c.revise_kept.ensures.same
    (on_none es e legal c.requires.accepted kept c.requires.right enacted (map revised_view c.args.revised.now.items) known.act.work (works_of c.args._rest.now) c.requires.moving
    c.in_ok-carried.carried c.args.day made)
