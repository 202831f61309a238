use Rattle.std.proofs.Common.{◌∙◌, ◌++◌, ◌∷◌, [], sym, ap, ap₂, subst, arith, ℕ, List}
use Rattle.law_register.specs.declared.register.entry.Entry.{Entry}
use Rattle.law_register.proofs.Grown.{if_ok}
use Rattle.law_refs.specs.Handing.{judged_for, moved_by, rows_of_entry}
use Rattle.law_refs.specs.Index.{revised, revision_steps}
use Rattle.law_refs.specs.Missing.{missing}
use Rattle.law_refs.specs.OfRegister.{IsIndexOf}
use Rattle.law_refs.specs.Right.{IsRightBut}
use Rattle.law_refs.specs.declared.ref_row.RefRow.{RefRow}
use Rattle.law_office.specs.Tables.{kept_in}
use Rattle.law_office.proofs.Gathered.{after_moved}
use Rattle.law_office.proofs.references.revise_moved.Goals as goal

pub moving-targets-requires : goal.moving-targets-requires
moving-targets-requires g c =
    after_moved c.args.register.now.entries c.args.entry.now (kept_in c.args.tables.now) _ _ c.requires.legal c.requires.moved

pub revise-requires : goal.revise-requires
revise-requires g c =
    let es = c.args.register.now.entries in
    let e = c.args.entry.now in
    subst (λ (now : List Entry). IsRightBut (missing now) c.args.works.now c.args.index.now) (sym c.moving-targets.ensures)
    (subst (λ (moved : List (List ℕ)). IsRightBut (missing (es ++ e ∷ [])) moved c.args.index.now) (sym c.requires.works)
    (c.what_did_not_move_stays_right.ensures (missing es) (missing (es ++ e ∷ [])) (moved_by es e) c.args.index.now c.requires.index.right
    (c.an_entry_hands_in.ensures es e c.requires.legal).targets))

pub returns-clause-index : goal.returns-clause-index
unfolding revised
returns-clause-index g c =
    let es = c.args.register.now.entries in
    let e = c.args.entry.now in
    let index = c.args.index.now in
    let path =
    ap (λ (now : List Entry). revised (missing now) c.args.works.now c.args.rows.now index) c.moving-targets.ensures
    ∙ ap₂ (λ (m : List (List ℕ)) (r : List RefRow). revised (missing (es ++ e ∷ [])) m r index) c.requires.works c.requires.rows in
    if_ok c.revise.result _ _
    (λ revision is. subst (IsIndexOf (es ++ e ∷ [])) (sym (is ∙ path))
    (c.revision_follows_the_register.ensures es (es ++ e ∷ []) (moved_by es e) (rows_of_entry es e) index c.requires.index
    (c.an_entry_hands_in.ensures es e c.requires.legal))) c.revise.ensures.index

pub returns-clause-steps : goal.returns-clause-steps
unfolding judged_for
returns-clause-steps g c =
    let judged = ap₂ (λ (m : List (List ℕ)) (r : List RefRow). revision_steps m r c.args.index.now) c.requires.works c.requires.rows in
    omega (arith, c.revise.ensures.steps, judged)
