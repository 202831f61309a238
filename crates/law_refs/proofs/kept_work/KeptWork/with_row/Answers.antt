use Rattle.std.proofs.Common.{◌≡◌, ◌∙◌, sym, ap, subst, [], ◌∷◌, ◌++◌, IfOk, List}
use Rattle.law_refs.specs.declared.ref_row.DayRefs.{DayRefs}
use Rattle.law_refs.specs.declared.ref_row.WorkRefs.{WorkRefs}
use Rattle.law_refs.proofs.Sharing.{row_from, shared_row}
use Rattle.law_refs.specs.Rows.{last_refs}
use Rattle.law_refs.proofs.kept_work.KeptWork.with_row.Goals as goal

pub returns-in-Some-clause-kept : goal.returns-in-Some-clause-kept
returns-in-Some-clause-kept g c =
    let kept = c.args.self.now in
    let row = c.args.row.now in
    let judged = c.in-Some.judged.now in
    let rows : c.as_slice-rows.result.now ≡ kept.rows =
    c.as_slice-rows.ensures ∙ ap (λ (w : WorkRefs). w.rows) (c.deref.ensures ∙ c.self.view_is) in
    let is = shared_row (g.T.Targets.broken_rule c.args.targets.now) kept judged row c.requires
    (sym (ap last_refs rows) ∙ c.in-Some.ensures.last) c.in-Some.ensures.those in
    subst (λ (all : List DayRefs). IfOk c.shared_behind.result (λ now. now ≡ record { act_day = row.act_day; rows = all }))
    (ap (λ (before : List DayRefs). before ++ row_from row.from judged ∷ []) rows ∙ ap (λ (one : DayRefs). kept.rows ++ one ∷ []) is)
    c.shared_behind.ensures
