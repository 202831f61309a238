use Rattle.std.proofs.Common.{◌∙◌, sym, ap, ap₂, subst, arith, List, [], ℕ}
use Rattle.std.specs.Map.{keys_of}
use Rattle.law_register.specs.declared.register.entry.Entry.{Entry}
use Rattle.law_refs.specs.Handing.{rows_opened}
use Rattle.law_refs.specs.Index.{refs_in, revised}
use Rattle.law_refs.specs.Missing.{missing}
use Rattle.law_refs.specs.OfRegister.{IsIndexOf}
use Rattle.law_refs.specs.declared.ref_row.RefRow.{RefRow}
use Rattle.law_office.proofs.InLine.{all_in_line}
use Rattle.law_office.proofs.Indexing.{opened_steps, opened_still}
use Rattle.law_office.proofs.references.index_of.Goals as goal

pub revise-requires : goal.revise-requires
revise-requires g c = opened_still (missing c.now-targets.result) c.new-none.result c.new-index.result c.new-index.ensures

pub returns-clause-index : goal.returns-clause-index
unfolding revised
returns-clause-index g c =
    let es = c.args.register.now.entries in
    let works = keys_of c.args.tables.now.entries in
    subst (IsIndexOf es)
    (sym
    (c.commit.ensures
    ∙ c.in_ok-revision.ensures.index
    ∙ ap (λ (now : List Entry). revised (missing now) c.new-none.result c.args.rows.now c.new-index.result) c.now-targets.ensures
    ∙ ap₂ (λ (none : List (List ℕ)) (rows : List RefRow). revised (missing es) none rows c.new-index.result) c.new-none.ensures c.requires.rows
    ∙ ap (revised (missing es) [] (rows_opened es works)) c.new-index.ensures))
    (c.revision_follows_the_register.ensures [] es works (rows_opened es works) [] c.new_index_is_of_no_entries.ensures
    (c.an_opening_hands_in.ensures es works c.requires.after.legal (all_in_line es works c.requires.line)))

pub returns-clause-steps : goal.returns-clause-steps
returns-clause-steps g c =
    let es = c.args.register.now.entries in
    let works = keys_of c.args.tables.now.entries in
    let none = opened_steps c.args.rows.now c.new-none.result c.new-index.result c.new-none.ensures c.new-index.ensures in
    let judged = ap refs_in c.requires.rows ∙ c.an_opening_judges.ensures es works (all_in_line es works c.requires.line) in
    omega (arith, c.revise.ensures.steps, none, judged)

pub returns-in_err-revision-clause-steps : goal.returns-in_err-revision-clause-steps
returns-in_err-revision-clause-steps g c =
    let es = c.args.register.now.entries in
    let works = keys_of c.args.tables.now.entries in
    let none = opened_steps c.args.rows.now c.new-none.result c.new-index.result c.new-none.ensures c.new-index.ensures in
    let judged = ap refs_in c.requires.rows ∙ c.an_opening_judges.ensures es works (all_in_line es works c.requires.line) in
    omega (arith, c.revise.ensures.steps, none, judged)
