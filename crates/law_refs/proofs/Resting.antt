-- An entry that moves no work hands in nothing, and leaves the index as it is.
use Rattle.std.proofs.Common.{◌≡◌, ◌∙◌, ℕ, ◌+◌, ap, ap₂, refl, subst, true, false, cond, List, [], ◌∷◌, ◌++◌, map, Option, Some, None, Ok, Err, arith}
use Rattle.frbr_names.specs.Expressions.{Expression, expression_of}
use Rattle.frbr_names.specs.Reads.{Read}
use Rattle.law_register.specs.declared.law.act.Act.{Act}
use Rattle.law_register.specs.declared.law.command.Command.{Command}
use Rattle.law_register.specs.declared.law.command.Command.TheVariants.{Enact, Record, Correct, Withdraw, Restore, DraftAdd, DraftDrop, File}
use Rattle.law_register.specs.declared.register.draft.DraftItem.{DraftItem}
use Rattle.law_register.specs.declared.register.entry.Entry.{Entry}
use Rattle.law_register.specs.Provisions.Touching.{touched_works}
use Rattle.law_register.specs.Register.Drafts.{draft_of}
use Rattle.law_register.specs.Register.Indexes.{act_of}
use Rattle.law_register.specs.Register.LawList.{law_command, law_of}
use Rattle.law_register.specs.Register.Verdicts.{is_legal}
use Rattle.law_register.proofs.Unreached.{drafts_touch_none}
use Rattle.law_refs.specs.Counting.{moved_refs}
use Rattle.law_refs.specs.Handing.{judged_for, moved_by, rows_enacted, rows_of_entry, rows_touched, work_enacted}
use Rattle.law_refs.specs.Index.{Kept, all_again, all_staying, moved_in, moved_in_rows, revised, revision_steps, staying}
use Rattle.law_refs.specs.Judging.{Answers, cause_of, is_of_one, judged_again, names_one}
use Rattle.law_refs.specs.Missing.{missing}
use Rattle.law_refs.specs.OfRegister.{FollowsChange, IsIndexOf}
use Rattle.law_refs.specs.Rows.{again_row, again_work}
use Rattle.law_refs.specs.declared.node_ref.JudgedRef.{JudgedRef}
use Rattle.law_refs.specs.declared.ref_row.DayRefs.{DayRefs}
use Rattle.law_refs.specs.declared.ref_row.RefRow.{RefRow}
use Rattle.law_refs.specs.declared.ref_row.WorkRefs.{WorkRefs}
use Rattle.law_refs.proofs.Entering.{entry_hands_in}
use Rattle.law_refs.proofs.Revised.{revision_follows}

-- ---- an entry of a draft

no_act : (draft : List DraftItem) (command : Command) → law_command draft command ≡ [] → act_of command ≡ None
no_act draft (DraftAdd work body) none = refl
no_act draft (DraftDrop item) none = refl
no_act draft (Enact act) none = absurd (let no : Enact act ∷ [] ≡ [] = none in cc)
no_act draft (Record work mods) none = refl
no_act draft (Correct id body) none = refl
no_act draft (Withdraw id) none = refl
no_act draft (Restore id) none = refl
no_act draft (File work seen) none = refl

pub draft_moves_none : (es : List Entry) (e : Entry) → law_of es e ≡ [] → moved_by es e ≡ []
unfolding moved_by
draft_moves_none es e none =
    ap₂ (λ act (days : List (List ℕ × ℕ)). work_enacted act ++ map (λ t. t.0) days) (no_act (draft_of e.drafter es) e.command none)
    (drafts_touch_none es e none)

pub draft_hands_in_none : (es : List Entry) (e : Entry) → law_of es e ≡ [] → rows_of_entry es e ≡ []
unfolding rows_of_entry
draft_hands_in_none es e none =
    ap₂ (λ act days. rows_enacted (es ++ e ∷ []) act ++ rows_touched (es ++ e ∷ []) days) (no_act (draft_of e.drafter es) e.command none)
    (drafts_touch_none es e none)

-- ---- one that moves no work

no_days : (days : List (List ℕ × ℕ)) → map (λ (touched : List ℕ × ℕ). touched.0) days ≡ [] → days ≡ []
no_days [] none = refl
no_days (touched ∷ days) none = absurd (let no : touched.0 ∷ map (λ (one : List ℕ × ℕ). one.0) days ≡ [] = none in cc)

none_by : (es : List Entry) (e : Entry) (act : Option Act) → work_enacted act ++ map (λ (t : List ℕ × ℕ). t.0) (touched_works es e) ≡ []
    → rows_enacted (es ++ e ∷ []) act ++ rows_touched (es ++ e ∷ []) (touched_works es e) ≡ []
none_by es e None none = ap (rows_touched (es ++ e ∷ [])) (no_days (touched_works es e) none)
none_by es e (Some act) none = absurd (let no : act.work ∷ map (λ (t : List ℕ × ℕ). t.0) (touched_works es e) ≡ [] = none in cc)

pub none_handed_in : (es : List Entry) (e : Entry) → moved_by es e ≡ [] → rows_of_entry es e ≡ []
unfolding moved_by rows_of_entry
none_handed_in es e none = none_by es e (act_of e.command) none

-- ---- a revision by nothing

abbrev with_cause : JudgedRef → Option ℕ → JudgedRef
with_cause kept cause = record { eid = kept.eid; iri = kept.iri; cause = cause }

abbrev with_refs : DayRefs → List JudgedRef → DayRefs
with_refs row refs = record { from = row.from; refs = refs }

abbrev with_rows : WorkRefs → List DayRefs → WorkRefs
with_rows kept rows = record { act_day = kept.act_day; rows = rows }

none_named : (iri : List ℕ) → names_one [] iri ≡ false
unfolding names_one
none_named iri = by (expression_of iri)
  where
    by : (read : Read Expression) → is_of_one [] read ≡ false
    by (Ok target) = refl
    by (Err fault) = refl

module _ (answers : Answers) where
  ref_stays : (kept : JudgedRef) → judged_again answers [] kept ≡ kept
  unfolding judged_again
  ref_stays kept = ap (λ t. with_cause kept (cond t (cause_of answers kept.iri) kept.cause)) (none_named kept.iri)

  refs_stay : (refs : List JudgedRef) → map (judged_again answers []) refs ≡ refs
  refs_stay [] = refl
  refs_stay (kept ∷ refs) = ap (λ first. first ∷ map (judged_again answers []) refs) (ref_stays kept) ∙ ap (λ rest. kept ∷ rest) (refs_stay refs)

  row_stays : (row : DayRefs) → again_row answers [] row ≡ row
  unfolding again_row
  row_stays row = ap (with_refs row) (refs_stay row.refs)

  rows_stay : (rows : List DayRefs) → map (again_row answers []) rows ≡ rows
  rows_stay [] = refl
  rows_stay (row ∷ rows) = ap (λ first. first ∷ map (again_row answers []) rows) (row_stays row) ∙ ap (λ rest. row ∷ rest) (rows_stay rows)

  work_stays : (work : List ℕ) (kept : WorkRefs) → again_work answers [] (staying [] work kept) ≡ kept
  unfolding again_work staying
  work_stays work kept = ap (with_rows kept) (rows_stay kept.rows)

  all_stay : (index : Kept) → all_again answers [] (all_staying [] index) ≡ index
  all_stay [] = refl
  all_stay ((work, kept) ∷ index) =
      ap (λ stays. (work, stays) ∷ all_again answers [] (all_staying [] index)) (work_stays work kept)
      ∙ ap (λ rest. (work, kept) ∷ rest) (all_stay index)

  nothing_revised : (index : Kept) → revised answers [] [] index ≡ index
  unfolding revised
  nothing_revised index = all_stay index

-- ---- what is judged for it: nothing

neither : (a b : ℕ) → a ≡ 0 → b ≡ 0 → a + b ≡ 0
neither a b h k = omega (arith, h, k)

none_moved_refs : (refs : List JudgedRef) → moved_refs [] refs ≡ 0
none_moved_refs [] = refl
none_moved_refs (kept ∷ refs) = neither (cond (names_one [] kept.iri) 1 0) (moved_refs [] refs) (ap (λ t. cond t 1 0) (none_named kept.iri)) (none_moved_refs refs)

none_moved_rows : (rows : List DayRefs) → moved_in_rows [] rows ≡ 0
none_moved_rows [] = refl
none_moved_rows (row ∷ rows) = neither (moved_refs [] row.refs) (moved_in_rows [] rows) (none_moved_refs row.refs) (none_moved_rows rows)

none_moved : (index : Kept) → moved_in [] index ≡ 0
none_moved [] = refl
none_moved (of_work ∷ index) = neither (moved_in_rows [] of_work.1.rows) (moved_in [] index) (none_moved_rows of_work.1.rows) (none_moved index)

pub none_judged : (es : List Entry) (e : Entry) (index : Kept) → moved_by es e ≡ [] → judged_for index es e ≡ 0
unfolding judged_for
none_judged es e index none =
    ap (λ moved. revision_steps moved (rows_of_entry es e) index) none
    ∙ ap (λ (rows : List RefRow). revision_steps [] rows index) (none_handed_in es e none)
    ∙ neither 0 (moved_in [] (all_staying [] index)) refl (none_moved (all_staying [] index))

-- an index of a register without such an entry is one of the register with it
pub index_rests : (es : List Entry) (e : Entry) (index : Kept) → is_legal (es ++ e ∷ []) ≡ true → moved_by es e ≡ [] → IsIndexOf es index → IsIndexOf (es ++ e ∷ []) index
index_rests es e index legal none of_register =
    subst (IsIndexOf (es ++ e ∷ [])) (nothing_revised (missing (es ++ e ∷ [])) index)
    (revision_follows es (es ++ e ∷ []) [] [] index of_register
    (subst (λ moved. FollowsChange es (es ++ e ∷ []) moved []) none
    (subst (λ (rows : List RefRow). FollowsChange es (es ++ e ∷ []) (moved_by es e) rows) (none_handed_in es e none) (entry_hands_in es e legal))))
