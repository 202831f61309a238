-- Judging anew: it goes through all that is done with an index, so a revision of a right index is right.
use Rattle.std.proofs.Common.{◌≡◌, ◌∙◌, ℕ, sym, ap, refl, Bool, true, false, cond, List, [], ◌∷◌, ◌++◌, map}
use Rattle.std.specs.Prelude.{Option, Some, None, Ok, Err}
use Rattle.std.specs.BTreeMap.{insert_entry, is_at}
use Rattle.std.specs.Cmp.Lexicographic.{slice_cmp}
use Rattle.std.specs.Option.{option_map}
use Rattle.std.specs.Ordering.{match_ordering, nat_cmp}
use Rattle.std.specs.declared.cmp.Ordering.{Ordering}
use Rattle.std.specs.declared.cmp.Ordering.TheVariants.{Less, Equal, Greater}
use Rattle.std.proofs.lemmas.List.{map-append}
use Rattle.std.proofs.lemmas.Map.Made.{lookup-map_values}
use Rattle.frbr_names.specs.Expressions.{Expression, expression_of}
use Rattle.frbr_names.specs.Reads.{Read}
use Rattle.law_refs.specs.Index.{Kept, all_again, all_staying, first_day, kept_of, put, put_all, revised, rows_that_stay, staying, with_row_behind}
use Rattle.law_refs.specs.Judging.{Answers, cause_of, cause_read, is_of_one, judged, judged_again, names_one}
use Rattle.law_refs.specs.Names.{is_among}
use Rattle.law_refs.specs.Right.{AnswerAsBefore, IsRight, anew, anew_ref, anew_row, anew_work}
use Rattle.law_refs.specs.Rows.{again_row, again_work, day_row, is_before, rows_before}
use Rattle.law_refs.specs.declared.node_ref.JudgedRef.{JudgedRef}
use Rattle.law_refs.specs.declared.node_ref.NodeRef.{NodeRef}
use Rattle.law_refs.specs.declared.ref_row.DayRefs.{DayRefs}
use Rattle.law_refs.specs.declared.ref_row.RefRow.{RefRow}
use Rattle.law_refs.specs.declared.ref_row.WorkRefs.{WorkRefs}

abbrev with_cause : JudgedRef → Option ℕ → JudgedRef
with_cause kept cause = record { eid = kept.eid; iri = kept.iri; cause = cause }

abbrev with_refs : DayRefs → List JudgedRef → DayRefs
with_refs row refs = record { from = row.from; refs = refs }

abbrev with_rows : WorkRefs → List DayRefs → WorkRefs
with_rows kept rows = record { act_day = kept.act_day; rows = rows }

-- ---- what was right before these works moved is judged again as it is anew

module _ (before after : Answers) (moved : List (List ℕ)) (agree : AnswerAsBefore before after moved) where
  cause_agrees : (iri : List ℕ) → cond (names_one moved iri) (cause_of after iri) (cause_of before iri) ≡ cause_of after iri
  unfolding names_one cause_of
  cause_agrees iri = by (expression_of iri)
    where
      by_named : (target : Expression) (t : Bool) → is_among target.work.text moved ≡ t → cond t (after target) (before target) ≡ after target
      by_named target true named = refl
      by_named target false none = sym (agree target none)

      by : (read : Read Expression) → cond (is_of_one moved read) (cause_read after read) (cause_read before read) ≡ cause_read after read
      by (Ok target) = by_named target (is_among target.work.text moved) refl
      by (Err fault) = refl

  ref_again : (kept : JudgedRef) → judged_again after moved (anew_ref before kept) ≡ anew_ref after kept
  unfolding judged_again anew_ref
  ref_again kept = ap (with_cause kept) (cause_agrees kept.iri)

  refs_again : (refs : List JudgedRef) → map (judged_again after moved) (map (anew_ref before) refs) ≡ map (anew_ref after) refs
  refs_again [] = refl
  refs_again (kept ∷ refs) =
      ap (λ first. first ∷ map (judged_again after moved) (map (anew_ref before) refs)) (ref_again kept)
      ∙ ap (λ rest. anew_ref after kept ∷ rest) (refs_again refs)

  row_again : (row : DayRefs) → again_row after moved (anew_row before row) ≡ anew_row after row
  unfolding again_row anew_row
  row_again row = ap (with_refs row) (refs_again row.refs)

  rows_again : (rows : List DayRefs) → map (again_row after moved) (map (anew_row before) rows) ≡ map (anew_row after) rows
  rows_again [] = refl
  rows_again (row ∷ rows) =
      ap (λ first. first ∷ map (again_row after moved) (map (anew_row before) rows)) (row_again row)
      ∙ ap (λ rest. anew_row after row ∷ rest) (rows_again rows)

  work_again : (kept : WorkRefs) → again_work after moved (anew_work before kept) ≡ anew_work after kept
  unfolding again_work anew_work
  work_again kept = ap (with_rows kept) (rows_again kept.rows)

  pub index_again : (index : Kept) → all_again after moved (anew before index) ≡ anew after index
  index_again [] = refl
  index_again (of_work ∷ index) =
      ap (λ kept. (of_work.0, kept) ∷ all_again after moved (anew before index)) (work_again of_work.1)
      ∙ ap (λ rest. (of_work.0, anew_work after of_work.1) ∷ rest) (index_again index)

module _ (answers : Answers) where
  -- ---- what stays

  before_anew : (day : Option ℕ) (rows : List DayRefs) → rows_before day (map (anew_row answers) rows) ≡ map (anew_row answers) (rows_before day rows)
  unfolding anew_row
  before_anew day [] = refl
  before_anew day (row ∷ rows) = by (is_before row.from day) (before_anew day rows)
    where
      by : (t : Bool) → rows_before day (map (anew_row answers) rows) ≡ map (anew_row answers) (rows_before day rows)
          → cond t (anew_row answers row ∷ rows_before day (map (anew_row answers) rows)) (rows_before day (map (anew_row answers) rows))
          ≡ map (anew_row answers) (cond t (row ∷ rows_before day rows) (rows_before day rows))
      by true rest = ap (λ left. anew_row answers row ∷ left) rest
      by false rest = rest

  stay_anew : (day : Option (Option ℕ)) (rows : List DayRefs) → rows_that_stay day (map (anew_row answers) rows) ≡ map (anew_row answers) (rows_that_stay day rows)
  stay_anew None rows = refl
  stay_anew (Some day) rows = before_anew day rows

  staying_anew : (given : List RefRow) (work : List ℕ) (kept : WorkRefs) → staying given work (anew_work answers kept) ≡ anew_work answers (staying given work kept)
  unfolding staying anew_work
  staying_anew given work kept = ap (with_rows kept) (stay_anew (first_day work given) kept.rows)

  pub all_staying_anew : (given : List RefRow) (index : Kept) → all_staying given (anew answers index) ≡ anew answers (all_staying given index)
  all_staying_anew given [] = refl
  all_staying_anew given (of_work ∷ index) =
      ap (λ kept. (of_work.0, kept) ∷ all_staying given (anew answers index)) (staying_anew given of_work.0 of_work.1)
      ∙ ap (λ rest. (of_work.0, anew_work answers (staying given of_work.0 of_work.1)) ∷ rest) (all_staying_anew given index)

  -- ---- twice is once

  refs_twice : (refs : List JudgedRef) → map (anew_ref answers) (map (anew_ref answers) refs) ≡ map (anew_ref answers) refs
  unfolding anew_ref
  refs_twice [] = refl
  refs_twice (kept ∷ refs) = ap (λ rest. anew_ref answers kept ∷ rest) (refs_twice refs)

  rows_twice : (rows : List DayRefs) → map (anew_row answers) (map (anew_row answers) rows) ≡ map (anew_row answers) rows
  unfolding anew_row
  rows_twice [] = refl
  rows_twice (row ∷ rows) =
      ap (λ refs. with_refs row refs ∷ map (anew_row answers) (map (anew_row answers) rows)) (refs_twice row.refs)
      ∙ ap (λ rest. anew_row answers row ∷ rest) (rows_twice rows)

  work_twice : (kept : WorkRefs) → anew_work answers (anew_work answers kept) ≡ anew_work answers kept
  unfolding anew_work
  work_twice kept = ap (with_rows kept) (rows_twice kept.rows)

  pub twice : (index : Kept) → anew answers (anew answers index) ≡ anew answers index
  twice [] = refl
  twice (of_work ∷ index) =
      ap (λ kept. (of_work.0, kept) ∷ anew answers (anew answers index)) (work_twice of_work.1)
      ∙ ap (λ rest. (of_work.0, anew_work answers of_work.1) ∷ rest) (twice index)

  -- ---- what is put in

  refs_new : (refs : List NodeRef) → map (anew_ref answers) (map (judged answers) refs) ≡ map (judged answers) refs
  unfolding anew_ref judged
  refs_new [] = refl
  refs_new (one ∷ refs) = ap (λ rest. judged answers one ∷ rest) (refs_new refs)

  row_new : (row : RefRow) → anew_row answers (day_row answers row) ≡ day_row answers row
  unfolding anew_row day_row
  row_new row = ap (λ refs. with_refs (day_row answers row) refs) (refs_new row.refs)

  pub behind_anew : (row : RefRow) (kept : Option WorkRefs) → anew_work answers (with_row_behind row.act_day (day_row answers row) kept)
      ≡ with_row_behind row.act_day (day_row answers row) (option_map (anew_work answers) kept)
  unfolding anew_work
  behind_anew row None = ap (λ (one : DayRefs). with_rows (with_row_behind row.act_day (day_row answers row) None) (one ∷ [])) (row_new row)
  behind_anew row (Some kept) =
      ap (with_rows (with_row_behind row.act_day (day_row answers row) None))
      (map-append (anew_row answers) kept.rows (day_row answers row ∷ [])
      ∙ ap (λ (one : DayRefs). map (anew_row answers) kept.rows ++ one ∷ []) (row_new row))

  insert_anew : (index : Kept) (work : List ℕ) (kept : WorkRefs) → anew answers (insert_entry (slice_cmp nat_cmp) index work kept)
      ≡ insert_entry (slice_cmp nat_cmp) (anew answers index) work (anew_work answers kept)
  insert_anew [] work kept = refl
  insert_anew (of_work ∷ index) work kept = by (slice_cmp nat_cmp work of_work.0) (insert_anew index work kept)
    where
      by : (o : Ordering)
          → anew answers (insert_entry (slice_cmp nat_cmp) index work kept) ≡ insert_entry (slice_cmp nat_cmp) (anew answers index) work (anew_work answers kept)
          → anew answers (match_ordering o ((work, kept) ∷ of_work ∷ index) ((of_work.0, kept) ∷ index) (of_work ∷ insert_entry (slice_cmp nat_cmp) index work kept))
          ≡ match_ordering o ((work, anew_work answers kept) ∷ anew answers (of_work ∷ index)) ((of_work.0, anew_work answers kept) ∷ anew answers index)
          ((of_work.0, anew_work answers of_work.1) ∷ insert_entry (slice_cmp nat_cmp) (anew answers index) work (anew_work answers kept))
      by Less rest = refl
      by Equal rest = refl
      by Greater rest = ap (λ left. (of_work.0, anew_work answers of_work.1) ∷ left) rest

  pub put_anew : (index : Kept) (row : RefRow) → anew answers (put answers index row) ≡ put answers (anew answers index) row
  unfolding put
  put_anew index row =
      insert_anew index row.work (with_row_behind row.act_day (day_row answers row) (kept_of row.work index))
      ∙ ap (λ kept. insert_entry (slice_cmp nat_cmp) (anew answers index) row.work kept)
      (behind_anew row (kept_of row.work index)
      ∙ ap (λ kept. with_row_behind row.act_day (day_row answers row) kept)
      (sym (lookup-map_values (anew_work answers) (is_at (slice_cmp nat_cmp row.work)) index)))

  put_all_anew : (index : Kept) (rows : List RefRow) → anew answers (put_all answers index rows) ≡ put_all answers (anew answers index) rows
  put_all_anew index [] = refl
  put_all_anew index (row ∷ rows) = put_all_anew (put answers index row) rows ∙ ap (λ now. put_all answers now rows) (put_anew index row)

-- a revision of a right index is right
pub revision_right : (before after : Answers) (moved : List (List ℕ)) (rows : List RefRow) (index : Kept)
    → IsRight before index → AnswerAsBefore before after moved → IsRight after (revised after moved rows index)
unfolding revised
revision_right before after moved rows index right agree =
    put_all_anew after (all_again after moved (all_staying rows index)) rows
    ∙ ap (λ now. put_all after now rows) stays_right
  where
    stays : anew before (all_staying rows index) ≡ all_staying rows index
    stays = sym (all_staying_anew before rows index) ∙ ap (all_staying rows) right

    is_anew : all_again after moved (all_staying rows index) ≡ anew after (all_staying rows index)
    is_anew = ap (all_again after moved) (sym stays) ∙ index_again before after moved agree (all_staying rows index)

    stays_right : anew after (all_again after moved (all_staying rows index)) ≡ all_again after moved (all_staying rows index)
    stays_right = ap (anew after) is_anew ∙ twice after (all_staying rows index) ∙ sym is_anew
