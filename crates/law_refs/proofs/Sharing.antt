-- What was judged of a text is shared with the next one that has its references: what is kept then is right, so they have what breaks their
-- targets.
use Rattle.std.proofs.Common.{◌≡◌, ◌∙◌, ℕ, zero, suc, ◌-◌, sym, ap, ap₂, refl, subst, Bool, true, false, cond, List, [], ◌∷◌, ◌++◌, length, map, IfSome}
use Rattle.std.specs.Prelude.{Option, Some, None}
use Rattle.std.specs.List.{list_all, slice_get}
use Rattle.std.specs.BTreeMap.{insert_entry, is_at}
use Rattle.std.specs.Cmp.Lexicographic.{slice_cmp}
use Rattle.std.specs.Option.{option_map}
use Rattle.std.specs.Ordering.{nat_cmp}
use Rattle.std.specs.Str.{bytes_eq}
use Rattle.std.proofs.lemmas.Bool.{and_from, and_parts, true≢false}
use Rattle.std.proofs.lemmas.List.Folds.{list_all-append}
use Rattle.std.proofs.lemmas.Map.Made.{lookup-map_values}
use Rattle.std.proofs.lemmas.Slice.Eq.{bytes_eq-Decides}
use Rattle.law_refs.specs.Covering.{cover, is_covered}
use Rattle.law_refs.specs.Index.{Kept, all_again, all_staying, first_day, kept_of, put, rows_that_stay, staying, with_row_behind}
use Rattle.law_refs.specs.Judging.{Answers, are_those, cause_of, is_that, judged}
use Rattle.law_refs.specs.Right.{AnswerAsBefore, IsRight, IsRightBut, anew, anew_ref, anew_row, anew_work}
use Rattle.law_refs.specs.Rows.{again_row, again_work, day_row, is_before, last_refs, rows_before}
use Rattle.law_refs.specs.declared.node_ref.JudgedRef.{JudgedRef}
use Rattle.law_refs.specs.declared.node_ref.NodeRef.{NodeRef}
use Rattle.law_refs.specs.declared.ref_row.DayRefs.{DayRefs}
use Rattle.law_refs.specs.declared.ref_row.RefRow.{RefRow}
use Rattle.law_refs.specs.declared.ref_row.WorkRefs.{WorkRefs}
use Rattle.law_refs.proofs.Anew.{all_staying_anew, behind_anew, index_again, put_anew, twice}

abbrev judged_as : List ℕ → List ℕ → Option ℕ → JudgedRef
judged_as eid iri cause = record { eid = eid; iri = iri; cause = cause }

abbrev pub row_from : Option ℕ → List JudgedRef → DayRefs
row_from from refs = record { from = from; refs = refs }

abbrev work_with : ℕ → List DayRefs → WorkRefs
work_with act_day rows = record { act_day = act_day; rows = rows }

-- ---- items

abbrev first_or : {X : Type 0} → X → List X → X
first_or other [] = other
first_or other (x ∷ xs) = x

abbrev others_of : {X : Type 0} → List X → List X
others_of [] = []
others_of (x ∷ xs) = xs

abbrev value_or : {X : Type 0} → X → Option X → X
value_or other None = other
value_or other (Some x) = x

-- what leaves a list as it is leaves each item
item_stays : {X : Type 0} (f : X → X) (xs : List X) (k : ℕ) (x : X) → map f xs ≡ xs → slice_get xs k ≡ Some x → f x ≡ x
item_stays f [] k x same at = absurd (let wrong : None ≡ Some x = at in cc)
item_stays f (y ∷ ys) zero x same at = subst (λ v. f v ≡ v) (ap (value_or y) at) (ap (first_or y) same)
item_stays f (y ∷ ys) (suc k) x same at = item_stays f ys k x (ap others_of same) at

-- what holds of all holds of each
item_has : {X : Type 0} (p : X → Bool) (xs : List X) (k : ℕ) (x : X) → list_all p xs ≡ true → slice_get xs k ≡ Some x → p x ≡ true
item_has p [] k x all at = absurd (let wrong : None ≡ Some x = at in cc)
item_has p (y ∷ ys) zero x all at = ap p (sym (ap (value_or y) at)) ∙ (and_parts (p y) (list_all p ys) all).0
item_has p (y ∷ ys) (suc k) x all at = item_has p ys k x (and_parts (p y) (list_all p ys) all).1 at

-- ---- the last row

last_right : (answers : Answers) (rows : List DayRefs) (list : List JudgedRef) → map (anew_row answers) rows ≡ rows → last_refs rows ≡ Some list
    → map (anew_ref answers) list ≡ list
unfolding last_refs anew_row
last_right answers rows list right last = by (slice_get rows (length rows - 1)) refl last
  where
    by : (found : Option DayRefs) → slice_get rows (length rows - 1) ≡ found → option_map (λ (row : DayRefs). row.refs) found ≡ Some list
        → map (anew_ref answers) list ≡ list
    by None at wrong = absurd (let no : None ≡ Some list = wrong in cc)
    by (Some row) at is =
        subst (λ (refs : List JudgedRef). map (anew_ref answers) refs ≡ refs) (ap (value_or row.refs) is)
        (ap (λ (one : DayRefs). one.refs) (item_stays (anew_row answers) rows (length rows - 1) row right at))

last_covered : (names : List (List ℕ)) (rows : List DayRefs) (list : List JudgedRef) → cover names rows ≡ true → last_refs rows ≡ Some list
    → list_all (λ (kept : JudgedRef). is_covered names kept.iri) list ≡ true
unfolding last_refs
last_covered names rows list covered last = by (slice_get rows (length rows - 1)) refl last
  where
    by : (found : Option DayRefs) → slice_get rows (length rows - 1) ≡ found → option_map (λ (row : DayRefs). row.refs) found ≡ Some list
        → list_all (λ (kept : JudgedRef). is_covered names kept.iri) list ≡ true
    by None at wrong = absurd (let no : None ≡ Some list = wrong in cc)
    by (Some row) at is =
        ap (list_all (λ (kept : JudgedRef). is_covered names kept.iri)) (sym (ap (value_or row.refs) is))
        ∙ item_has (λ (one : DayRefs). list_all (λ (kept : JudgedRef). is_covered names kept.iri) one.refs) rows (length rows - 1) row covered at

-- ---- references that were judged and those of a text

that_judged : (answers : Answers) (kept : JudgedRef) (one : NodeRef) → is_that kept one ≡ true → anew_ref answers kept ≡ judged answers one
unfolding is_that anew_ref judged
that_judged answers kept one same =
    let both = and_parts (bytes_eq kept.eid one.eid) (bytes_eq kept.iri one.iri) same in
    ap₂ (λ (eid iri : List ℕ). judged_as eid iri (cause_of answers iri))
    ((bytes_eq-Decides kept.eid one.eid).0 both.0) ((bytes_eq-Decides kept.iri one.iri).0 both.1)

those_judged : (answers : Answers) (list : List JudgedRef) (refs : List NodeRef) → are_those list refs ≡ true → map (anew_ref answers) list ≡ list
    → list ≡ map (judged answers) refs
those_judged answers [] [] same right = refl
those_judged answers [] (one ∷ refs) same right = absurd (true≢false (sym same))
those_judged answers (kept ∷ others) [] same right = absurd (true≢false (sym same))
those_judged answers (kept ∷ others) (one ∷ refs) same right =
    let both = and_parts (is_that kept one) (are_those others refs) same in
    ap₂ (λ (first : JudgedRef) (rest : List JudgedRef). first ∷ rest)
    (sym (ap (first_or kept) right) ∙ that_judged answers kept one both.0) (those_judged answers others refs both.1 (ap others_of right))

-- a row that shares what is kept of the last one is judged
pub shared_row : (answers : Answers) (kept : WorkRefs) (list : List JudgedRef) (row : RefRow) → anew_work answers kept ≡ kept
    → last_refs kept.rows ≡ Some list → are_those list row.refs ≡ true → row_from row.from list ≡ day_row answers row
unfolding anew_work day_row
shared_row answers kept list row right last same =
    ap (row_from row.from)
    (those_judged answers list row.refs same (last_right answers kept.rows list (ap (λ (w : WorkRefs). w.rows) right) last))

-- and names what is noted
pub shared_covers : (names : List (List ℕ)) (rows : List DayRefs) (list : List JudgedRef) (from : Option ℕ) → cover names rows ≡ true
    → last_refs rows ≡ Some list → cover names (rows ++ row_from from list ∷ []) ≡ true
shared_covers names rows list from covered last =
    list_all-append (λ (one : DayRefs). list_all (λ (kept : JudgedRef). is_covered names kept.iri) one.refs) rows (row_from from list ∷ [])
    ∙ and_from _ _ covered (and_from _ _ (last_covered names rows list covered last) refl)

-- ---- what is kept is right while a revision is made

module _ (answers : Answers) (moved : List (List ℕ)) where
  before_again : (day : Option ℕ) (rows : List DayRefs)
      → rows_before day (map (again_row answers moved) rows) ≡ map (again_row answers moved) (rows_before day rows)
  unfolding again_row
  before_again day [] = refl
  before_again day (row ∷ rows) = by (is_before row.from day) (before_again day rows)
    where
      by : (t : Bool) → rows_before day (map (again_row answers moved) rows) ≡ map (again_row answers moved) (rows_before day rows)
          → cond t (again_row answers moved row ∷ rows_before day (map (again_row answers moved) rows)) (rows_before day (map (again_row answers moved) rows))
          ≡ map (again_row answers moved) (cond t (row ∷ rows_before day rows) (rows_before day rows))
      by true rest = ap (λ left. again_row answers moved row ∷ left) rest
      by false rest = rest

  stay_again : (day : Option (Option ℕ)) (rows : List DayRefs)
      → rows_that_stay day (map (again_row answers moved) rows) ≡ map (again_row answers moved) (rows_that_stay day rows)
  stay_again None rows = refl
  stay_again (Some day) rows = before_again day rows

  staying_again : (given : List RefRow) (work : List ℕ) (kept : WorkRefs)
      → staying given work (again_work answers moved kept) ≡ again_work answers moved (staying given work kept)
  unfolding staying again_work
  staying_again given work kept =
      ap (work_with kept.act_day) (stay_again (first_day work given) kept.rows)

  all_staying_again : (given : List RefRow) (index : Kept)
      → all_staying given (all_again answers moved index) ≡ all_again answers moved (all_staying given index)
  all_staying_again given [] = refl
  all_staying_again given (of_work ∷ index) =
      ap₂ (λ (kept : WorkRefs) (rest : Kept). (of_work.0, kept) ∷ rest) (staying_again given of_work.0 of_work.1) (all_staying_again given index)

  -- what stays of it, once that was judged again which refers to a work that moved
  pub stays_right : (rows : List RefRow) (index : Kept) → IsRightBut answers moved index → IsRight answers (all_again answers moved (all_staying rows index))
  stays_right rows index right =
      let as_anew : all_again answers moved (all_staying rows index) ≡ anew answers (all_staying rows index) =
      sym (all_staying_again rows index) ∙ ap (all_staying rows) right ∙ all_staying_anew answers rows index in
      ap (anew answers) as_anew ∙ twice answers (all_staying rows index) ∙ sym as_anew

-- once a row is put into it
pub put_right : (answers : Answers) (old new : Kept) (row : RefRow) (work : List ℕ) (now : WorkRefs) (found : Option WorkRefs)
    → new ≡ insert_entry (slice_cmp nat_cmp) old work now → work ≡ row.work → now ≡ with_row_behind row.act_day (day_row answers row) found
    → found ≡ kept_of row.work old → IsRight answers old → IsRight answers new
unfolding put
put_right answers old new row work now found inserted named behind is right =
    let putting : new ≡ put answers old row =
    inserted ∙ ap (λ (w : List ℕ). insert_entry (slice_cmp nat_cmp) old w now) named
    ∙ ap (λ (kept : WorkRefs). insert_entry (slice_cmp nat_cmp) old row.work kept)
    (behind ∙ ap (with_row_behind row.act_day (day_row answers row)) is) in
    ap (anew answers) putting ∙ put_anew answers old row ∙ ap (λ (index : Kept). put answers index row) right ∙ sym putting

-- and of each work
pub found_right : (answers : Answers) (index : Kept) (work : List ℕ) → IsRight answers index
    → IfSome (kept_of work index) (λ (kept : WorkRefs). anew_work answers kept ≡ kept)
found_right answers index work right = by (kept_of work index) refl
  where
    by : (found : Option WorkRefs) → kept_of work index ≡ found → IfSome found (λ (kept : WorkRefs). anew_work answers kept ≡ kept)
    by None none = tt
    by (Some kept) found =
        ap (value_or kept)
        (sym (ap (option_map (anew_work answers)) found)
        ∙ sym (lookup-map_values (anew_work answers) (is_at (slice_cmp nat_cmp work)) index)
        ∙ ap (kept_of work) right
        ∙ found)

-- a right index is right but for what refers to works that moved, where all other targets are answered as before
pub right_but : (before after : Answers) (moved : List (List ℕ)) (index : Kept) → IsRight before index → AnswerAsBefore before after moved
    → IsRightBut after moved index
right_but before after moved index right agree = ap (all_again after moved) (sym right) ∙ index_again before after moved agree index
