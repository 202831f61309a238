-- An index of a register stays one through a revision by what is handed in.
use Rattle.std.proofs.Common.{◌≡◌, ◌∙◌, ℕ, ◌≤◌, sym, ap, refl, subst, Bool, true, false, cond, List, [], ◌∷◌, ◌++◌, map, append_assoc, arith}
use Rattle.std.specs.Prelude.{Option, Some, None}
use Rattle.std.specs.Cmp.Lexicographic.{slice_cmp}
use Rattle.std.specs.List.{AllByRecursion}
use Rattle.std.specs.Option.{option_map}
use Rattle.std.specs.Ordering.{is_eq, nat_cmp}
use Rattle.std.specs.Str.{bytes_eq}
use Rattle.std.proofs.lemmas.Bool.{lt-leb, leb-false, ltb-false}
use Rattle.std.proofs.lemmas.List.{append-nil}
use Rattle.law_register.specs.declared.register.entry.Entry.{Entry}
use Rattle.law_register.specs.declared.register.known.Known.{Known}
use Rattle.law_register.specs.Provisions.Carrying.{held_now}
use Rattle.law_refs.specs.Index.{Kept, all_again, all_staying, first_day, kept_of, put, put_all, revised, rows_that_stay, staying, with_row_behind}
use Rattle.law_refs.specs.Judging.{Answers, judged, judged_again}
use Rattle.law_refs.specs.Missing.{missing, refs_in_force}
use Rattle.law_refs.specs.OfRegister.{AreRowsFor, FollowsChange, HasSameRefs, IsHandedIn, IsIndexOf, Matches, SameRefs, latest_given, rows_given, unjudged}
use Rattle.law_refs.specs.Rows.{again_row, again_work, day_row, has_begun, is_before, latest, rows_before}
use Rattle.law_refs.specs.declared.node_ref.JudgedRef.{JudgedRef}
use Rattle.law_refs.specs.declared.node_ref.NodeRef.{NodeRef}
use Rattle.law_refs.specs.declared.ref_row.DayRefs.{DayRefs}
use Rattle.law_refs.specs.declared.ref_row.RefRow.{RefRow}
use Rattle.law_refs.specs.declared.ref_row.WorkRefs.{WorkRefs}
use Rattle.law_refs.proofs.Anew.{revision_right}
use Rattle.law_refs.proofs.Handed.{flipped, found_after, same_work}

-- ---- the references of rows as texts have them

abbrev refs_of : List JudgedRef → List NodeRef
refs_of refs = map unjudged refs

-- the references of the last row that has begun
abbrev seen : ℕ → List NodeRef → List DayRefs → List NodeRef
seen day found [] = found
seen day found (row ∷ rows) = seen day (cond (has_begun row.from day) (refs_of row.refs) found) rows

chosen : (t : Bool) (here found : List JudgedRef) → refs_of (cond t here found) ≡ cond t (refs_of here) (refs_of found)
chosen true here found = refl
chosen false here found = refl

as_seen : (day : ℕ) (found : List JudgedRef) (rows : List DayRefs) → refs_of (latest day found rows) ≡ seen day (refs_of found) rows
as_seen day found [] = refl
as_seen day found (row ∷ rows) =
    as_seen day (cond (has_begun row.from day) row.refs found) rows
    ∙ ap (λ refs. seen day refs rows) (chosen (has_begun row.from day) row.refs found)

seen_both : (day : ℕ) (found : List NodeRef) (first second : List DayRefs) → seen day found (first ++ second) ≡ seen day (seen day found first) second
seen_both day found [] second = refl
seen_both day found (row ∷ first) second = seen_both day (cond (has_begun row.from day) (refs_of row.refs) found) first second

refs_again : (answers : Answers) (moved : List (List ℕ)) (refs : List JudgedRef) → refs_of (map (judged_again answers moved) refs) ≡ refs_of refs
unfolding judged_again
refs_again answers moved [] = refl
refs_again answers moved (kept ∷ refs) = ap (λ rest. unjudged kept ∷ rest) (refs_again answers moved refs)

seen_again : (answers : Answers) (moved : List (List ℕ)) (day : ℕ) (found : List NodeRef) (rows : List DayRefs) → seen day found (map (again_row answers moved) rows) ≡ seen day found rows
unfolding again_row
seen_again answers moved day found [] = refl
seen_again answers moved day found (row ∷ rows) =
    ap (λ refs. seen day (cond (has_begun row.from day) refs found) (map (again_row answers moved) rows)) (refs_again answers moved row.refs)
    ∙ seen_again answers moved day (cond (has_begun row.from day) (refs_of row.refs) found) rows

refs_judged : (answers : Answers) (refs : List NodeRef) → refs_of (map (judged answers) refs) ≡ refs
unfolding judged
refs_judged answers [] = refl
refs_judged answers (one ∷ refs) = ap (λ rest. one ∷ rest) (refs_judged answers refs)

seen_new : (answers : Answers) (day : ℕ) (found : List NodeRef) (rows : List RefRow) → seen day found (map (day_row answers) rows) ≡ latest_given day found rows
unfolding day_row
seen_new answers day found [] = refl
seen_new answers day found (row ∷ rows) =
    ap (λ refs. seen day (cond (has_begun row.from day) refs found) (map (day_row answers) rows)) (refs_judged answers row.refs)
    ∙ seen_new answers day (cond (has_begun row.from day) row.refs found) rows

-- ---- days

-- what does not begin before a day that has not come has not begun
not_begun : (from row : Option ℕ) (day : ℕ) → is_before row from ≡ false → has_begun from day ≡ false → has_begun row day ≡ false
unfolding is_before has_begun
not_begun None row day late wrong = absurd (let no : true ≡ false = wrong in cc)
not_begun (Some from) None day wrong early = absurd (let no : true ≡ false = wrong in cc)
not_begun (Some from) (Some row) day late early = lt-leb row day (omega (arith, ltb-false row from late, leb-false from day early))

seen_before : (from : Option ℕ) (day : ℕ) → has_begun from day ≡ false → (found : List NodeRef) (rows : List DayRefs) → seen day found (rows_before from rows) ≡ seen day found rows
seen_before from day early found [] = refl
seen_before from day early found (row ∷ rows) =
    by (is_before row.from from) refl
    (seen_before from day early (cond (has_begun row.from day) (refs_of row.refs) found) rows)
    (seen_before from day early found rows)
  where
    by : (t : Bool) → is_before row.from from ≡ t
        → seen day (cond (has_begun row.from day) (refs_of row.refs) found) (rows_before from rows) ≡ seen day (cond (has_begun row.from day) (refs_of row.refs) found) rows
        → seen day found (rows_before from rows) ≡ seen day found rows
        → seen day found (cond t (row ∷ rows_before from rows) (rows_before from rows)) ≡ seen day (cond (has_begun row.from day) (refs_of row.refs) found) rows
    by true before kept rest = kept
    by false late kept rest =
        rest ∙ ap (λ t. seen day (cond t (refs_of row.refs) found) rows) (sym (not_begun from row.from day late early))

none_given : (from : Option ℕ) (day : ℕ) → has_begun from day ≡ false → (found : List NodeRef) (rows : List RefRow) → AllByRecursion (λ row. is_before row.from from ≡ false) rows → latest_given day found rows ≡ found
none_given from day early found [] late = refl
none_given from day early found (row ∷ rows) late =
    ap (λ t. latest_given day (cond t row.refs found) rows) (not_begun from row.from day late.0 early)
    ∙ none_given from day early found rows late.1

-- ---- the rows that are handed in for a work

abbrev BeginsOn : Option ℕ → List RefRow → Type 0
BeginsOn from [] = ⊥
BeginsOn from (row ∷ rows) = row.from ≡ from

abbrev day_or : Option ℕ → Option (Option ℕ) → Option ℕ
day_or other None = other
day_or other (Some day) = day

begins_on : (work : List ℕ) (rows : List RefRow) (from : Option ℕ) → first_day work rows ≡ Some from → BeginsOn from (rows_given work rows)
begins_on work [] from first = absurd (let no : None ≡ Some from = first in cc)
begins_on work (row ∷ rows) from first = by (bytes_eq row.work work) first (begins_on work rows from)
  where
    by : (t : Bool) → cond t (Some row.from) (first_day work rows) ≡ Some from → (first_day work rows ≡ Some from → BeginsOn from (rows_given work rows))
        → BeginsOn from (cond t (row ∷ []) [] ++ rows_given work rows)
    by true here rest = ap (day_or from) here
    by false later rest = rest later

pub nothing_given : (work : List ℕ) (rows : List RefRow) → first_day work rows ≡ None → rows_given work rows ≡ []
nothing_given work [] none = refl
nothing_given work (row ∷ rows) none = by (bytes_eq row.work work) none (nothing_given work rows)
  where
    by : (t : Bool) → cond t (Some row.from) (first_day work rows) ≡ None → (first_day work rows ≡ None → rows_given work rows ≡ [])
        → cond t (row ∷ []) [] ++ rows_given work rows ≡ []
    by true wrong rest = absurd (let no : Some row.from ≡ None = wrong in cc)
    by false later rest = rest later

-- once the first has begun, what was found before is gone
given_alone : (from : Option ℕ) (day : ℕ) → has_begun from day ≡ true → (rows : List RefRow) → BeginsOn from rows → (found other : List NodeRef) → latest_given day found rows ≡ latest_given day other rows
given_alone from day begun [] none found other = absurd none
given_alone from day begun (row ∷ rows) first found other =
    let now : has_begun row.from day ≡ true = ap (λ x. has_begun x day) first ∙ begun in
    ap (λ t. latest_given day (cond t row.refs found) rows) now
    ∙ sym (ap (λ t. latest_given day (cond t row.refs other) rows) now)

-- ---- what is kept of a work after a revision

abbrev behind_all : Answers → List RefRow → Option WorkRefs → Option WorkRefs
behind_all answers [] kept = kept
behind_all answers (row ∷ rows) kept = behind_all answers rows (Some (with_row_behind row.act_day (day_row answers row) kept))

put_kept : (answers : Answers) (work : List ℕ) (index : Kept) (row : RefRow)
    → kept_of work (put answers index row) ≡ cond (bytes_eq row.work work) (Some (with_row_behind row.act_day (day_row answers row) (kept_of work index))) (kept_of work index)
unfolding put
put_kept answers work index row =
    found_after work row.work (with_row_behind row.act_day (day_row answers row) (kept_of row.work index)) index
    ∙ by (is_eq (slice_cmp nat_cmp work row.work)) refl
    ∙ ap (λ t. cond t (Some (with_row_behind row.act_day (day_row answers row) (kept_of work index))) (kept_of work index)) (flipped work row.work)
  where
    by : (t : Bool) → is_eq (slice_cmp nat_cmp work row.work) ≡ t
        → cond t (Some (with_row_behind row.act_day (day_row answers row) (kept_of row.work index))) (kept_of work index)
        ≡ cond t (Some (with_row_behind row.act_day (day_row answers row) (kept_of work index))) (kept_of work index)
    by true same = ap (λ w. Some (with_row_behind row.act_day (day_row answers row) (kept_of w index))) (sym (same_work work row.work same))
    by false other = refl

put_all_kept : (answers : Answers) (work : List ℕ) (index : Kept) (rows : List RefRow) → kept_of work (put_all answers index rows) ≡ behind_all answers (rows_given work rows) (kept_of work index)
put_all_kept answers work index [] = refl
put_all_kept answers work index (row ∷ rows) =
    put_all_kept answers work (put answers index row) rows
    ∙ ap (behind_all answers (rows_given work rows)) (put_kept answers work index row)
    ∙ by (bytes_eq row.work work)
  where
    by : (t : Bool) → behind_all answers (rows_given work rows) (cond t (Some (with_row_behind row.act_day (day_row answers row) (kept_of work index))) (kept_of work index))
        ≡ behind_all answers (cond t (row ∷ []) [] ++ rows_given work rows) (kept_of work index)
    by true = refl
    by false = refl

abbrev stays_again : Answers → List (List ℕ) → Option (Option ℕ) → WorkRefs → WorkRefs
stays_again answers moved first kept = record { act_day = kept.act_day; rows = map (again_row answers moved) (rows_that_stay first kept.rows) }

stays_kept : (answers : Answers) (moved : List (List ℕ)) (given : List RefRow) (work : List ℕ) (index : Kept)
    → kept_of work (all_again answers moved (all_staying given index)) ≡ option_map (stays_again answers moved (first_day work given)) (kept_of work index)
unfolding again_work staying
stays_kept answers moved given work [] = refl
stays_kept answers moved given work (e ∷ es) = by (is_eq (slice_cmp nat_cmp work e.0)) refl (stays_kept answers moved given work es)
  where
    by : (t : Bool) → is_eq (slice_cmp nat_cmp work e.0) ≡ t
        → kept_of work (all_again answers moved (all_staying given es)) ≡ option_map (stays_again answers moved (first_day work given)) (kept_of work es)
        → cond t (Some (again_work answers moved (staying given e.0 e.1))) (kept_of work (all_again answers moved (all_staying given es)))
        ≡ option_map (stays_again answers moved (first_day work given)) (cond t (Some e.1) (kept_of work es))
    by true same rest = ap (λ w. Some (stays_again answers moved (first_day w given) e.1)) (sym (same_work work e.0 same))
    by false other rest = rest

-- rows behind what is kept
abbrev IsBehind : ℕ → List DayRefs → Option WorkRefs → Type 0
IsBehind act_day rows None = ⊥
IsBehind act_day rows (Some kept) = (kept.act_day ≡ act_day) × (kept.rows ≡ rows)

all_behind : (answers : Answers) (act_day : ℕ) (rows : List RefRow) (kept : WorkRefs) → kept.act_day ≡ act_day → AllByRecursion (λ row. row.act_day ≡ act_day) rows
    → IsBehind act_day (kept.rows ++ map (day_row answers) rows) (behind_all answers rows (Some kept))
all_behind answers act_day [] kept day days = (day, sym (append-nil kept.rows))
all_behind answers act_day (row ∷ rows) kept day days =
    subst (λ all. IsBehind act_day all (behind_all answers rows (Some (with_row_behind row.act_day (day_row answers row) (Some kept)))))
    (append_assoc kept.rows (day_row answers row ∷ []) (map (day_row answers) rows))
    (all_behind answers act_day rows (with_row_behind row.act_day (day_row answers row) (Some kept)) days.0 days.1)

-- what stays of a work, or no row
abbrev staying_rows : Answers → List (List ℕ) → Option ℕ → Option WorkRefs → List DayRefs
staying_rows answers moved from None = []
staying_rows answers moved from (Some kept) = map (again_row answers moved) (rows_before from kept.rows)

given_behind : (answers : Answers) (moved : List (List ℕ)) (act_day : ℕ) (from : Option ℕ) (rows : List RefRow) (kept : Option WorkRefs)
    → BeginsOn from rows → AllByRecursion (λ row. row.act_day ≡ act_day) rows
    → IsBehind act_day (staying_rows answers moved from kept ++ map (day_row answers) rows) (behind_all answers rows (option_map (stays_again answers moved (Some from)) kept))
given_behind answers moved act_day from [] kept none days = absurd none
given_behind answers moved act_day from (row ∷ rows) None first days =
    all_behind answers act_day rows (with_row_behind row.act_day (day_row answers row) None) days.0 days.1
given_behind answers moved act_day from (row ∷ rows) (Some kept) first days =
    subst (λ all. IsBehind act_day all (behind_all answers rows (Some (with_row_behind row.act_day (day_row answers row) (Some (stays_again answers moved (Some from) kept))))))
    (append_assoc (map (again_row answers moved) (rows_before from kept.rows)) (day_row answers row ∷ []) (map (day_row answers) rows))
    (all_behind answers act_day rows (with_row_behind row.act_day (day_row answers row) (Some (stays_again answers moved (Some from) kept))) days.0 days.1)

-- ---- it is for what is known then

seen_staying : (answers : Answers) (moved : List (List ℕ)) (from : Option ℕ) (day : ℕ) (old : Option Known) (new : Known) (kept : Option WorkRefs)
    → Matches old kept → 1 ≤ day → has_begun from day ≡ false → SameRefs day old new → seen day [] (staying_rows answers moved from kept) ≡ refs_in_force new day
seen_staying answers moved from day None new kept matches real early none = absurd none
seen_staying answers moved from day (Some old) new None none real early same = absurd none
seen_staying answers moved from day (Some old) new (Some kept) for real early same =
    seen_again answers moved day [] (rows_before from kept.rows)
    ∙ seen_before from day early [] kept.rows
    ∙ sym (as_seen day [] kept.rows)
    ∙ for.texts day real
    ∙ same

seen_given : (answers : Answers) (moved : List (List ℕ)) (old : Option Known) (new : Known) (kept : Option WorkRefs) (from : Option ℕ) (rows : List RefRow)
    → Matches old kept → BeginsOn from rows → AreRowsFor old new from rows
    → (day : ℕ) → 1 ≤ day → seen day [] (staying_rows answers moved from kept ++ map (day_row answers) rows) ≡ refs_in_force new day
seen_given answers moved old new kept from rows matches first for day real =
    seen_both day [] (staying_rows answers moved from kept) (map (day_row answers) rows)
    ∙ seen_new answers day (seen day [] (staying_rows answers moved from kept)) rows
    ∙ by (has_begun from day) refl
  where
    by : (t : Bool) → has_begun from day ≡ t → latest_given day (seen day [] (staying_rows answers moved from kept)) rows ≡ refs_in_force new day
    by true begun = given_alone from day begun rows first (seen day [] (staying_rows answers moved from kept)) [] ∙ for.texts day real begun
    by false early =
        none_given from day early (seen day [] (staying_rows answers moved from kept)) rows for.days
        ∙ seen_staying answers moved from day old new kept matches real early (for.earlier day real early)

behind_for : (new : Known) (rows : List DayRefs) (kept : Option WorkRefs) → IsBehind new.act.day rows kept → ((day : ℕ) → 1 ≤ day → seen day [] rows ≡ refs_in_force new day) → Matches (Some new) kept
behind_for new rows None none texts = absurd none
behind_for new rows (Some kept) behind texts = record {
  act_day = behind.0;
  texts = λ day real. as_seen day [] kept.rows ∙ ap (seen day []) behind.1 ∙ texts day real;
}

given_for : (answers : Answers) (moved : List (List ℕ)) (old new : Option Known) (kept : Option WorkRefs) (from : Option ℕ) (rows : List RefRow)
    → Matches old kept → BeginsOn from rows → IsHandedIn old new (Some from) rows
    → Matches new (behind_all answers rows (option_map (stays_again answers moved (Some from)) kept))
given_for answers moved old None kept from rows matches first none = absurd none
given_for answers moved old (Some new) kept from rows matches first for =
    behind_for new (staying_rows answers moved from kept ++ map (day_row answers) rows) (behind_all answers rows (option_map (stays_again answers moved (Some from)) kept))
    (given_behind answers moved new.act.day from rows kept first for.act_day)
    (seen_given answers moved old new kept from rows matches first for)

still_for : (answers : Answers) (moved : List (List ℕ)) (old new : Option Known) (kept : Option WorkRefs) → Matches old kept → HasSameRefs old new
    → Matches new (option_map (stays_again answers moved None) kept)
still_for answers moved None None None matches same = tt
still_for answers moved None None (Some kept) none same = absurd none
still_for answers moved None (Some new) kept matches none = absurd none
still_for answers moved (Some old) None kept matches none = absurd none
still_for answers moved (Some old) (Some new) None none same = absurd none
still_for answers moved (Some old) (Some new) (Some kept) for same = record {
  act_day = for.act_day ∙ same.0;
  texts = λ day real. as_seen day [] (map (again_row answers moved) kept.rows) ∙ seen_again answers moved day [] kept.rows
      ∙ sym (as_seen day [] kept.rows) ∙ for.texts day real ∙ same.1 day real;
}

work_for : (answers : Answers) (moved : List (List ℕ)) (old new : Option Known) (kept : Option WorkRefs) (work : List ℕ) (given : List RefRow) (first : Option (Option ℕ))
    → first_day work given ≡ first → Matches old kept → IsHandedIn old new first (rows_given work given)
    → Matches new (behind_all answers (rows_given work given) (option_map (stays_again answers moved first) kept))
work_for answers moved old new kept work given None none matches same =
    subst (λ rows. Matches new (behind_all answers rows (option_map (stays_again answers moved None) kept))) (sym (nothing_given work given none))
    (still_for answers moved old new kept matches same)
work_for answers moved old new kept work given (Some from) first matches for =
    given_for answers moved old new kept from (rows_given work given) matches (begins_on work given from first) for

-- an index of a register is one of the register then
pub revision_follows : (before after : List Entry) (moved : List (List ℕ)) (rows : List RefRow) (index : Kept)
    → IsIndexOf before index → FollowsChange before after moved rows → IsIndexOf after (revised (missing after) moved rows index)
unfolding revised
revision_follows before after moved rows index of_register change = record {
  kept = λ work. subst (Matches (held_now after work))
      (sym (put_all_kept (missing after) work (all_again (missing after) moved (all_staying rows index)) rows
      ∙ ap (behind_all (missing after) (rows_given work rows)) (stays_kept (missing after) moved rows work index)))
      (work_for (missing after) moved (held_now before work) (held_now after work) (kept_of work index) work rows (first_day work rows) refl
      (of_register.kept work) (change.given work));
  right = revision_right (missing before) (missing after) moved rows index of_register.right change.targets;
}
