-- What a work has after a revision: what stays of it, and what was handed in.
use Rattle.std.proofs.Common.{◌≡◌, ◌∙◌, ℕ, sym, ap, refl, Bool, true, false, cond, List, [], ◌∷◌, ◌++◌, map, append_assoc}
use Rattle.std.specs.Prelude.{Option, Some, None}
use Rattle.std.specs.BTreeMap.{insert_entry, is_at}
use Rattle.std.specs.Cmp.Lexicographic.{slice_cmp}
use Rattle.std.specs.Map.{lookup}
use Rattle.std.specs.Option.{option_map_or}
use Rattle.std.specs.Ordering.{is_eq, match_ordering, nat_cmp}
use Rattle.std.specs.Str.{bytes_eq}
use Rattle.std.specs.declared.cmp.Ordering.{Ordering}
use Rattle.std.specs.declared.cmp.Ordering.TheVariants.{Less, Equal, Greater}
use Rattle.std.proofs.lemmas.List.{append-nil}
use Rattle.std.proofs.lemmas.Map.Text.{is_eq-slice_cmp}
use Rattle.std.proofs.lemmas.Slice.Eq.{bytes_eq-Decides}
use Rattle.law_refs.specs.Index.{Kept, all_again, all_staying, first_day, kept_of, put, put_all, revised, rows_that_stay, staying, with_row_behind}
use Rattle.law_refs.specs.Judging.{Answers}
use Rattle.law_refs.specs.Right.{rows_for, rows_of}
use Rattle.law_refs.specs.Rows.{again_row, again_work, day_row}
use Rattle.law_refs.specs.declared.ref_row.DayRefs.{DayRefs}
use Rattle.law_refs.specs.declared.ref_row.RefRow.{RefRow}
use Rattle.law_refs.specs.declared.ref_row.WorkRefs.{WorkRefs}

pub same_work : (k l : List ℕ) → is_eq (slice_cmp nat_cmp k l) ≡ true → k ≡ l
same_work k l same = (bytes_eq-Decides k l).0 (sym (is_eq-slice_cmp k l) ∙ same)

found_twice : {X : Type 0} (t : Bool) (here : Option X) (old left : Option X) → cond t here left ≡ cond t here (cond t old left)
found_twice true here old left = refl
found_twice false here old left = refl

-- what is found once a work is put in: its own at its key, and as before at others
pub found_after : (q k : List ℕ) (kept : WorkRefs) (index : Kept)
    → lookup (is_at (slice_cmp nat_cmp q)) (insert_entry (slice_cmp nat_cmp) index k kept) ≡ cond (is_eq (slice_cmp nat_cmp q k)) (Some kept) (lookup (is_at (slice_cmp nat_cmp q)) index)
found_after q k kept [] = refl
found_after q k kept (e ∷ es) = by (slice_cmp nat_cmp k e.0) refl (found_after q k kept es)
  where
    behind : slice_cmp nat_cmp k e.0 ≡ Greater → (t : Bool) → is_eq (slice_cmp nat_cmp q k) ≡ t
        → cond (is_eq (slice_cmp nat_cmp q e.0)) (Some e.1) (cond t (Some kept) (lookup (is_at (slice_cmp nat_cmp q)) es)) ≡ cond t (Some kept) (cond (is_eq (slice_cmp nat_cmp q e.0)) (Some e.1) (lookup (is_at (slice_cmp nat_cmp q)) es))
    behind above true same = ap (λ t. cond t (Some e.1) (Some kept)) (ap (λ x. is_eq (slice_cmp nat_cmp x e.0)) (same_work q k same) ∙ ap is_eq above)
    behind above false other = refl

    by : (o : Ordering) → slice_cmp nat_cmp k e.0 ≡ o
        → lookup (is_at (slice_cmp nat_cmp q)) (insert_entry (slice_cmp nat_cmp) es k kept) ≡ cond (is_eq (slice_cmp nat_cmp q k)) (Some kept) (lookup (is_at (slice_cmp nat_cmp q)) es)
        → lookup (is_at (slice_cmp nat_cmp q)) (match_ordering o ((k, kept) ∷ e ∷ es) ((e.0, kept) ∷ es) (e ∷ insert_entry (slice_cmp nat_cmp) es k kept))
        ≡ cond (is_eq (slice_cmp nat_cmp q k)) (Some kept) (cond (is_eq (slice_cmp nat_cmp q e.0)) (Some e.1) (lookup (is_at (slice_cmp nat_cmp q)) es))
    by Less below rest = refl
    by Equal same rest =
        found_twice (is_eq (slice_cmp nat_cmp q e.0)) (Some kept) (Some e.1) (lookup (is_at (slice_cmp nat_cmp q)) es)
        ∙ ap (λ x. cond (is_eq (slice_cmp nat_cmp q x)) (Some kept) (cond (is_eq (slice_cmp nat_cmp q e.0)) (Some e.1) (lookup (is_at (slice_cmp nat_cmp q)) es))) (sym (same_work k e.0 (ap is_eq same)))
    by Greater above rest =
        ap (λ left. cond (is_eq (slice_cmp nat_cmp q e.0)) (Some e.1) left) rest
        ∙ behind above (is_eq (slice_cmp nat_cmp q k)) refl

abbrev rows_in : Option WorkRefs → List DayRefs
rows_in kept = option_map_or (λ one. one.rows) kept []

behind_rows : (day : ℕ) (row : DayRefs) (kept : Option WorkRefs) → (with_row_behind day row kept).rows ≡ rows_in kept ++ row ∷ []
behind_rows day row None = refl
behind_rows day row (Some kept) = refl

pub flipped : (k l : List ℕ) → is_eq (slice_cmp nat_cmp k l) ≡ bytes_eq l k
flipped k l = is_eq-slice_cmp k l ∙ by (bytes_eq k l) (bytes_eq l k) refl refl
  where
    by : (s t : Bool) → bytes_eq k l ≡ s → bytes_eq l k ≡ t → s ≡ t
    by true true first second = refl
    by false false first second = refl
    by true false first second = sym ((bytes_eq-Decides l k).1 (sym ((bytes_eq-Decides k l).0 first))) ∙ second
    by false true first second = sym first ∙ (bytes_eq-Decides k l).1 (sym ((bytes_eq-Decides l k).0 second))

put_rows : (answers : Answers) (work : List ℕ) (index : Kept) (row : RefRow)
    → rows_of work (put answers index row) ≡ rows_of work index ++ cond (bytes_eq row.work work) (day_row answers row ∷ []) []
unfolding put
put_rows answers work index row =
    ap rows_in (found_after work row.work (with_row_behind row.act_day (day_row answers row) (kept_of row.work index)) index)
    ∙ by (is_eq (slice_cmp nat_cmp work row.work)) refl
  where
    by : (t : Bool) → is_eq (slice_cmp nat_cmp work row.work) ≡ t
        → rows_in (cond t (Some (with_row_behind row.act_day (day_row answers row) (kept_of row.work index))) (kept_of work index))
        ≡ rows_in (kept_of work index) ++ cond (bytes_eq row.work work) (day_row answers row ∷ []) []
    by true same =
        behind_rows row.act_day (day_row answers row) (kept_of row.work index)
        ∙ ap (λ x. rows_in (kept_of x index) ++ day_row answers row ∷ []) (sym (same_work work row.work same))
        ∙ ap (λ t. rows_in (kept_of work index) ++ cond t (day_row answers row ∷ []) []) (sym same ∙ flipped work row.work)
    by false other =
        sym (append-nil (rows_in (kept_of work index)))
        ∙ ap (λ t. rows_in (kept_of work index) ++ cond t (day_row answers row ∷ []) []) (sym other ∙ flipped work row.work)

put_all_rows : (answers : Answers) (work : List ℕ) (index : Kept) (rows : List RefRow) → rows_of work (put_all answers index rows) ≡ rows_of work index ++ rows_for answers work rows
put_all_rows answers work index [] = sym (append-nil (rows_of work index))
put_all_rows answers work index (row ∷ rows) =
    put_all_rows answers work (put answers index row) rows
    ∙ ap (λ first. first ++ rows_for answers work rows) (put_rows answers work index row)
    ∙ append_assoc (rows_of work index) (cond (bytes_eq row.work work) (day_row answers row ∷ []) []) (rows_for answers work rows)

kept_again : (answers : Answers) (moved : List (List ℕ)) (given : List RefRow) (work : List ℕ) (kept : WorkRefs)
    → (again_work answers moved (staying given work kept)).rows ≡ map (again_row answers moved) (rows_that_stay (first_day work given) kept.rows)
unfolding again_work staying
kept_again answers moved given work kept = refl

none_stay : (day : Option (Option ℕ)) → rows_that_stay day [] ≡ []
none_stay None = refl
none_stay (Some day) = refl

staying_rows : (answers : Answers) (moved : List (List ℕ)) (given : List RefRow) (work : List ℕ) (index : Kept)
    → rows_of work (all_again answers moved (all_staying given index)) ≡ map (again_row answers moved) (rows_that_stay (first_day work given) (rows_of work index))
staying_rows answers moved given work [] = sym (ap (map (again_row answers moved)) (none_stay (first_day work given)))
staying_rows answers moved given work (e ∷ es) = by (is_eq (slice_cmp nat_cmp work e.0)) refl (staying_rows answers moved given work es)
  where
    by : (t : Bool) → is_eq (slice_cmp nat_cmp work e.0) ≡ t
        → rows_of work (all_again answers moved (all_staying given es)) ≡ map (again_row answers moved) (rows_that_stay (first_day work given) (rows_of work es))
        → rows_in (cond t (Some (again_work answers moved (staying given e.0 e.1))) (kept_of work (all_again answers moved (all_staying given es))))
        ≡ map (again_row answers moved) (rows_that_stay (first_day work given) (rows_in (cond t (Some e.1) (kept_of work es))))
    by true same rest =
        kept_again answers moved given e.0 e.1
        ∙ ap (λ x. map (again_row answers moved) (rows_that_stay (first_day x given) e.1.rows)) (sym (same_work work e.0 same))
    by false other rest = rest

-- after a revision a work has what stays of it, and behind that what was handed in
pub handed_in : (answers : Answers) (moved : List (List ℕ)) (rows : List RefRow) (index : Kept) (work : List ℕ)
    → rows_of work (revised answers moved rows index) ≡ map (again_row answers moved) (rows_that_stay (first_day work rows) (rows_of work index)) ++ rows_for answers work rows
unfolding revised
handed_in answers moved rows index work =
    put_all_rows answers work (all_again answers moved (all_staying rows index)) rows
    ∙ ap (λ first. first ++ rows_for answers work rows) (staying_rows answers moved rows work index)
