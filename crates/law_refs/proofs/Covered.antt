-- What is noted covers what it covered before, and each reference that was noted.
use Rattle.std.proofs.Common.{◌≡◌, ◌∙◌, ℕ, sym, ap, ap₂, refl, subst, Bool, true, false, ◌||◌, ◌&&◌, not, cond, List, [], ◌∷◌, ◌++◌, map, inl, inr}
use Rattle.std.specs.Prelude.{◌==◌, filter, Ok, Err, Option}
use Rattle.std.specs.Cmp.Lexicographic.{pointwise}
use Rattle.std.specs.List.{list_any, list_all}
use Rattle.std.specs.Str.{bytes_eq}
use Rattle.std.proofs.lemmas.Bool.{and_from, and_parts, or_cases, or_parts, not_from_false, false_from_ne_true, true≢false}
use Rattle.std.proofs.lemmas.List.Folds.{list_any-append, list_all-append}
use Rattle.std.proofs.lemmas.Slice.Eq.{bytes_eq-Decides}
use Rattle.frbr_names.specs.Expressions.{Expression, expression_of}
use Rattle.frbr_names.specs.Reads.{Read}
use Rattle.law_refs.specs.Covering.{all_noted, are_still, cover, is_covered, is_covered_read, noted, noted_read, with_names}
use Rattle.law_refs.specs.Judging.{Answers, cause_now, cause_of, is_of_one, judged, judged_again, names_one}
use Rattle.law_refs.specs.Names.{is_among, with_name}
use Rattle.law_refs.specs.Rows.{again_row, again_work, is_before, rows_before}
use Rattle.law_refs.specs.declared.node_ref.JudgedRef.{JudgedRef}
use Rattle.law_refs.specs.declared.node_ref.NodeRef.{NodeRef}
use Rattle.law_refs.specs.declared.ref_row.DayRefs.{DayRefs}
use Rattle.law_refs.specs.declared.ref_row.WorkRefs.{WorkRefs}

-- ---- names

among_cond : (text : List ℕ) (names more : List (List ℕ)) (t : Bool) → is_among text names ≡ true → is_among text (cond t names (names ++ more)) ≡ true
among_cond text names more true found = found
among_cond text names more false found = list_any-append (bytes_eq text) names more ∙ ap (λ b. b || is_among text more) found

-- what is among names stays so where one is added
pub among_stays : (text name : List ℕ) (names : List (List ℕ)) → is_among text names ≡ true → is_among text (with_name names name) ≡ true
among_stays text name names found = among_cond text names (name ∷ []) (list_any (pointwise ◌==◌ name) names) found

new_cond : (name : List ℕ) (names : List (List ℕ)) (t : Bool) → list_any (bytes_eq name) names ≡ t → is_among name (cond t names (names ++ name ∷ [])) ≡ true
new_cond name names true found = found
new_cond name names false none =
    list_any-append (bytes_eq name) names (name ∷ [])
    ∙ ap (λ b. b || (bytes_eq name name || false)) none
    ∙ ap (λ b. b || false) ((bytes_eq-Decides name name).1 refl)

-- what is added is among them
pub among_new : (name : List ℕ) (names : List (List ℕ)) → is_among name (with_name names name) ≡ true
among_new name names = new_cond name names (list_any (pointwise ◌==◌ name) names) refl

-- what is among them is not added
stays_cond : (names more : List (List ℕ)) (t : Bool) → t ≡ true → names ≡ cond t names more
stays_cond names more true found = refl
stays_cond names more false none = absurd (true≢false (sym none))

pub name_stays : (text : List ℕ) (names : List (List ℕ)) → is_among text names ≡ true → names ≡ with_name names text
name_stays text names found = stays_cond names (names ++ text ∷ []) (list_any (pointwise ◌==◌ text) names) found

names_stay : (text : List ℕ) (names others : List (List ℕ)) → is_among text names ≡ true → is_among text (with_names names others) ≡ true
names_stay text names [] found = found
names_stay text names (work ∷ others) found = names_stay text (with_name names work) others (among_stays text work names found)

names_come : (text : List ℕ) (names others : List (List ℕ)) → is_among text others ≡ true → is_among text (with_names names others) ≡ true
names_come text names [] found = absurd cc
names_come text names (work ∷ others) found =
    elim (or_cases (bytes_eq text work) (is_among text others) found) [
      | inl here ↦ names_stay text (with_name names work) others
          (subst (λ x. is_among x (with_name names work) ≡ true) (sym ((bytes_eq-Decides text work).0 here)) (among_new work names))
      | inr later ↦ names_come text (with_name names work) others later
    ]

-- ---- what is covered

covered_stays : (iri name : List ℕ) (names : List (List ℕ)) → is_covered names iri ≡ true → is_covered (with_name names name) iri ≡ true
unfolding is_covered
covered_stays iri name names covered = by (expression_of iri) covered
  where
    by : (read : Read Expression) → is_covered_read names read ≡ true → is_covered_read (with_name names name) read ≡ true
    by (Ok target) found = among_stays target.work.text name names found
    by (Err fault) found = refl

noted_stays : (iri other : List ℕ) (names : List (List ℕ)) → is_covered names iri ≡ true → is_covered (noted names other) iri ≡ true
unfolding noted
noted_stays iri other names covered = by (expression_of other)
  where
    by : (read : Read Expression) → is_covered (noted_read names read) iri ≡ true
    by (Ok target) = covered_stays iri target.work.text names covered
    by (Err fault) = covered

noted_covers : (iri : List ℕ) (names : List (List ℕ)) → is_covered (noted names iri) iri ≡ true
unfolding noted is_covered
noted_covers iri names = by (expression_of iri)
  where
    by : (read : Read Expression) → is_covered_read (noted_read names read) read ≡ true
    by (Ok target) = among_new target.work.text names
    by (Err fault) = refl

all_noted_stays : (iri : List ℕ) (names : List (List ℕ)) (refs : List NodeRef) → is_covered names iri ≡ true → is_covered (all_noted names refs) iri ≡ true
all_noted_stays iri names [] covered = covered
all_noted_stays iri names (one ∷ refs) covered = all_noted_stays iri (noted names one.iri) refs (noted_stays iri one.iri names covered)

-- each reference that was noted is covered
all_noted_covers : (answers : Answers) (names : List (List ℕ)) (refs : List NodeRef)
    → list_all (λ (kept : JudgedRef). is_covered (all_noted names refs) kept.iri) (map (judged answers) refs) ≡ true
unfolding judged
all_noted_covers answers names [] = refl
all_noted_covers answers names (one ∷ refs) =
    and_from _ _ (all_noted_stays one.iri (noted names one.iri) refs (noted_covers one.iri names)) (all_noted_covers answers (noted names one.iri) refs)

copied_covers : (iri : List ℕ) (names : List (List ℕ)) → is_covered names iri ≡ true → is_covered (with_names [] names) iri ≡ true
unfolding is_covered
copied_covers iri names covered = by (expression_of iri) covered
  where
    by : (read : Read Expression) → is_covered_read names read ≡ true → is_covered_read (with_names [] names) read ≡ true
    by (Ok target) found = names_come target.work.text [] names found
    by (Err fault) found = refl

-- ---- rows

all_weaker : {X : Type 0} (p q : X → Bool) → ((x : X) → p x ≡ true → q x ≡ true) → (xs : List X) → list_all p xs ≡ true → list_all q xs ≡ true
all_weaker p q weaker [] all = refl
all_weaker p q weaker (x ∷ xs) all =
    and_from (q x) (list_all q xs) (weaker x (and_parts (p x) (list_all p xs) all).0) (all_weaker p q weaker xs (and_parts (p x) (list_all p xs) all).1)

cover_more : (names more : List (List ℕ)) → ((iri : List ℕ) → is_covered names iri ≡ true → is_covered more iri ≡ true) → (rows : List DayRefs) → cover names rows ≡ true → cover more rows ≡ true
cover_more names more each rows =
    all_weaker (λ (row : DayRefs). list_all (λ (kept : JudgedRef). is_covered names kept.iri) row.refs)
    (λ (row : DayRefs). list_all (λ (kept : JudgedRef). is_covered more kept.iri) row.refs)
    (λ row. all_weaker (λ (kept : JudgedRef). is_covered names kept.iri) (λ (kept : JudgedRef). is_covered more kept.iri) (λ kept. each kept.iri) row.refs)
    rows

-- what was noted of rows, with what is noted of one more, covers both
cover_behind : (answers : Answers) (names : List (List ℕ)) (rows : List DayRefs) (from : Option ℕ) (refs : List NodeRef) → cover names rows ≡ true
    → cover (all_noted names refs) (rows ++ record { from = from; refs = map (judged answers) refs } ∷ []) ≡ true
cover_behind answers names rows from refs covered =
    list_all-append (λ (one : DayRefs). list_all (λ (kept : JudgedRef). is_covered (all_noted names refs) kept.iri) one.refs) rows
    (record { from = from; refs = map (judged answers) refs } ∷ [])
    ∙ and_from _ _
    (cover_more names (all_noted names refs) (λ iri found. all_noted_stays iri names refs found) rows covered)
    (and_from _ _ (all_noted_covers answers names refs) refl)

-- the same, where what is noted is begun in memory of its own
pub cover_judged : (answers : Answers) (targets start now : List (List ℕ)) (rows : List DayRefs) (from : Option ℕ) (refs : List NodeRef) (kept : List JudgedRef)
    → start ≡ with_names [] targets → now ≡ all_noted start refs → kept ≡ map (judged answers) refs → cover targets rows ≡ true
    → cover now (rows ++ record { from = from; refs = kept } ∷ []) ≡ true
cover_judged answers targets start now rows from refs kept begun noted is covered =
    ap₂ (λ (names : List (List ℕ)) (js : List JudgedRef). cover names (rows ++ record { from = from; refs = js } ∷ []))
    (noted ∙ ap (λ names. all_noted names refs) begun) is
    ∙ cover_behind answers (with_names [] targets) rows from refs
    (cover_more targets (with_names [] targets) (λ iri found. copied_covers iri targets found) rows covered)

filtered_by : {X : Type 0} (p : X → Bool) (x : X) (ys : List X) (t : Bool) → p x ≡ true → list_all p ys ≡ true → list_all p (cond t (x ∷ ys) ys) ≡ true
filtered_by p x ys true here rest = and_from (p x) (list_all p ys) here rest
filtered_by p x ys false here rest = rest

all_filtered : {X : Type 0} (p keep : X → Bool) (xs : List X) → list_all p xs ≡ true → list_all p (filter keep xs) ≡ true
all_filtered p keep [] all = refl
all_filtered p keep (x ∷ xs) all =
    filtered_by p x (filter keep xs) (keep x) (and_parts (p x) (list_all p xs) all).0 (all_filtered p keep xs (and_parts (p x) (list_all p xs) all).1)

pub cover_before : (names : List (List ℕ)) (day : Option ℕ) (rows : List DayRefs) → cover names rows ≡ true → cover names (rows_before day rows) ≡ true
cover_before names day rows =
    all_filtered (λ (row : DayRefs). list_all (λ (kept : JudgedRef). is_covered names kept.iri) row.refs) (λ row. is_before row.from day) rows

refs_again : (names : List (List ℕ)) (answers : Answers) (moved : List (List ℕ)) (refs : List JudgedRef)
    → list_all (λ (kept : JudgedRef). is_covered names kept.iri) (map (judged_again answers moved) refs) ≡ list_all (λ (kept : JudgedRef). is_covered names kept.iri) refs
unfolding judged_again
refs_again names answers moved [] = refl
refs_again names answers moved (kept ∷ refs) = ap (λ t. is_covered names kept.iri && t) (refs_again names answers moved refs)

-- rows that are judged again name what they named
pub cover_again : (names : List (List ℕ)) (answers : Answers) (moved : List (List ℕ)) (rows : List DayRefs) → cover names (map (again_row answers moved) rows) ≡ cover names rows
unfolding again_row
cover_again names answers moved [] = refl
cover_again names answers moved (row ∷ rows) =
    ap (λ t. t && cover names (map (again_row answers moved) rows)) (refs_again names answers moved row.refs)
    ∙ ap (λ t. list_all (λ (kept : JudgedRef). is_covered names kept.iri) row.refs && t) (cover_again names answers moved rows)

-- ---- what stays as it is

none_named : (text : List ℕ) (names moved : List (List ℕ)) → is_among text names ≡ true → list_any (λ work. is_among work names) moved ≡ false → is_among text moved ≡ false
none_named text names [] found none = refl
none_named text names (work ∷ moved) found none =
    false_from_ne_true (is_among text (work ∷ moved)) (λ named.
    elim (or_cases (bytes_eq text work) (is_among text moved) named) [
      | inl here ↦ true≢false (sym found ∙ ap (λ x. is_among x names) ((bytes_eq-Decides text work).0 here) ∙ (or_parts (is_among work names) (list_any (λ other. is_among other names) moved) none).0)
      | inr later ↦ true≢false (sym later ∙ none_named text names moved found (or_parts (is_among work names) (list_any (λ other. is_among other names) moved) none).1)
    ])

still_ref : (names moved : List (List ℕ)) → list_any (λ work. is_among work names) moved ≡ false → (iri : List ℕ) → is_covered names iri ≡ true → not (names_one moved iri) ≡ true
unfolding is_covered names_one
still_ref names moved none iri covered = by (expression_of iri) covered
  where
    by : (read : Read Expression) → is_covered_read names read ≡ true → not (is_of_one moved read) ≡ true
    by (Ok target) found = not_from_false _ (none_named target.work.text names moved found none)
    by (Err fault) found = refl

-- where none of the works that are noted moved, no reference has a target of one that did
pub still_rows : (names moved : List (List ℕ)) (rows : List DayRefs) → cover names rows ≡ true → list_any (λ work. is_among work names) moved ≡ false → are_still moved rows ≡ true
still_rows names moved rows covered none =
    all_weaker (λ (row : DayRefs). list_all (λ (kept : JudgedRef). is_covered names kept.iri) row.refs)
    (λ (row : DayRefs). list_all (λ (kept : JudgedRef). not (names_one moved kept.iri)) row.refs)
    (λ row. all_weaker (λ (kept : JudgedRef). is_covered names kept.iri) (λ (kept : JudgedRef). not (names_one moved kept.iri)) (λ kept. still_ref names moved none kept.iri) row.refs)
    rows covered

still_cause : (answers : Answers) (moved : List (List ℕ)) (kept : JudgedRef) → not (names_one moved kept.iri) ≡ true → cause_now answers moved kept ≡ kept.cause
still_cause answers moved kept still = by (names_one moved kept.iri) still
  where
    by : (t : Bool) → not t ≡ true → cond t (cause_of answers kept.iri) kept.cause ≡ kept.cause
    by true wrong = absurd (true≢false (sym wrong))
    by false right = refl

abbrev the_kept : JudgedRef → Option ℕ → JudgedRef
the_kept kept cause = record { eid = kept.eid; iri = kept.iri; cause = cause }

abbrev the_row : DayRefs → List JudgedRef → DayRefs
the_row row refs = record { from = row.from; refs = refs }

abbrev the_work : WorkRefs → List DayRefs → WorkRefs
the_work kept rows = record { act_day = kept.act_day; rows = rows }

still_refs : (answers : Answers) (moved : List (List ℕ)) (refs : List JudgedRef) → list_all (λ (kept : JudgedRef). not (names_one moved kept.iri)) refs ≡ true → map (judged_again answers moved) refs ≡ refs
unfolding judged_again
still_refs answers moved [] still = refl
still_refs answers moved (kept ∷ refs) still =
    ap (λ (cause : Option ℕ). the_kept kept cause ∷ map (judged_again answers moved) refs) (still_cause answers moved kept (and_parts (not (names_one moved kept.iri)) (list_all (λ (one : JudgedRef). not (names_one moved one.iri)) refs) still).0)
    ∙ ap (λ rest. kept ∷ rest) (still_refs answers moved refs (and_parts (not (names_one moved kept.iri)) (list_all (λ (one : JudgedRef). not (names_one moved one.iri)) refs) still).1)

still_again : (answers : Answers) (moved : List (List ℕ)) (rows : List DayRefs) → are_still moved rows ≡ true → map (again_row answers moved) rows ≡ rows
unfolding again_row
still_again answers moved [] still = refl
still_again answers moved (row ∷ rows) still =
    ap (λ refs. the_row row refs ∷ map (again_row answers moved) rows) (still_refs answers moved row.refs (and_parts (list_all (λ (kept : JudgedRef). not (names_one moved kept.iri)) row.refs) (are_still moved rows) still).0)
    ∙ ap (λ rest. row ∷ rest) (still_again answers moved rows (and_parts (list_all (λ (kept : JudgedRef). not (names_one moved kept.iri)) row.refs) (are_still moved rows) still).1)

-- what has no target that moved is judged again as it was
still_work : (answers : Answers) (moved : List (List ℕ)) (kept : WorkRefs) → are_still moved kept.rows ≡ true → again_work answers moved kept ≡ kept
unfolding again_work
still_work answers moved kept still = ap (λ rows. the_work kept rows) (still_again answers moved kept.rows still)

pub still_kept : (answers : Answers) (moved : List (List ℕ)) (kept : WorkRefs) → are_still moved kept.rows ≡ true → kept ≡ again_work answers moved kept
still_kept answers moved kept still = sym (still_work answers moved kept still)
