-- An entry whose key is above all others goes behind them.
use Rattle.std.proofs.Common.{◌≡◌, ◌∙◌, ℕ, ◌+◌, ◌≤◌, sym, ap, refl, subst, List, [], ◌∷◌, ◌++◌, append_assoc, arith}
use Rattle.std.specs.BTreeMap.{insert_entry}
use Rattle.std.specs.Cmp.Lexicographic.{slice_cmp}
use Rattle.std.specs.List.{AllByRecursion}
use Rattle.std.specs.List.Sorted.{IsStrictlySortedBy}
use Rattle.std.specs.Map.{keys_of}
use Rattle.std.specs.Ordering.{match_ordering, nat_cmp, ordering_reverse}
use Rattle.std.proofs.lemmas.List.{map-append}
use Rattle.std.specs.declared.cmp.Ordering.TheVariants.{Less, Greater}
use Rattle.std.proofs.lemmas.Cmp.{nat_list_cmp_total}
use Rattle.std.proofs.lemmas.Map.Keys.{sorted_head, sorted_tail}
use Rattle.law_refs.specs.Index.{Kept, all_again, all_staying, moved_in, moved_in_rows, staying}
use Rattle.law_refs.specs.Judging.{Answers}
use Rattle.law_refs.specs.Rows.{again_work}
use Rattle.law_refs.specs.declared.ref_row.RefRow.{RefRow}
use Rattle.law_refs.specs.declared.ref_row.WorkRefs.{WorkRefs}

at_seam : {X : Type 0} (P : X → Type 0) (xs : List X) (x : X) (ys : List X) → AllByRecursion P (xs ++ x ∷ ys) → P x
at_seam P [] x ys all = all.0
at_seam P (first ∷ xs) x ys all = at_seam P xs x ys all.1

greater : (k l : List ℕ) → slice_cmp nat_cmp k l ≡ Less → slice_cmp nat_cmp l k ≡ Greater
greater k l less = nat_list_cmp_total.antisymm l k ∙ ap ordering_reverse less

behind : {X : Type 0} (es : List (List ℕ × X)) (k : List ℕ) (v : X) (ks : List (List ℕ)) → IsStrictlySortedBy (slice_cmp nat_cmp) (keys_of es ++ k ∷ ks) → insert_entry (slice_cmp nat_cmp) es k v ≡ es ++ (k, v) ∷ []
behind [] k v ks sorted = refl
behind (e ∷ es) k v ks sorted =
    ap (λ o. match_ordering o ((k, v) ∷ e ∷ es) ((e.0, v) ∷ es) (e ∷ insert_entry (slice_cmp nat_cmp) es k v))
    (greater e.0 k (at_seam (λ y. slice_cmp nat_cmp e.0 y ≡ Less) (keys_of es) k ks (sorted_head (slice_cmp nat_cmp) e.0 (keys_of es ++ k ∷ ks) sorted)))
    ∙ ap (λ more. e ∷ more) (behind es k v ks (sorted_tail (slice_cmp nat_cmp) e.0 (keys_of es ++ k ∷ ks) sorted))

same_keys : (answers : Answers) (moved : List (List ℕ)) (rows : List RefRow) (index : Kept) → keys_of (all_again answers moved (all_staying rows index)) ≡ keys_of index
same_keys answers moved rows [] = refl
same_keys answers moved rows (of_work ∷ index) = ap (λ ks. of_work.0 ∷ ks) (same_keys answers moved rows index)

-- what is kept of a work goes behind that of the works before it
goes_behind : (answers : Answers) (moved : List (List ℕ)) (rows : List RefRow) (old done : Kept) (work : List ℕ) (now : WorkRefs) (left : Kept)
    → IsStrictlySortedBy (slice_cmp nat_cmp) (keys_of old)
    → done ++ (work, now) ∷ left ≡ all_again answers moved (all_staying rows old)
    → insert_entry (slice_cmp nat_cmp) done work now ≡ done ++ (work, now) ∷ []
goes_behind answers moved rows old done work now left sorted all =
    behind done work now (keys_of left)
    (subst (IsStrictlySortedBy (slice_cmp nat_cmp))
    (sym (same_keys answers moved rows old) ∙ ap keys_of (sym all) ∙ map-append (λ e. e.0) done ((work, now) ∷ left)) sorted)

-- what is kept of one work more
pub works_go_on : (answers : Answers) (moved : List (List ℕ)) (rows : List RefRow) (old done iterator left new : Kept) (work key : List ℕ) (kept stays now : WorkRefs)
    → new ≡ insert_entry (slice_cmp nat_cmp) done key now → key ≡ work → now ≡ again_work answers moved stays → stays ≡ staying rows work kept
    → iterator ≡ (work, kept) ∷ left → IsStrictlySortedBy (slice_cmp nat_cmp) (keys_of old)
    → done ++ all_again answers moved (all_staying rows iterator) ≡ all_again answers moved (all_staying rows old)
    → new ++ all_again answers moved (all_staying rows left) ≡ all_again answers moved (all_staying rows old)
works_go_on answers moved rows old done iterator left new work key kept stays now put named is stayed next sorted so_far =
    let what : WorkRefs = again_work answers moved (staying rows work kept) in
    let rest : Kept = all_again answers moved (all_staying rows left) in
    let all : done ++ (work, what) ∷ rest ≡ all_again answers moved (all_staying rows old) =
    ap (λ es. done ++ all_again answers moved (all_staying rows es)) (sym next) ∙ so_far in
    ap (λ es. es ++ rest)
    (put ∙ ap (λ k. insert_entry (slice_cmp nat_cmp) done k now) named
    ∙ ap (λ w. insert_entry (slice_cmp nat_cmp) done work w) (is ∙ ap (again_work answers moved) stayed)
    ∙ goes_behind answers moved rows old done work what rest sorted all)
    ∙ append_assoc done ((work, what) ∷ []) rest
    ∙ all

-- its steps
pub steps_go_on : (moved : List (List ℕ)) (rows : List RefRow) (iterator left : Kept) (work : List ℕ) (kept stays : WorkRefs) (before after most : ℕ)
    → iterator ≡ (work, kept) ∷ left → stays ≡ staying rows work kept → after ≤ before + moved_in_rows moved stays.rows
    → before + moved_in moved (all_staying rows iterator) ≤ most → after + moved_in moved (all_staying rows left) ≤ most
steps_go_on moved rows iterator left work kept stays before after most next stayed taken so_far =
    let here : moved_in moved (all_staying rows iterator) ≡ moved_in_rows moved (staying rows work kept).rows + moved_in moved (all_staying rows left) =
    ap (λ es. moved_in moved (all_staying rows es)) next in
    let cost : moved_in_rows moved stays.rows ≡ moved_in_rows moved (staying rows work kept).rows = ap (λ (w : WorkRefs). moved_in_rows moved w.rows) stayed in
    omega (arith, here, cost, taken, so_far)
