-- The rows of works, one work after another.
use Rattle.std.proofs.Common.{◌≡◌, ◌∙◌, sym, ap, ℕ, ◌+◌, ◌<◌, List, ◌++◌, drop, get_or, length, append_assoc}
use Rattle.std.proofs.lemmas.List.{drop_more}
use Rattle.law_register.specs.declared.register.entry.Entry.{Entry}
use Rattle.law_reports.specs.Tables.{rows_text}
use Rattle.law_reports.specs.Unapplied.{rows_of, rows_of_all}
use Rattle.law_reports.proofs.Rows.{rows_both}

-- what is written, with the rows of the works that are left, stays so as one work is passed
pub rows_kept : (entries : List Entry) (day : ℕ) (works : List (List ℕ)) (i : ℕ) (work old new all : List ℕ)
    → i < length works → work ≡ get_or works i work → new ≡ old ++ rows_text (rows_of entries day work)
    → old ++ rows_text (rows_of_all entries day (drop i works)) ≡ all
    → new ++ rows_text (rows_of_all entries day (drop (i + 1) works)) ≡ all
rows_kept entries day works i work old new all within at more kept =
    let left : List (List ℕ) = drop (i + 1) works in
    let rest : List ℕ = rows_text (rows_of_all entries day left) in
    ap (λ t. t ++ rest) more
    ∙ append_assoc old (rows_text (rows_of entries day work)) rest
    ∙ ap (λ t. old ++ t) (ap (λ w. rows_text (rows_of entries day w) ++ rest) at
    ∙ sym (rows_both (rows_of entries day (get_or works i work)) (rows_of_all entries day left))
    ∙ sym (ap (λ ws. rows_text (rows_of_all entries day ws)) (drop_more works i work within)))
    ∙ kept
