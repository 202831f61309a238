-- The text of rows, one part behind another.
use Rattle.std.proofs.Common.{◌≡◌, ◌∙◌, sym, ap, refl, ℕ, List, [], ◌∷◌, ◌++◌, append_assoc}
use Rattle.law_reports.specs.Tables.{row, rows_text}

pub rows_both : (first second : List (List (List ℕ))) → rows_text (first ++ second) ≡ rows_text first ++ rows_text second
rows_both [] second = refl
rows_both (fields ∷ more) second =
    ap (λ text. row fields ++ text) (rows_both more second) ∙ sym (append_assoc (row fields) (rows_text more) (rows_text second))
