-- The row behind all others decides, if it has begun.
use Rattle.std.proofs.Common.{◌≡◌, ◌∙◌, ℕ, ◌+◌, ◌-◌, ◌<◌, ◌≤◌, sym, ap, refl, true, false, cond, List, [], ◌∷◌, ◌++◌, length, take, get_or, if◌then◌else◌, arith}
use Rattle.std.proofs.lemmas.List.{take_more}
use Rattle.law_refs.specs.Rows.{has_begun, latest, refs_on}
use Rattle.law_refs.specs.declared.node_ref.JudgedRef.{JudgedRef}
use Rattle.law_refs.specs.declared.ref_row.DayRefs.{DayRefs}

latest_behind : (day : ℕ) (found : List JudgedRef) (rows : List DayRefs) (row : DayRefs) → latest day found (rows ++ row ∷ []) ≡ (if has_begun row.from day then row.refs else latest day found rows)
latest_behind day found [] row = refl
latest_behind day found (first ∷ rows) row = latest_behind day (if has_begun first.from day then first.refs else found) rows row

latest_at : (day : ℕ) (rows : List DayRefs) (i : ℕ) (row : DayRefs) → i < length rows → row ≡ get_or rows i row
    → latest day [] (take (i + 1) rows) ≡ (if has_begun row.from day then row.refs else latest day [] (take i rows))
latest_at day rows i row within at =
    ap (latest day []) (take_more rows i row within ∙ ap (λ one. take i rows ++ one ∷ []) (sym at)) ∙ latest_behind day [] (take i rows) row

-- where none of the first n decides further, the row before the n-th place decides, or does not
up_to : (day : ℕ) (rows : List DayRefs) (n : ℕ) (row : DayRefs) → 0 < n → n ≤ length rows → row ≡ get_or rows (n - 1) row
    → latest day [] (take n rows) ≡ (if has_begun row.from day then row.refs else latest day [] (take (n - 1) rows))
up_to day rows n row some within at =
    let further : n - 1 + 1 ≡ n = omega (arith, some) in
    ap (λ k. latest day [] (take k rows)) (sym further) ∙ latest_at day rows (n - 1) row (omega (arith, some, within)) at

pub found_here : (day : ℕ) (rows : List DayRefs) (n : ℕ) (row : DayRefs) → 0 < n → n ≤ length rows → row ≡ get_or rows (n - 1) row → has_begun row.from day ≡ true
    → latest day [] (take n rows) ≡ latest day [] rows → row.refs ≡ refs_on day rows
found_here day rows n row some within at begun kept =
    sym (ap (λ t. cond t row.refs (latest day [] (take (n - 1) rows))) begun) ∙ sym (up_to day rows n row some within at) ∙ kept

pub not_here : (day : ℕ) (rows : List DayRefs) (n : ℕ) (row : DayRefs) → 0 < n → n ≤ length rows → row ≡ get_or rows (n - 1) row → has_begun row.from day ≡ false
    → latest day [] (take n rows) ≡ latest day [] rows → latest day [] (take (n - 1) rows) ≡ latest day [] rows
not_here day rows n row some within at early kept =
    sym (ap (λ t. cond t row.refs (latest day [] (take (n - 1) rows))) early) ∙ sym (up_to day rows n row some within at) ∙ kept
