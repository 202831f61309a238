-- The bytes of a buffer: a part of a list between two places.
use Rattle.std.proofs.Common.{◌≡◌, ℕ, ◌+◌, ◌-◌, ◌≤◌, List, ◌++◌, length, take, drop, sym, ap, ◌∙◌, arith, append_assoc, length-take, length-drop}
use Rattle.std.specs.Prelude.{slice_range, OnErr, Result, Ok, Err}
use Rattle.std.proofs.lemmas.List.{take-take, take_all, take_at, drop-take, drop-append-le, drop-drop}
use Rattle.law_http.proofs.Pieces.{cut_piece}

-- a part is what stands behind its first place in the front of its last
slice_by : (xs front : List ℕ) (start end : ℕ) → start ≤ end → take end xs ≡ front → slice_range xs start end ≡ drop start front
slice_by xs front start end order is =
    let whole : start + (end - start) ≡ end = omega (arith, order) in
    sym (drop-take start (end - start) xs) ∙ ap (λ n. drop start (take n xs)) whole ∙ ap (drop start) is

pub sliced_length : (xs : List ℕ) (start end : ℕ) → end ≤ length xs → length (slice_range xs start end) ≡ end - start
sliced_length xs start end within = omega (arith, within, length-take (end - start) (drop start xs), length-drop start xs)

-- taken off the front
pub skipped : (xs : List ℕ) (start end count : ℕ) → start + count ≤ end → slice_range xs (start + count) end ≡ drop count (slice_range xs start end)
skipped xs start end count fits =
    slice_by xs (take end xs) (start + count) end fits (λ i. take end xs)
    ∙ sym (drop-drop count start (take end xs))
    ∙ sym (ap (drop count) (slice_by xs (take end xs) start end (omega (arith, fits)) (λ i. take end xs)))

-- more bytes behind the list
pub lengthened : (xs ys : List ℕ) (start end : ℕ) → start ≤ end → end ≤ length xs → take (length xs) ys ≡ xs → slice_range ys start end ≡ slice_range xs start end
lengthened xs ys start end order within is =
    slice_by ys (take end xs) start end order (sym (take-take end (length xs) ys within) ∙ ap (take end) is)
    ∙ sym (slice_by xs (take end xs) start end order (λ i. take end xs))

-- others stand behind the part
pub unread : (xs into behind more : List ℕ) (start end room : ℕ) → start ≤ end → end ≤ length xs → end ≤ room
    → slice_range (take room ((take end xs ++ (into ++ behind)) ++ more)) start end ≡ slice_range xs start end
unread xs into behind more start end room order within enough =
    let front = take end xs in
    let all = (front ++ (into ++ behind)) ++ more in
    let long : end ≡ length front = omega (arith, within, length-take end xs) in
    slice_by (take room all) front start end order
    (take-take end room all enough ∙ ap (take end) (append_assoc front (into ++ behind) more) ∙ take_at front ((into ++ behind) ++ more) end (sym long))
    ∙ sym (slice_by xs front start end order (λ i. front))

-- a piece was read behind it
pub filled : (xs into behind more : List ℕ) (start end count room : ℕ) → start ≤ end → end ≤ length xs → count ≤ length into → end + count ≤ room
    → slice_range (take room ((take end xs ++ (into ++ behind)) ++ more)) start (end + count) ≡ slice_range xs start end ++ take count into
filled xs into behind more start end count room order within fits enough =
    let front = take end xs in
    let long : end ≡ length front = omega (arith, within, length-take end xs) in
    slice_by (take room ((front ++ (into ++ behind)) ++ more)) (front ++ take count into) start (end + count) (omega (arith, order))
    (cut_piece front into behind more end count room long fits enough)
    ∙ drop-append-le start front (take count into) (omega (arith, order, long))
    ∙ ap (λ l. l ++ take count into) (sym (slice_by xs front start end order (λ i. front)))

-- what was there stands in front of what is there, with a piece behind it or with none
pub front_same : (xs ys : List ℕ) → ys ≡ xs → take (length xs) ys ≡ xs
front_same xs ys same = ap (take (length xs)) same ∙ take_all (length xs) xs (omega arith)

pub front_read : (xs piece ys : List ℕ) → ys ≡ xs ++ piece → take (length xs) ys ≡ xs
front_read xs piece ys is = ap (take (length xs)) is ∙ take_at xs piece (length xs) (λ i. length xs)

pub on_err : {A E P : Type 0} (r : Result A E) → P → OnErr r P
on_err (Ok a) holds = tt
on_err (Err e) holds = holds
