-- A piece that is read behind bytes which are there.
use Rattle.std.proofs.Common.{◌≡◌, ℕ, ◌+◌, ◌≤◌, List, ◌++◌, length, take, drop, sym, ap, ◌∙◌, arith, append_assoc, length-append, length-take, take-append-drop}
use Rattle.std.proofs.lemmas.List.{take-take, take_at}

-- what is cut off behind the piece does not matter
pub cut_piece : (xs into behind more : List ℕ) (before n room : ℕ) → before ≡ length xs → n ≤ length into → before + n ≤ room
    → take (before + n) (take room ((xs ++ (into ++ behind)) ++ more)) ≡ xs ++ take n into
cut_piece xs into behind more before n room is fits enough =
    let front = xs ++ take n into in
    let later = behind ++ more in
    let parts : (into ++ behind) ++ more ≡ take n into ++ (drop n into ++ later) =
    append_assoc into behind more ∙ ap (λ l. l ++ later) (sym (take-append-drop n into)) ∙ append_assoc (take n into) (drop n into) later in
    let whole : (xs ++ (into ++ behind)) ++ more ≡ front ++ (drop n into ++ later) =
    append_assoc xs (into ++ behind) more ∙ ap (λ l. xs ++ l) parts ∙ sym (append_assoc xs (take n into) (drop n into ++ later)) in
    take-take (before + n) room ((xs ++ (into ++ behind)) ++ more) enough ∙ ap (take (before + n)) whole
    ∙ take_at front (drop n into ++ later) (before + n) (omega (arith, is, fits, length-append xs (take n into), length-take n into))

-- the front of a list stays while more is read behind it
pub front_of_more : (xs ys zs : List ℕ) → take (length xs) ys ≡ xs → take (length ys) zs ≡ ys → length xs ≤ length ys → take (length xs) zs ≡ xs
front_of_more xs ys zs first second grown =
    sym (take-take (length xs) (length ys) zs grown) ∙ ap (take (length xs)) second ∙ first
