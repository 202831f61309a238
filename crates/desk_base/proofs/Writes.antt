-- How a loop over `write` appends the front of a list of bytes, piece by piece.
use Rattle.std.proofs.Common.{◌≡◌, ℕ, ◌+◌, ◌-◌, ◌≤◌, List, ◌++◌, length, take, drop, sym, ap, ◌∙◌, append_assoc, arith, length-drop, Option, Some, None, Err}
use Rattle.std.proofs.lemmas.List.{take_all, take-append-drop}
use Rattle.std.proofs.Math.Seq.{take-add}
use Rattle.std.specs.Io.KnownBytes.{Appends, Keeps}
use Rattle.desk_base.specs.Streams.{Appended}

-- the first bytes have been written, up to this many
abbrev pub HasWritten : Option (List ℕ) → Option (List ℕ) → List ℕ → ℕ → Type 0
HasWritten None now bytes at = Unit {0}
HasWritten (Some before) now bytes at = now ≡ Some (before ++ take at bytes)

-- the piece that is handed to `write` is all that is left
piece_is : (bytes : List ℕ) (at : ℕ) → take (length bytes - at) (drop at bytes) ≡ drop at bytes
piece_is bytes at = take_all (length bytes - at) (drop at bytes) (omega (arith, length-drop at bytes))

pub one_more : (begun mid now : Option (List ℕ)) (bytes : List ℕ) (at n : ℕ) → HasWritten begun mid bytes at → Appends mid now (take n (take (length bytes - at) (drop at bytes))) → HasWritten begun now bytes (at + n)
one_more None mid now bytes at n had more = tt
one_more (Some before) None now bytes at n had more = cc
one_more (Some before) (Some xs) None bytes at n had more = absurd more
one_more (Some before) (Some xs) (Some ys) bytes at n had more =
    let whole = rw (piece_is bytes at) at more in
    let same : xs ≡ before ++ take at bytes = cc had in
    ap Some (whole ∙ ap (λ zs. zs ++ take n (drop at bytes)) same ∙ append_assoc before (take at bytes) (take n (drop at bytes)) ∙ sym (ap (λ zs. before ++ zs) (take-add at n bytes)))

pub kept : (begun mid now : Option (List ℕ)) (bytes : List ℕ) (at : ℕ) → HasWritten begun mid bytes at → Keeps mid now → HasWritten begun now bytes at
kept None mid now bytes at had keeps = tt
kept (Some before) None now bytes at had keeps = cc
kept (Some before) (Some xs) None bytes at had keeps = absurd keeps
kept (Some before) (Some xs) (Some ys) bytes at had keeps = ap Some keeps ∙ had

pub front_written : (E : Type 0) (begun now : Option (List ℕ)) (bytes : List ℕ) (at : ℕ) (fault : E) → HasWritten begun now bytes at → Appended {E = E} begun now bytes (Err fault)
front_written E None now bytes at fault had = tt
front_written E (Some before) now bytes at fault had = (take at bytes, (drop at bytes, (had, take-append-drop at bytes)))
