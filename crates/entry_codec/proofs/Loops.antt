-- Values that are read one behind the other, as a loop does.
use Rattle.std.proofs.Common.{◌≡◌, ℕ, suc, ◌-◌, ◌+◌, ◌≤◌, ◌<◌, List, [], ◌∷◌, ◌++◌, Ok, Err, refl, sym, ap, ◌∙◌, append_assoc, arith}
use Rattle.std.proofs.lemmas.List.{append-nil}
use Rattle.entry_codec.specs.Reads.{Read, ◌>>=◌}
use Rattle.entry_codec.specs.Fields.{each_read}

-- what was read before, and what is still read
abbrev pub with_front : {V : Type 0} → List V → Read (List V) → Read (List V)
with_front front reading = reading >>= λ vs. Ok (front ++ vs.0, vs.1)

regroup : {V : Type 0} (front : List V) (v : V) (reading : Read (List V))
    → with_front front (reading >>= λ vs. Ok (v ∷ vs.0, vs.1)) ≡ with_front (front ++ v ∷ []) reading
regroup front v (Ok vs) = ap (λ all. Ok (all, vs.1)) (sym (append_assoc front (v ∷ []) vs.0))
regroup front v (Err left) = refl

abbrev then_more : {V : Type 0} → (List ℕ → Read V) → ℕ → Read V → Read (List V)
then_more read n first = first >>= λ v. each_read read n v.1 >>= λ vs. Ok (v.0 ∷ vs.0, vs.1)

one_less : (count i : ℕ) → i < count → count - i ≡ suc (count - (i + 1))
one_less count i lt = omega arith

pub goes_on : {V : Type 0} (read : List ℕ → Read V) (front : List V) (count i : ℕ) (bytes : List ℕ) (v : V) (after : List ℕ)
    (now : List V) (total : Read (List V)) → i < count → read bytes ≡ Ok (v, after) → now ≡ front ++ v ∷ []
    → with_front front (each_read read (count - i) bytes) ≡ total
    → with_front now (each_read read (count - (i + 1)) after) ≡ total
goes_on read front count i bytes v after now total lt first longer so_far =
    ap (λ vs. with_front vs (each_read read (count - (i + 1)) after)) longer
    ∙ sym (
    ap (λ k. with_front front (each_read read k bytes)) (one_less count i lt)
    ∙ ap (λ r. with_front front (then_more read (count - (i + 1)) r)) first
    ∙ regroup front v (each_read read (count - (i + 1)) after)
    )
    ∙ so_far
