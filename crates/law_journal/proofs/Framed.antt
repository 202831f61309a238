-- The frames of payloads, one behind the other.
use Rattle.std.proofs.Common.{◌≡◌, ℕ, ◌+◌, ◌<◌, ◌≤◌, List, [], ◌∷◌, ◌++◌, length, map, take, get_or, sym, ◌∙◌, ap, append_assoc, Vec, Global}
use Rattle.std.specs.Prelude.{All, IsTrue}
use Rattle.std.proofs.lemmas.List.{append-nil, map-append, take_all, take_more}
use Rattle.std.proofs.lemmas.List.Elements.{All-map}
use Rattle.std.proofs.lemmas.Grind.{flat_map-append}
use Rattle.law_journal.specs.Grammar.{four_bytes, is_size, record_of, records_of}
use Rattle.law_journal.specs.Journals.{AreFrames}

-- one payload more behind those that were framed
pub framed_more : (payloads : List (Vec ℕ Global)) (i : ℕ) (payload : Vec ℕ Global) → i < length payloads → payload ≡ get_or payloads i payload
    → (framed new : List ℕ) → 1 ∷ framed ≡ records_of (map (λ payload. payload.items) (take i payloads)) → new ≡ (framed ++ 1 ∷ []) ++ (four_bytes (length payload.items) ++ payload.items)
    → 1 ∷ new ≡ records_of (map (λ payload. payload.items) (take (i + 1) payloads))
framed_more payloads i payload within here framed new so_far is =
    let last = payload.items ∷ [] in
    let done = map (λ (p : Vec ℕ Global). p.items) (take i payloads) in
    let taken : take (i + 1) payloads ≡ take i payloads ++ payload ∷ [] = take_more payloads i payload within ∙ ap (λ (p : Vec ℕ Global). take i payloads ++ p ∷ []) (sym here) in
    let mapped : map (λ (p : Vec ℕ Global). p.items) (take (i + 1) payloads) ≡ done ++ last = ap (map (λ (p : Vec ℕ Global). p.items)) taken ∙ map-append (λ (p : Vec ℕ Global). p.items) (take i payloads) (payload ∷ []) in
    let records : records_of (map (λ (p : Vec ℕ Global). p.items) (take (i + 1) payloads)) ≡ records_of done ++ record_of payload.items =
    ap records_of mapped ∙ flat_map-append record_of done last ∙ ap (λ (l : List ℕ). records_of done ++ l) (append-nil (record_of payload.items)) in
    ap (λ (l : List ℕ). 1 ∷ l) (is ∙ append_assoc framed (1 ∷ []) (four_bytes (length payload.items) ++ payload.items))
    ∙ ap (λ (l : List ℕ). l ++ record_of payload.items) so_far
    ∙ sym records

-- all of them
pub framed_all : (payloads : List (Vec ℕ Global)) (i : ℕ) → length payloads ≤ i → All (λ payload. IsTrue (is_size (length payload.items))) payloads
    → (framed new : List ℕ) → 1 ∷ framed ≡ records_of (map (λ payload. payload.items) (take i payloads)) → new ≡ framed ++ 0 ∷ []
    → AreFrames (map (λ payload. payload.items) payloads) new
framed_all payloads i whole sizes framed new so_far is = record {
  sizes = All-map (λ (payload : List ℕ). IsTrue (is_size (length payload))) (λ (p : Vec ℕ Global). p.items) payloads sizes;
  behind_gate = ap (λ (l : List ℕ). 1 ∷ l) is ∙ ap (λ (l : List ℕ). l ++ 0 ∷ []) (so_far ∙ ap (λ (l : List (Vec ℕ Global)). records_of (map (λ (p : Vec ℕ Global). p.items) l)) (take_all i payloads whole));
}
