-- What stands at the front of bytes that are read piece by piece.
use Rattle.std.proofs.Common.{◌≡◌, ◌∙◌, sym, ap, subst, refl, Bool, true, false, List, [], ◌∷◌, ◌++◌, length, take, drop, ℕ, zero, suc, ◌+◌, ◌≤◌, ◌<◌, ◌⊎◌, inl, inr, Option, Some, None, Result, Ok, Err, arith, length-append}
use Rattle.std.specs.Prelude.{◌==◌, nat_lt, if◌then◌else◌}
use Rattle.std.proofs.lemmas.Bool.{lt-ltb, ne_eqb}
use Rattle.std.proofs.lemmas.List.{append-nil, drop_all}
use Rattle.law_follow.specs.Frames.{breaks, ends, holds, IsPieceOf, Reads, ReadsPayload, TakesFewer, TakesFewerOf, IsOfDevice, frame_size, framed, front_of, head_in, headed, payload_front, size_by}
use Rattle.law_follow.specs.declared.frame.Frame.{Frame}
use Rattle.law_follow.specs.declared.frame.FrameFault.{FrameFault}
use Rattle.law_follow.specs.declared.frame.FrameFault.TheVariants as fault
use Rattle.law_follow.specs.declared.frame.Head.{Head}
use Rattle.law_follow.specs.declared.frame.TheConstants.{HEAD_SIZE}
use Rattle.law_follow.proofs.Pieces.{cut_drop, cut_take}

-- what stands at the front of all, by the bytes of a head that were read, or of fewer at the end
pub front_headed : (all bytes rest : List ℕ) → all ≡ bytes ++ rest → length bytes ≤ HEAD_SIZE → (rest ≡ []) ⊎ (HEAD_SIZE ≤ length bytes) → 0 < length bytes
    → front_of all ≡ headed (head_in bytes) rest
unfolding front_of
front_headed all bytes rest begins most enough some =
    let more : (length all == 0) ≡ false = ne_eqb (length all) 0 (λ none. omega (arith, none, some, ap length begins, length-append bytes rest)) in
    ap (λ (t : Bool). if t then ends else headed (head_in (take HEAD_SIZE all)) (drop HEAD_SIZE all)) more
    ∙ ap (λ (head : List ℕ). headed (head_in head) (drop HEAD_SIZE all)) (cut_take HEAD_SIZE all bytes rest begins most enough)
    ∙ ap (λ (r : List ℕ). headed (head_in bytes) r) (cut_drop HEAD_SIZE all bytes rest begins most enough)

front_ends : (all : List ℕ) → all ≡ [] → front_of all ≡ ends
unfolding front_of
front_ends all none = ap (λ (bytes : List ℕ). if length bytes == 0 then ends else headed (head_in (take HEAD_SIZE bytes)) (drop HEAD_SIZE bytes)) none

-- where nothing stands at the front, there are no bytes
headed_on : (head : Option Head) (bytes : List ℕ) → headed head bytes ≡ ends → ⊥
headed_on None bytes is = cc is
headed_on (Some head) bytes is = by (nat_lt (length bytes) head.size) is
  where
    by : (t : Bool)
        → (if t then breaks else holds (record { number = head.number; payload = take head.size bytes }) (drop head.size bytes)) ≡ ends
        → ⊥
    by true is = cc is
    by false is = cc is

pub front_ended : (all : List ℕ) → front_of all ≡ ends → all ≡ []
unfolding front_of
front_ended [] is = refl
front_ended (x ∷ xs) is =
    let all = x ∷ xs in
    let more : (length all == 0) ≡ false = ne_eqb (length all) 0 (λ none. omega (arith, none)) in
    absurd
    (headed_on (head_in (take HEAD_SIZE all)) (drop HEAD_SIZE all)
    (ap (λ (t : Bool). if t then ends else headed (head_in (take HEAD_SIZE all)) (drop HEAD_SIZE all)) (sym more) ∙ is))

-- nothing was there
pub none_read : (left new : Option (List ℕ)) (bytes : List ℕ) → IsPieceOf HEAD_SIZE left new bytes → length bytes ≡ 0 → Reads left new (Ok None)
none_read None new bytes piece none = tt
none_read (Some all) new bytes piece none = by piece.enough
  where
    empty : (xs : List ℕ) → length xs ≡ 0 → xs ≡ []
    empty [] is = refl
    empty (x ∷ xs) is = absurd (omega (arith, is))

    by : (piece.rest ≡ []) ⊎ (HEAD_SIZE ≤ length bytes) → Reads (Some all) new (Ok None)
    by (inl ended) = (
      front_ends all (piece.begins ∙ ap (λ (l : List ℕ). l ++ piece.rest) (empty bytes none) ∙ ended),
      piece.left ∙ ap Some ended,
    )
    by (inr enough) = absurd (omega (arith, none, enough))

-- how long a frame is, by the bytes of a head that were read
size_headed : (all bytes rest : List ℕ) → all ≡ bytes ++ rest → length bytes ≤ HEAD_SIZE → (rest ≡ []) ⊎ (HEAD_SIZE ≤ length bytes)
    → frame_size all ≡ size_by (head_in bytes)
size_headed all bytes rest begins most enough = ap (λ (head : List ℕ). size_by (head_in head)) (cut_take HEAD_SIZE all bytes rest begins most enough)

drop_twice : (n k : ℕ) (xs : List ℕ) → drop k (drop n xs) ≡ drop (n + k) xs
drop_twice zero k xs = let same : k ≡ zero + k = omega arith in ap (λ (i : ℕ). drop i xs) same
drop_twice (suc n) k [] = drop_all k [] (omega arith) ∙ sym (drop_all (suc n + k) [] (omega arith))
drop_twice (suc n) k (x ∷ xs) =
    let same : suc (n + k) ≡ suc n + k = omega arith in
    drop_twice n k xs ∙ ap (λ (i : ℕ). drop i (x ∷ xs)) same

-- what was there is no head
pub broken_read : (left new : Option (List ℕ)) (bytes : List ℕ) → IsPieceOf HEAD_SIZE left new bytes → length bytes ≤ HEAD_SIZE → 0 < length bytes
    → head_in bytes ≡ None → Reads left new (Err fault.BadFrame)
broken_read None new bytes piece most some is = tt
broken_read (Some all) new bytes piece most some is =
    let size : frame_size all ≡ HEAD_SIZE = size_headed all bytes piece.rest piece.begins most piece.enough ∙ ap size_by is in (
      front_headed all bytes piece.rest piece.begins most piece.enough some ∙ ap (λ (h : Option Head). headed h piece.rest) is,
      piece.left ∙ ap Some (sym (ap (λ (n : ℕ). drop n all) size ∙ cut_drop HEAD_SIZE all bytes piece.rest piece.begins most piece.enough)),
    )

-- a payload is not there whole
pub payload_cut : (number size : ℕ) (left new : Option (List ℕ)) (bytes : List ℕ) → IsPieceOf size left new bytes → length bytes < size
    → ReadsPayload number size left new (Err fault.BadFrame)
payload_cut number size None new bytes piece less = tt
payload_cut number size (Some all) new bytes piece less = by piece.enough
  where
    by : (piece.rest ≡ []) ⊎ (size ≤ length bytes) → (length all < size) × (new ≡ Some [])
    by (inl ended) =
        let same : length all ≡ length bytes = ap length (piece.begins ∙ ap (λ (l : List ℕ). bytes ++ l) ended ∙ append-nil bytes) in
        (omega (arith, same, less), piece.left ∙ ap Some ended)
    by (inr enough) = absurd (omega (arith, less, enough))

-- a head was there, and then what stands behind it
pub headed_read : (left mid new : Option (List ℕ)) (bytes : List ℕ) (head : Head) (read : Result Frame FrameFault) → IsPieceOf HEAD_SIZE left mid bytes
    → length bytes ≤ HEAD_SIZE → 0 < length bytes → head_in bytes ≡ Some head → ReadsPayload head.number head.size mid new read → Reads left new (framed read)
headed_read None mid new bytes head read piece most some is reads = tt
headed_read (Some all) mid new bytes head read piece most some is reads = by read (subst (λ (m : Option (List ℕ)). ReadsPayload head.number head.size m new read) piece.left reads)
  where
    front : front_of all ≡ payload_front head.number head.size piece.rest
    front = front_headed all bytes piece.rest piece.begins most piece.enough some ∙ ap (λ (h : Option Head). headed h piece.rest) is

    size : frame_size all ≡ HEAD_SIZE + head.size
    size = size_headed all bytes piece.rest piece.begins most piece.enough ∙ ap size_by is

    behind : drop HEAD_SIZE all ≡ piece.rest
    behind = cut_drop HEAD_SIZE all bytes piece.rest piece.begins most piece.enough

    cut : length piece.rest < head.size → front_of all ≡ breaks
    cut less =
        front
        ∙ ap (λ (t : Bool). if t then breaks else holds (record { number = head.number; payload = take head.size piece.rest }) (drop head.size piece.rest))
        (lt-ltb (length piece.rest) head.size less)

    long : length all ≡ length bytes + length piece.rest
    long = ap length piece.begins ∙ length-append bytes piece.rest

    none : length piece.rest < head.size → drop (frame_size all) all ≡ []
    none less = drop_all (frame_size all) all (omega (arith, less, size, long, most))

    fewer : TakesFewer head.size piece.rest new → TakesFewer (frame_size all) all new
    fewer few = record {
      count = HEAD_SIZE + few.count;
      fewer = omega (arith, few.fewer, size);
      behind = few.behind ∙ ap Some (ap (drop few.count) (sym behind) ∙ drop_twice HEAD_SIZE few.count all);
    }

    by : (read : Result Frame FrameFault) → ReadsPayload head.number head.size (Some piece.rest) new read → Reads (Some all) new (framed read)
    by (Ok f) told = (told.0, told.1, front ∙ told.2)
    by (Err fault.BadFrame) told = (cut told.0, told.1 ∙ ap Some (sym (none told.0)))
    by (Err fault.ReadFault) told = fewer told
    by (Err fault.Memory) told = fewer told

-- nothing was read for another reason
pub payload_failed : (number size : ℕ) (left new : Option (List ℕ)) (given : FrameFault) → IsOfDevice given → TakesFewerOf size left new
    → ReadsPayload number size left new (Err given)
payload_failed number size None new given of few = tt
payload_failed number size (Some all) new fault.BadFrame of few = absurd of
payload_failed number size (Some all) new fault.ReadFault of few = few
payload_failed number size (Some all) new fault.Memory of few = few
