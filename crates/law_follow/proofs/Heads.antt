-- A head says what it spells, and what is said by a head spells it.
use Rattle.std.proofs.Common.{◌≡◌, ◌∙◌, sym, ap, subst, refl, Bool, true, false, ◌&&◌, List, [], ◌∷◌, ◌++◌, length, take, drop, get_or, ℕ, zero, suc, ◌^◌, ◌≤◌, ◌<◌, inr, Option, Some, None, Result, Ok, Err, IfOk, IfSome, arith, append_assoc, length-append, length-take, length-drop, take-append-drop}
use Rattle.std.specs.Prelude.{nat_le, nat_lt, ◌==◌, IsTrue, if◌then◌else◌}
use Rattle.std.specs.Int.{w32, w64, to_be_bytes}
use Rattle.std.specs.List.{list_all}
use Rattle.std.proofs.lemmas.Bool.{and_from, and_parts, le-leb, leb-true, ltb-false, ltb-true, le-ltb, eqb-true}
use Rattle.std.proofs.lemmas.Nat.{be_bytes_4, be_bytes_8, from_be_bytes-to_be_bytes_4, from_be_bytes-to_be_bytes_8}
use Rattle.std.proofs.lemmas.List.{take_all, take_at, drop_at}
use Rattle.law_journal.specs.Grammar.{is_size}
use Rattle.law_follow.specs.declared.frame.Frame.{Frame}
use Rattle.law_follow.specs.declared.frame.FrameFault.{FrameFault}
use Rattle.law_follow.specs.declared.frame.Head.{Head}
use Rattle.law_follow.specs.declared.frame.TheConstants.{HEAD_SIZE, MARK}
use Rattle.law_follow.specs.Frames.{Front, ends, holds, breaks, IsMessage, Message, frame, framed, front_of, message_of, head_in, head_of, headed, is_head, number_in, size_in}
use Rattle.law_follow.proofs.Fronts.{front_headed}

-- what a head keeps
pub record IsHead (bytes : List ℕ) (head : Head) : Type 0 where
  pub long : length bytes ≡ HEAD_SIZE
  pub mark : get_or bytes 0 0 ≡ MARK
  pub number : head.number ≡ number_in bytes
  pub size : head.size ≡ size_in bytes
  pub some : 1 ≤ head.number
  pub fits : IsTrue (is_size head.size)

pub head_is : (bytes : List ℕ) (head : Head) → head_in bytes ≡ Some head → IsHead bytes head
unfolding head_in
head_is bytes head is = by (is_head bytes) refl is
  where
    by : (t : Bool) → is_head bytes ≡ t → (if t then Some (record { number = number_in bytes; size = size_in bytes }) else None) ≡ Some head → IsHead bytes head
    by false other is = absurd (cc is)
    by true on is =
        let one : record { number = number_in bytes; size = size_in bytes } ≡ head = cc is in
        let ranges = nat_le 1 (number_in bytes) && is_size (size_in bytes) in
        let a = and_parts (length bytes == HEAD_SIZE) ((get_or bytes 0 0 == MARK) && ranges) on in
        let b = and_parts (get_or bytes 0 0 == MARK) ranges a.1 in
        let c = and_parts (nat_le 1 (number_in bytes)) (is_size (size_in bytes)) b.1 in
        subst (λ (h : Head). IsHead bytes h) one (record {
          long = eqb-true (length bytes) HEAD_SIZE a.0;
          mark = eqb-true (get_or bytes 0 0) MARK b.0;
          number = refl;
          size = refl;
          some = leb-true 1 (number_in bytes) c.0;
          fits = c.1;
        })

-- numbers are read as they are written
number_back : (number size : ℕ) → number < 2 ^ 64 → number_in (head_of number size) ≡ number
number_back number size low = from_be_bytes-to_be_bytes_8 number low

size_back : (number size : ℕ) → size < 2 ^ 32 → size_in (head_of number size) ≡ size
size_back number size low = from_be_bytes-to_be_bytes_4 size low

small : (size : ℕ) → IsTrue (is_size size) → size < 2 ^ 32
small size fits = let most = leb-true size 16777216 (and_parts (nat_le 1 size) (nat_le size 16777216) fits).1 in omega (arith, most)

abbrev made : ℕ → ℕ → Option Head
made number size = Some (record { number = number; size = size })

pub spelled_head : (number size : ℕ) → 1 ≤ number → number < 2 ^ 64 → IsTrue (is_size size) → head_in (head_of number size) ≡ Some (record { number = number; size = size })
unfolding head_in
spelled_head number size some low fits =
    let n = number_back number size low in
    let s = size_back number size (small size fits) in
    let keeps : is_head (head_of number size) ≡ true =
    ap (λ (k : ℕ). nat_le 1 k && is_size (size_in (head_of number size))) n
    ∙ ap (λ (k : ℕ). nat_le 1 number && is_size k) s
    ∙ and_from (nat_le 1 number) (is_size size) (le-leb 1 number some) fits in
    ap (λ (t : Bool). if t then made (number_in (head_of number size)) (size_in (head_of number size)) else None) keeps
    ∙ ap (λ (k : ℕ). made k (size_in (head_of number size))) n
    ∙ ap (λ (k : ℕ). made number k) s

-- each byte is one
each_byte : (bytes : List ℕ) → list_all (λ b. nat_lt b 256) bytes ≡ true → (i : ℕ) → get_or bytes i 0 < 256
each_byte [] all i = omega arith
each_byte (b ∷ bytes) all zero = ltb-true b 256 (and_parts (nat_lt b 256) (list_all (λ b. nat_lt b 256) bytes) all).0
each_byte (b ∷ bytes) all (suc i) = each_byte bytes (and_parts (nat_lt b 256) (list_all (λ b. nat_lt b 256) bytes) all).1 i

taken_small : (n : ℕ) (xs : List ℕ) → ((i : ℕ) → get_or xs i 0 < 256) → (i : ℕ) → get_or (take n xs) i 0 < 256
taken_small zero xs small i = omega arith
taken_small (suc n) [] small i = omega arith
taken_small (suc n) (x ∷ xs) small zero = small 0
taken_small (suc n) (x ∷ xs) small (suc i) = taken_small n xs (λ j. small (suc j)) i

dropped_small : (n : ℕ) (xs : List ℕ) → ((i : ℕ) → get_or xs i 0 < 256) → (i : ℕ) → get_or (drop n xs) i 0 < 256
dropped_small zero xs small i = small i
dropped_small (suc n) [] small i = omega arith
dropped_small (suc n) (x ∷ xs) small i = dropped_small n xs (λ j. small (suc j)) i

-- thirteen bytes, of which the first is the mark
parted : (bytes : List ℕ) → length bytes ≡ HEAD_SIZE → get_or bytes 0 0 ≡ MARK → MARK ∷ take 8 (drop 1 bytes) ++ take 4 (drop 9 bytes) ≡ bytes
parted [] long mark = absurd (omega (arith, long))
parted (b ∷ bytes) long mark =
    let last : take 4 (drop 8 bytes) ≡ drop 8 bytes = take_all 4 (drop 8 bytes) (omega (arith, long, length-drop 8 bytes)) in
    ap (λ (l : List ℕ). MARK ∷ take 8 bytes ++ l) last
    ∙ ap (λ (l : List ℕ). MARK ∷ l) (take-append-drop 8 bytes)
    ∙ ap (λ (k : ℕ). k ∷ bytes) (sym mark)

head_spelled : (bytes : List ℕ) (head : Head) → IsHead bytes head → ((i : ℕ) → get_or bytes i 0 < 256) → head_of head.number head.size ≡ bytes
head_spelled bytes head is small =
    let eight : length (take 8 (drop 1 bytes)) ≡ 8 = omega (arith, is.long, length-take 8 (drop 1 bytes), length-drop 1 bytes) in
    let four : length (take 4 (drop 9 bytes)) ≡ 4 = omega (arith, is.long, length-take 4 (drop 9 bytes), length-drop 9 bytes) in
    let number : to_be_bytes w64 head.number ≡ take 8 (drop 1 bytes) =
    be_bytes_8 (take 8 (drop 1 bytes)) head.number eight (taken_small 8 (drop 1 bytes) (dropped_small 1 bytes small)) is.number in
    let size : to_be_bytes w32 head.size ≡ take 4 (drop 9 bytes) =
    be_bytes_4 (take 4 (drop 9 bytes)) head.size four (taken_small 4 (drop 9 bytes) (dropped_small 9 bytes small)) is.size in
    ap (λ (l : List ℕ). MARK ∷ l ++ to_be_bytes w32 head.size) number
    ∙ ap (λ (l : List ℕ). MARK ∷ take 8 (drop 1 bytes) ++ l) size
    ∙ parted bytes is.long is.mark

-- what was read at the front: a head, and a payload behind it
record IsReadAs (first behind rest : List ℕ) (m : Message) : Type 0 where
  head : Head
  is : IsHead first head
  number : m.number ≡ head.number
  long : length m.payload ≡ head.size
  whole : m.payload ++ rest ≡ behind

abbrev message_in : Message → Front → Message
message_in other ends = other
message_in other (holds m rest) = m
message_in other breaks = other

abbrev rest_in : Front → List ℕ
rest_in ends = []
rest_in (holds m rest) = rest
rest_in breaks = []

taken_length : (n : ℕ) (xs : List ℕ) → n ≤ length xs → length (take n xs) ≡ n
taken_length n xs low = omega (arith, low, length-take n xs)

module _ (first behind rest : List ℕ) (m : Message) where
  fits : (head : Head) → head_in first ≡ Some head → (t : Bool) → nat_lt (length behind) head.size ≡ t
      → (if t then breaks else holds (record { number = head.number; payload = take head.size behind }) (drop head.size behind)) ≡ holds m rest
      → IsReadAs first behind rest m
  fits head told true short is = absurd (cc is)
  fits head told false enough is =
      let one : record { number = head.number; payload = take head.size behind } ≡ m = ap (message_in m) is in
      let other : drop head.size behind ≡ rest = ap rest_in is in
      let payload : take head.size behind ≡ m.payload = ap (λ (x : Message). x.payload) one in
      record {
        head = head;
        is = head_is first head told;
        number = sym (ap (λ (x : Message). x.number) one);
        long = ap length (sym payload) ∙ taken_length head.size behind (ltb-false (length behind) head.size enough);
        whole = ap (λ (l : List ℕ). l ++ rest) (sym payload)
            ∙ ap (λ (l : List ℕ). take head.size behind ++ l) (sym other)
            ∙ take-append-drop head.size behind;
      }

  headed_by : (found : Option Head) → head_in first ≡ found → headed found behind ≡ holds m rest → IsReadAs first behind rest m
  headed_by None told is = absurd (cc is)
  headed_by (Some head) told is = fits head told (nat_lt (length behind) head.size) refl is

  some_by : (t : Bool) → (if t then ends else headed (head_in first) behind) ≡ holds m rest → IsReadAs first behind rest m
  some_by true is = absurd (cc is)
  some_by false is = headed_by (head_in first) refl is

read_as : (bytes rest : List ℕ) (m : Message) → front_of bytes ≡ holds m rest → IsReadAs (take HEAD_SIZE bytes) (drop HEAD_SIZE bytes) rest m
unfolding front_of
read_as bytes rest m is = some_by (take HEAD_SIZE bytes) (drop HEAD_SIZE bytes) rest m (length bytes == 0) is

pub message_spelled : (bytes rest : List ℕ) (m : Message) → list_all (λ b. nat_lt b 256) bytes ≡ true → front_of bytes ≡ holds m rest → frame m ++ rest ≡ bytes
message_spelled bytes rest m all is =
    let r = read_as bytes rest m is in
    let spelled : head_of m.number (length m.payload) ≡ take HEAD_SIZE bytes =
    ap (λ (n : ℕ). head_of n (length m.payload)) r.number
    ∙ ap (λ (n : ℕ). head_of r.head.number n) r.long
    ∙ head_spelled (take HEAD_SIZE bytes) r.head r.is (taken_small HEAD_SIZE bytes (each_byte bytes all)) in
    append_assoc (head_of m.number (length m.payload)) m.payload rest
    ∙ ap (λ (l : List ℕ). head_of m.number (length m.payload) ++ l) r.whole
    ∙ ap (λ (l : List ℕ). l ++ drop HEAD_SIZE bytes) spelled
    ∙ take-append-drop HEAD_SIZE bytes

pub message_ruled : (bytes rest : List ℕ) (m : Message) → front_of bytes ≡ holds m rest → IsMessage m
message_ruled bytes rest m is =
    let r = read_as bytes rest m is in (
      subst (λ (n : ℕ). 1 ≤ n) (sym r.number) r.is.some,
      subst (λ (n : ℕ). IsTrue (is_size n)) (sym r.long) r.is.fits,
    )

thirteen : (number size : ℕ) → length (head_of number size) ≡ 13
thirteen number size = refl

-- a message is read from its frame
pub frame_read : (m : Message) (rest : List ℕ) → IsMessage m → m.number < 2 ^ 64 → front_of (frame m ++ rest) ≡ holds m rest
frame_read m rest is low =
    let size = length m.payload in
    let behind = m.payload ++ rest in
    let first = head_of m.number size in
    let long = thirteen m.number size in
    let head = spelled_head m.number size is.0 low is.1 in
    let enough : nat_lt (length behind) size ≡ false = le-ltb (length behind) size (omega (arith, length-append m.payload rest)) in
    front_headed (frame m ++ rest) first behind (append_assoc first m.payload rest) (omega (arith, long)) (inr (omega (arith, long))) (omega (arith, long))
    ∙ ap (λ (h : Option Head). headed h behind) head
    ∙ ap (λ (t : Bool). if t then breaks else holds (record { number = m.number; payload = take size behind }) (drop size behind)) enough
    ∙ ap (λ (p : List ℕ). holds (record { number = m.number; payload = p }) (drop size behind)) (take_at m.payload rest size refl)
    ∙ ap (λ (r : List ℕ). holds m r) (drop_at m.payload rest size refl)

-- a payload is not empty
pub some_payload : (bytes : List ℕ) (head : Head) → head_in bytes ≡ Some head → 1 ≤ head.size
some_payload bytes head is = leb-true 1 head.size (and_parts (nat_le 1 head.size) (nat_le head.size 16777216) (head_is bytes head is).fits).0

-- what was read behind a head that keeps its rules keeps those of messages
pub framed_ruled : (bytes : List ℕ) (head : Head) (read : Result Frame FrameFault) → head_in bytes ≡ Some head
    → IfOk read (λ f. (f.number ≡ head.number) × (length f.payload.items ≡ head.size)) → IfOk (framed read) (λ o. IfSome o (λ f. IsMessage (message_of f)))
framed_ruled bytes head (Ok f) is same =
    let h = head_is bytes head is in
    (subst (λ (n : ℕ). 1 ≤ n) (sym same.0) h.some, subst (λ (n : ℕ). IsTrue (is_size n)) (sym same.1) h.fits)
framed_ruled bytes head (Err given) is same = tt
