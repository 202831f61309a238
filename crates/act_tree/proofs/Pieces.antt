-- The pieces of a list: what stands at a place of one, and which of them a written value leaves.
use Rattle.std.proofs.Common.{◌≡◌, ◌∙◌, sym, ap, refl, subst, ℕ, zero, suc, ◌+◌, ◌-◌, ◌*◌, ◌/◌, min, ◌%◌, ◌<◌, ◌≤◌, Bool, true, false, true≢false, List, [], ◌∷◌, ◌++◌, length, get_or, set, take, drop, replicate, inl, inr, arith, suc-mul, div-lt_iff_lt-mul, le-div_iff_mul-le, add-mul, one-mul, take-add}
use Rattle.std.specs.List.{refill}
use Rattle.std.proofs.lemmas.Bool.{cases_lt, cases_eq}
use Rattle.std.proofs.lemmas.Grind.{div_ceil_times}
use Rattle.std.proofs.lemmas.Nat.{div-add-mod', mod_below, mul-le}
use Rattle.std.proofs.lemmas.List.{length-set, length-take, length-drop, length_push, get_or-take, get_or-drop, get_or-set_same, get_or-set_other, get_or_append_left, get_or_push, get_or_past, get_or_default, set-get_or, drop-set-lt, drop-set-add, take-set-le, drop_all, drop-append-le, take-append-le, take_all, take_at, take_more, append-nil, length-replicate, get_or-replicate}
use Rattle.std.proofs.lemmas.List.Concat.{flat_map-append}
use lib.Seq.{take-set-lt}
use Rattle.act_tree.specs.KeptLists.{ListValue, IsList, IsNoted, AreFresh, ArePieces, AreBlocks, joined_pieces, piece, values_in, room_in}

-- a place is in the piece of its quotient, and in no other
pub in_piece : (size i k : ℕ) → 0 < size → k * size ≤ i → i < k * size + size → k ≡ i / size
in_piece size i k some from to =
    let up : k ≤ i / size = (le-div_iff_mul-le some).1 from in
    let down : i / size < suc k = (div-lt_iff_lt-mul some).1 (subst (λ (n : ℕ). i < n) (sym (suc-mul k size)) to) in
    omega arith

-- a place in its piece is within what was taken of the list
long_enough : (q r size n taken dropped i : ℕ) → taken ≡ min size dropped → dropped ≡ n - q → q + r ≡ i → r < size → i < n → r < taken
long_enough q r size n taken dropped i is rest place low within = omega (arith, is, rest, place, low, within)

-- pieces of which none begins behind a list are no more than hold it
pub few_enough : (size len n m : ℕ) → n * size < len + size → len ≤ m * size → n ≤ m
few_enough size len n m ended enough = elim (cases_lt m n) [
  | inl more ↦ absurd (omega (arith, mul-le (m + 1) size n size (omega (arith, more)) (omega arith), add-mul m 1 size, one-mul size, ended, enough))
  | inr few ↦ few
]

-- so many begin within a list and hold it, and so they are as many as others that do
pub as_many : (size len n m : ℕ) → n * size < len + size → len ≤ n * size → ((k : ℕ) → k < m → k * size < len) → len ≤ m * size → n ≡ m
as_many size len n m ended enough low holds = elim (cases_lt n m) [
  | inl more ↦ absurd (omega (arith, low n more, enough))
  | inr most ↦ (let few : n ≤ m = few_enough size len n m ended holds in omega (arith, few, most))
]

-- where no piece is marked
pub none_marked : (n k : ℕ) → get_or (replicate n false) k false ≡ false
none_marked n k = elim (cases_lt k n) [
  | inl low ↦ get_or-replicate n k false false low
  | inr past ↦ get_or_past (replicate n false) k false (omega (arith, length-replicate n false, past))
]

module _ {T : Type 0} where
  -- what stands at a place of a list stands in its piece
  pub at_piece : (size : ℕ) (items : List T) (i : ℕ) (d : T) → 0 < size → get_or (piece size items (i / size)) (i % size) d ≡ get_or items i d
  at_piece size items i d some =
      get_or-take size (drop (i / size * size) items) (i % size) d (mod_below i size some) ∙ get_or-drop (i / size * size) items (i % size) d ∙ ap (λ (n : ℕ). get_or items n d) (div-add-mod' i size)

  pub piece_long : (size : ℕ) (items : List T) (i : ℕ) → 0 < size → i < length items → i % size < length (piece size items (i / size))
  piece_long size items i some low =
      long_enough (i / size * size) (i % size) size (length items) (length (piece size items (i / size))) (length (drop (i / size * size) items)) i
      (length-take size (drop (i / size * size) items)) (length-drop (i / size * size) items) (div-add-mod' i size) (mod_below i size some) low

  -- a value that is written leaves all pieces but its own
  pub piece_set : (size : ℕ) (items : List T) (i k : ℕ) (x : T) → 0 < size → (k ≡ i / size → ⊥) → piece size (set items i x) k ≡ piece size items k
  piece_set size items i k x some other =
      elim (cases_lt i (k * size)) [
        | inl before ↦ ap (take size) (drop-set-lt (k * size) items i x before)
        | inr from ↦ elim (cases_lt i (k * size + size)) [
          | inl to ↦ absurd (other (in_piece size i k some from to))
          | inr past ↦ (
              let j : ℕ = i - k * size in
              let place : k * size + j ≡ i = omega arith in
              ap (take size) (ap (λ (n : ℕ). drop (k * size) (set items n x)) (sym place) ∙ drop-set-add (k * size) items j x)
              ∙ take-set-le size (drop (k * size) items) j x (omega arith)
              )
        ]
      ]

  -- so does a value that comes behind the others
  pub piece_push : (size : ℕ) (items : List T) (k : ℕ) (x : T) → 0 < size → (k ≡ length items / size → ⊥) → piece size (items ++ x ∷ []) k ≡ piece size items k
  piece_push size items k x some other =
      elim (cases_lt (length items) (k * size)) [
        | inl before ↦ ap (take size) (drop_all (k * size) (items ++ x ∷ []) (omega (arith, length_push items x)) ∙ sym (drop_all (k * size) items (omega arith)))
        | inr from ↦ elim (cases_lt (length items) (k * size + size)) [
          | inl to ↦ absurd (other (in_piece size (length items) k some from to))
          | inr past ↦
              ap (take size) (drop-append-le (k * size) items (x ∷ []) from)
              ∙ take-append-le size (drop (k * size) items) (x ∷ []) (omega (arith, length-drop (k * size) items))
        ]
      ]

  -- in its own it stands at the remainder
  pub piece_set_here : (size : ℕ) (items : List T) (i : ℕ) (x : T) → 0 < size → piece size (set items i x) (i / size) ≡ set (piece size items (i / size)) (i % size) x
  piece_set_here size items i x some =
      ap (λ (n : ℕ). take size (drop (i / size * size) (set items n x))) (sym (div-add-mod' i size)) ∙ ap (take size) (drop-set-add (i / size * size) items (i % size) x)
      ∙ take-set-lt size (drop (i / size * size) items) (i % size) x (mod_below i size some)

  -- and a value that comes behind the others stands behind those of its piece
  pub piece_push_here : (size : ℕ) (items : List T) (k : ℕ) (x : T) → k * size ≤ length items → length items < k * size + size → piece size (items ++ x ∷ []) k ≡ piece size items k ++ x ∷ []
  piece_push_here size items k x from to =
      let rest : List T = drop (k * size) items in
      ap (take size) (drop-append-le (k * size) items (x ∷ []) from)
      ∙ take_all size (rest ++ x ∷ []) (omega (arith, length_push rest x, length-drop (k * size) items, from, to))
      ∙ ap (λ (xs : List T). xs ++ x ∷ []) (sym (take_all size rest (omega (arith, length-drop (k * size) items, from, to))))

  joined_push : (ps : List (List T)) (p : List T) → joined_pieces (ps ++ p ∷ []) ≡ joined_pieces ps ++ p
  joined_push ps p = flat_map-append (λ (q : List T). q) ps (p ∷ []) ∙ ap (λ (xs : List T). joined_pieces ps ++ xs) (append-nil p)

  -- the first pieces, one after another, are the front of the list
  pub joined_first : (size : ℕ) (items : List T) (pieces : List (List T)) (n : ℕ) → n ≤ length pieces → ((k : ℕ) → k < n → get_or pieces k [] ≡ piece size items k)
      → joined_pieces (take n pieces) ≡ take (n * size) items
  joined_first size items pieces zero within are = (let none : 0 ≡ 0 * size = omega arith in ap (λ (m : ℕ). take m items) none)
  joined_first size items pieces (suc n) within are =
      (let more : suc n ≡ n + 1 = omega arith in ap (λ (m : ℕ). joined_pieces (take m pieces)) more) ∙ ap joined_pieces (take_more pieces n [] (omega arith)) ∙ joined_push (take n pieces) (get_or pieces n [])
      ∙ ap (λ (xs : List T). xs ++ get_or pieces n []) (joined_first size items pieces n (omega arith) (λ k low. are k (omega arith)))
      ∙ ap (λ (p : List T). take (n * size) items ++ p) (are n (omega arith)) ∙ sym (take-add (n * size) size items)
      ∙ ap (λ (m : ℕ). take m items) (sym (suc-mul n size))

  pub joined_all : (size : ℕ) (items : List T) (pieces : List (List T)) (n : ℕ) → n ≤ length pieces → ((k : ℕ) → k < n → get_or pieces k [] ≡ piece size items k) → length items ≤ n * size
      → joined_pieces (take n pieces) ≡ items
  joined_all size items pieces n within are enough = joined_first size items pieces n within are ∙ take_all (n * size) items enough

  -- pieces that make up a list are it, one after another
  pub joined_are : (size : ℕ) (items : List T) (pieces : List (List T)) → ArePieces size items pieces → joined_pieces pieces ≡ items
  joined_are size items pieces are =
      ap joined_pieces (sym (take_all (length pieces) pieces (omega arith))) ∙ joined_all size items pieces (length pieces) (omega arith) are.here are.enough

  -- what stands at a place of a list stands in a piece that there is
  pub part_low : (size : ℕ) (items : List T) (pieces : List (List T)) → ArePieces size items pieces → (i : ℕ) → i < length items → i / size < length pieces
  part_low size items pieces are i low = (div-lt_iff_lt-mul are.some).1 (omega (arith, are.enough, low))

  -- pieces after a value was written
  pub pieces_set : (size : ℕ) (items : List T) (pieces : List (List T)) (i : ℕ) (x : T) (p : List T) → ArePieces size items pieces → i < length items → p ≡ set (get_or pieces (i / size) []) (i % size) x
      → ArePieces size (set items i x) (set pieces (i / size) p)
  pieces_set size items pieces i x p are low is =
      let there : i / size < length pieces = part_low size items pieces are i low in
      let many : length (set pieces (i / size) p) * size ≡ length pieces * size = ap (λ (m : ℕ). m * size) (length-set pieces (i / size) p) in
      record {
        some = are.some;
        here = λ k inside. elim (cases_eq k (i / size)) [
          | inl same ↦
              ap (λ (n : ℕ). get_or (set pieces (i / size) p) n []) same ∙ get_or-set_same pieces (i / size) p [] there ∙ is ∙ ap (λ (q : List T). set q (i % size) x) (are.here (i / size) there)
              ∙ sym (piece_set_here size items i x are.some) ∙ ap (piece size (set items i x)) (sym same)
          | inr other ↦
              get_or-set_other pieces (i / size) k p [] other ∙ are.here k (omega (arith, length-set pieces (i / size) p, inside)) ∙ sym (piece_set size items i k x are.some other)
        ];
        enough = omega (arith, are.enough, many, length-set items i x);
        ended = omega (arith, are.ended, many, length-set items i x);
      }

  -- pieces after a value came behind the others, where the last one had room
  pub pieces_more : (size : ℕ) (items : List T) (pieces : List (List T)) (n : ℕ) (x : T) (p : List T) → ArePieces size items pieces → length pieces ≡ n + 1 → length items < length pieces * size → p ≡ get_or pieces n [] ++ x ∷ []
      → ArePieces size (items ++ x ∷ []) (set pieces n p)
  pieces_more size items pieces n x p are last room is =
      let rows : length pieces * size ≡ n * size + size = ap (λ (m : ℕ). m * size) last ∙ add-mul n 1 size ∙ ap (λ (m : ℕ). n * size + m) (one-mul size) in
      let from : n * size ≤ length items = omega (arith, rows, are.ended) in
      let to : length items < n * size + size = omega (arith, rows, room) in
      let mine : n ≡ length items / size = in_piece size (length items) n are.some from to in
      let many : length (set pieces n p) * size ≡ length pieces * size = ap (λ (m : ℕ). m * size) (length-set pieces n p) in
      record {
        some = are.some;
        here = λ k inside. elim (cases_eq k n) [
          | inl same ↦
              ap (λ (j : ℕ). get_or (set pieces n p) j []) same ∙ get_or-set_same pieces n p [] (omega (arith, last)) ∙ is ∙ ap (λ (q : List T). q ++ x ∷ []) (are.here n (omega (arith, last)))
              ∙ sym (piece_push_here size items n x from to) ∙ ap (piece size (items ++ x ∷ [])) (sym same)
          | inr other ↦
              get_or-set_other pieces n k p [] other ∙ are.here k (omega (arith, length-set pieces n p, inside)) ∙ sym (piece_push size items k x are.some (λ e. other (e ∙ sym mine)))
        ];
        enough = omega (arith, room, many, length_push items x);
        ended = omega (arith, are.ended, many, length_push items x);
      }

  -- and where it was full
  pub pieces_next : (size : ℕ) (items : List T) (pieces : List (List T)) (x : T) → ArePieces size items pieces → length items ≡ length pieces * size → ArePieces size (items ++ x ∷ []) (pieces ++ (x ∷ []) ∷ [])
  pieces_next size items pieces x are full =
      let n : ℕ = length pieces in
      let from : n * size ≤ length items = omega (arith, full) in
      let to : length items < n * size + size = omega (arith, full, are.some) in
      let mine : n ≡ length items / size = in_piece size (length items) n are.some from to in
      let many : length (pieces ++ (x ∷ []) ∷ []) * size ≡ n * size + size = ap (λ (m : ℕ). m * size) (length_push pieces (x ∷ [])) ∙ add-mul n 1 size ∙ ap (λ (m : ℕ). n * size + m) (one-mul size) in
      let alone : piece size items n ≡ [] = ap (take size) (drop_all (n * size) items (omega (arith, full))) ∙ take_all size [] (omega arith) in
      record {
        some = are.some;
        here = λ k inside. elim (cases_lt k n) [
          | inl low ↦ get_or_append_left pieces ((x ∷ []) ∷ []) [] k low ∙ are.here k low ∙ sym (piece_push size items k x are.some (λ e. omega (arith, e, mine, low)))
          | inr high ↦ (
              let same : k ≡ n = omega (arith, high, length_push pieces (x ∷ []), inside) in
              ap (λ (j : ℕ). get_or (pieces ++ (x ∷ []) ∷ []) j []) same ∙ get_or_push pieces (x ∷ []) [] n refl ∙ ap (λ (q : List T). q ++ x ∷ []) (sym alone)
              ∙ sym (piece_push_here size items n x from to) ∙ ap (piece size (items ++ x ∷ [])) (sym same)
              )
        ];
        enough = omega (arith, many, length_push items x, full, are.some);
        ended = omega (arith, many, length_push items x, full);
      }

  -- an own list of which a piece became another, where that is noted
  list_marked : (size : ℕ) (own now : List T) (pieces : List (List T)) (written : List Bool) (count q : ℕ) → IsList size true own pieces written count
      → length own ≤ length now → ((k : ℕ) → (k ≡ q → ⊥) → piece size now k ≡ piece size own k) → IsList size true now pieces (set written q true) count
  list_marked size own now pieces written count q is longer alike =
      let many : length written ≡ length pieces = is.noted refl in
      record {
        some = is.some;
        shared = λ k low fresh. elim (cases_eq k q) [
          | inl same ↦ absurd (true≢false (sym (get_or-set_same written q true false (omega (arith, many, same, low))) ∙ ap (λ (n : ℕ). get_or (set written q true) n false) (sym same) ∙ fresh))
          | inr other ↦ is.shared k low (sym (get_or-set_other written q k true false other) ∙ fresh) ∙ sym (alike k other)
        ];
        ended = omega (arith, is.ended, longer);
        noted = λ _. length-set written q true ∙ many;
        unwritten = λ kept. absurd (true≢false kept);
        enough = λ kept. absurd (true≢false kept);
        counted = λ kept. absurd (true≢false kept);
      }

  -- an own list after a value was written
  pub list_set : (size : ℕ) (own : List T) (pieces : List (List T)) (written : List Bool) (count i : ℕ) (x : T) → IsList size true own pieces written count
      → IsList size true (set own i x) pieces (set written (i / size) true) count
  list_set size own pieces written count i x is =
      list_marked size own (set own i x) pieces written count (i / size) is (omega (arith, length-set own i x)) (λ k other. piece_set size own i k x is.some other)

  -- an own list after a value came behind the others
  pub list_push : (size : ℕ) (own : List T) (pieces : List (List T)) (written : List Bool) (count : ℕ) (x : T) → IsList size true own pieces written count
      → IsList size true (own ++ x ∷ []) pieces (set written (length own / size) true) count
  list_push size own pieces written count x is =
      list_marked size own (own ++ x ∷ []) pieces written count (length own / size) is (omega (arith, length_push own x)) (λ k other. piece_push size own k x is.some other)

  -- what stands at a place of a kept list, in the piece of the place
  pub in_pieces : (size : ℕ) (own : List T) (pieces : List (List T)) (written : List Bool) (count : ℕ) → IsList size false own pieces written count → (i : ℕ) → i < length (joined_pieces pieces)
      → (i / size < length pieces) × (get_or pieces (i / size) [] ≡ piece size (joined_pieces pieces) (i / size))
  in_pieces size own pieces written count is i low =
      let place : i / size < length pieces = (div-lt_iff_lt-mul is.some).1 (omega (arith, is.enough refl, is.counted refl)) in
      (place, is.shared (i / size) place (ap (λ (bs : List Bool). get_or bs (i / size) false) (is.unwritten refl)))

  -- a list, as it is seen
  abbrev pub seen : Bool → List T → List (List T) → ℕ → ListValue T
  seen b own pieces spare = record { items = values_in b own pieces; is_own = b; room = room_in b spare }

  -- an own list, as it is seen
  pub own_inside : (b : Bool) (own : List T) (pieces : List (List T)) (spare : ℕ) (v : ListValue T) → seen b own pieces spare ≡ v → v.is_own ≡ true
      → (b ≡ true) × ((own ≡ v.items) × (spare ≡ v.room))
  own_inside b own pieces spare v is owned =
      let own_it : b ≡ true = ap (λ (u : ListValue T). u.is_own) is ∙ owned in
      (own_it, (sym (ap (λ (c : Bool). values_in c own pieces) own_it) ∙ ap (λ (u : ListValue T). u.items) is, sym (ap (λ (c : Bool). room_in c spare) own_it) ∙ ap (λ (u : ListValue T). u.room) is))

  -- a kept list, as it is seen
  pub kept_inside : (b : Bool) (own : List T) (pieces : List (List T)) (spare : ℕ) (v : ListValue T) → seen b own pieces spare ≡ v → v.is_own ≡ false
      → (b ≡ false) × (joined_pieces pieces ≡ v.items)
  kept_inside b own pieces spare v is kept =
      let kept_it : b ≡ false = ap (λ (u : ListValue T). u.is_own) is ∙ kept in
      (kept_it, sym (ap (λ (c : Bool). values_in c own pieces) kept_it) ∙ ap (λ (u : ListValue T). u.items) is)

  -- an own list, whatever tells that it is own
  as_own : (size : ℕ) (own : List T) (pieces : List (List T)) (written : List Bool) (count : ℕ) (b : Bool) → b ≡ true → IsList size b own pieces written count → IsList size true own pieces written count
  as_own size own pieces written count b is l = subst (λ (c : Bool). IsList size c own pieces written count) is l

  pub set_own : (size : ℕ) (own : List T) (pieces : List (List T)) (written : List Bool) (count i : ℕ) (x : T) (b : Bool) → b ≡ true → IsList size b own pieces written count
      → IsList size b (set own i x) pieces (set written (i / size) true) count
  set_own size own pieces written count i x b is l =
      subst (λ (c : Bool). IsList size c (set own i x) pieces (set written (i / size) true) count) (sym is) (list_set size own pieces written count i x (as_own size own pieces written count b is l))

  pub push_own : (size : ℕ) (own : List T) (pieces : List (List T)) (written : List Bool) (count : ℕ) (x : T) (b : Bool) → b ≡ true → IsList size b own pieces written count
      → IsList size b (own ++ x ∷ []) pieces (set written (length own / size) true) count
  push_own size own pieces written count x b is l =
      subst (λ (c : Bool). IsList size c (own ++ x ∷ []) pieces (set written (length own / size) true) count) (sym is) (list_push size own pieces written count x (as_own size own pieces written count b is l))

  -- an own list without the pieces that were made of it
  pub forgotten_own : (size : ℕ) (own now : List T) (pieces gone : List (List T)) (written marks : List Bool) (count : ℕ) (b : Bool) → b ≡ true → IsList size b own pieces written count → gone ≡ [] → marks ≡ []
      → IsList size b now gone marks count
  forgotten_own size own now pieces gone written marks count b is l empty none =
      let made : IsList size b now [] [] count = record {
        some = l.some;
        shared = λ k low fresh. absurd (omega (arith, low));
        ended = omega (arith, l.some);
        noted = λ _. refl;
        unwritten = λ _. refl;
        enough = λ kept. absurd (true≢false (sym is ∙ kept));
        counted = λ kept. absurd (true≢false (sym is ∙ kept));
      } in
      subst (λ (ps : List (List T)). IsList size b now ps marks count) (sym empty) (subst (λ (ms : List Bool). IsList size b now [] ms count) (sym none) made)

  -- what is noted of the pieces of an own list
  pub noted_of : (size : ℕ) (own : List T) (pieces : List (List T)) (written : List Bool) (count : ℕ) (b : Bool) → b ≡ true → IsList size b own pieces written count → IsNoted size own pieces written
  noted_of size own pieces written count b is l =
      let it : IsList size true own pieces written count = as_own size own pieces written count b is l in
      record { shared = it.shared; ended = it.ended; noted = it.noted refl }

  pub own_of : (size : ℕ) (own : List T) (pieces : List (List T)) (written : List Bool) (count : ℕ) (b : Bool) → b ≡ true → 0 < size → IsNoted size own pieces written → IsList size b own pieces written count
  own_of size own pieces written count b is some n =
      let it : IsList size true own pieces written count = record {
        some = some;
        shared = n.shared;
        ended = n.ended;
        noted = λ _. n.noted;
        unwritten = λ kept. absurd (true≢false kept);
        enough = λ kept. absurd (true≢false kept);
        counted = λ kept. absurd (true≢false kept);
      } in
      subst (λ (c : Bool). IsList size c own pieces written count) (sym is) it

  -- the pieces of which nothing was written make up the list
  pub all_fresh : (size : ℕ) (items : List T) (pieces : List (List T)) (written : List Bool) (n : ℕ) → 0 < size → IsNoted size items pieces written → AreFresh n pieces written → length items ≤ n * size → ArePieces size items pieces
  all_fresh size items pieces written n some noted fresh enough =
      let few : length pieces ≤ n = few_enough size (length items) (length pieces) n noted.ended enough in
      let many : length pieces ≡ n = omega (arith, few, fresh.within) in
      record {
        some = some;
        here = λ k low. noted.shared k low (fresh.fresh k (omega (arith, low, many)));
        enough = omega (arith, enough, ap (λ (m : ℕ). m * size) many);
        ended = noted.ended;
      }

  -- and are a kept list of the same values
  pub kept_of : (size : ℕ) (own now : List T) (pieces shared : List (List T)) (none : List Bool) (len : ℕ) → ArePieces size own pieces → shared ≡ pieces → none ≡ [] → len ≡ length own
      → (joined_pieces shared ≡ own) × IsList size false now shared none len
  kept_of size own now pieces shared none len are same empty counted =
      let all : joined_pieces pieces ≡ own = joined_are size own pieces are in
      let long : length (joined_pieces pieces) ≡ length own = ap (λ (xs : List T). length xs) all in
      let P : List (List T) → Type 0 = λ ps. (joined_pieces ps ≡ own) × IsList size false now ps none len in
      let it : IsList size false now pieces none len = record {
        some = are.some;
        shared = λ k low told. are.here k low ∙ ap (λ (xs : List T). piece size xs k) (sym all);
        ended = omega (arith, are.ended, long);
        noted = λ owned. absurd (true≢false (sym owned));
        unwritten = λ _. empty;
        enough = λ _. omega (arith, are.enough, counted);
        counted = λ _. counted ∙ sym long;
      } in
      subst P (sym same) (all, it)

  -- a kept list of the same pieces
  pub kept_too : (size : ℕ) (own now : List T) (pieces shared : List (List T)) (written none : List Bool) (count : ℕ) (b : Bool) → b ≡ false → IsList size b own pieces written count → shared ≡ pieces → none ≡ []
      → IsList size false now shared none count
  kept_too size own now pieces shared written none count b is l same empty =
      let it : IsList size false own pieces written count = subst (λ (c : Bool). IsList size c own pieces written count) is l in
      let made : IsList size false now pieces none count = record {
        some = it.some;
        shared = λ k low fresh. it.shared k low (ap (λ (bs : List Bool). get_or bs k false) (it.unwritten refl));
        ended = it.ended;
        noted = λ owned. absurd (true≢false (sym owned));
        unwritten = λ _. empty;
        enough = it.enough;
        counted = it.counted;
      } in
      subst (λ (ps : List (List T)). IsList size false now ps none count) (sym same) made

  -- an own list of the same values, beside the pieces of the one that it was made of
  pub owned_too : (size : ℕ) (own now : List T) (pieces shared : List (List T)) (written marks : List Bool) (count : ℕ) (b : Bool) → IsList size b own pieces written count → now ≡ values_in b own pieces → shared ≡ pieces
      → length marks ≡ length pieces → ((k : ℕ) → get_or marks k false ≡ get_or written k false) → IsList size true now shared marks 0
  owned_too size own now pieces shared written marks count b l values same many alike =
      let made : IsList size true now pieces marks 0 = record {
        some = l.some;
        shared = λ k low fresh. l.shared k low (sym (alike k) ∙ fresh) ∙ ap (λ (xs : List T). piece size xs k) (sym values);
        ended = omega (arith, l.ended, ap (λ (xs : List T). length xs) values);
        noted = λ _. many;
        unwritten = λ kept. absurd (true≢false kept);
        enough = λ kept. absurd (true≢false kept);
        counted = λ kept. absurd (true≢false kept);
      } in
      subst (λ (ps : List (List T)). IsList size true now ps marks 0) (sym same) made

  -- a piece was made anew
  pub noted_set : (size : ℕ) (items : List T) (pieces : List (List T)) (written : List Bool) (i : ℕ) (made : List T) → IsNoted size items pieces written → i < length pieces → made ≡ piece size items i
      → IsNoted size items (set pieces i made) (set written i false)
  noted_set size items pieces written i made n low is = record {
    shared = λ k inside fresh. elim (cases_eq k i) [
      | inl same ↦ ap (λ (j : ℕ). get_or (set pieces i made) j []) same ∙ get_or-set_same pieces i made [] low ∙ is ∙ ap (piece size items) (sym same)
      | inr other ↦
          get_or-set_other pieces i k made [] other ∙ n.shared k (omega (arith, length-set pieces i made, inside)) (sym (get_or-set_other written i k false false other) ∙ fresh)
    ];
    ended = omega (arith, n.ended, ap (λ (m : ℕ). m * size) (length-set pieces i made));
    noted = length-set written i false ∙ n.noted ∙ sym (length-set pieces i made);
  }

  pub fresh_set : (pieces : List (List T)) (written : List Bool) (i : ℕ) (made : List T) → length written ≡ length pieces → AreFresh i pieces written → i < length pieces
      → AreFresh (i + 1) (set pieces i made) (set written i false)
  fresh_set pieces written i made many f low = record {
    within = omega (arith, length-set pieces i made, low);
    fresh = λ k inside. elim (cases_lt k i) [
      | inl before ↦ get_or-set_other written i k false false (λ same. omega (arith, same, before)) ∙ f.fresh k before
      | inr high ↦ (
          let same : k ≡ i = omega (arith, high, inside) in
          ap (λ (j : ℕ). get_or (set written i false) j false) same ∙ get_or-set_same written i false false (omega (arith, many, low))
          )
    ];
  }

  -- nothing was written of a piece that is there
  pub fresh_more : (pieces : List (List T)) (written : List Bool) (i : ℕ) → AreFresh i pieces written → i < length pieces → get_or written i false ≡ false → AreFresh (i + 1) pieces written
  fresh_more pieces written i f low none = record {
    within = omega (arith, low);
    fresh = λ k inside. elim (cases_lt k i) [
      | inl before ↦ f.fresh k before
      | inr high ↦ (let same : k ≡ i = omega (arith, high, inside) in ap (λ (j : ℕ). get_or written j false) same ∙ none)
    ];
  }

  -- a piece came behind the others
  pub noted_push : (size : ℕ) (items : List T) (pieces : List (List T)) (written : List Bool) (i : ℕ) (made : List T) → IsNoted size items pieces written → i ≡ length pieces → i * size < length items → made ≡ piece size items i
      → IsNoted size items (pieces ++ made ∷ []) (written ++ false ∷ [])
  noted_push size items pieces written i made n place begins is = record {
    shared = λ k inside fresh. elim (cases_lt k (length pieces)) [
      | inl low ↦
          get_or_append_left pieces (made ∷ []) [] k low ∙ n.shared k low (sym (get_or_append_left written (false ∷ []) false k (omega (arith, n.noted, low))) ∙ fresh)
      | inr high ↦ (
          let same : k ≡ i = omega (arith, place, high, length_push pieces made, inside) in
          ap (λ (j : ℕ). get_or (pieces ++ made ∷ []) j []) same ∙ get_or_push pieces made [] i (sym place) ∙ is ∙ ap (piece size items) (sym same)
          )
    ];
    ended = (
        let many : length (pieces ++ made ∷ []) * size ≡ length pieces * size + size = ap (λ (m : ℕ). m * size) (length_push pieces made) ∙ add-mul (length pieces) 1 size ∙ ap (λ (m : ℕ). length pieces * size + m) (one-mul size) in
        omega (arith, many, ap (λ (m : ℕ). m * size) place, begins)
        );
    noted = length_push written false ∙ ap (λ (m : ℕ). m + 1) n.noted ∙ sym (length_push pieces made);
  }

  pub fresh_push : (pieces : List (List T)) (written : List Bool) (i : ℕ) (made : List T) → length written ≡ length pieces → AreFresh i pieces written → i ≡ length pieces
      → AreFresh (i + 1) (pieces ++ made ∷ []) (written ++ false ∷ [])
  fresh_push pieces written i made many f place = record {
    within = omega (arith, place, length_push pieces made);
    fresh = λ k inside. elim (cases_lt k i) [
      | inl low ↦ get_or_append_left written (false ∷ []) false k (omega (arith, place, many, low)) ∙ f.fresh k low
      | inr high ↦ (
          let same : k ≡ i = omega (arith, high, inside) in
          ap (λ (j : ℕ). get_or (written ++ false ∷ []) j false) same ∙ get_or_push written false false i (many ∙ sym place)
          )
    ];
  }

  -- none of the pieces was looked at yet
  pub fresh_none : (pieces : List (List T)) (written : List Bool) → AreFresh 0 pieces written
  fresh_none pieces written = record { within = omega arith; fresh = λ k inside. absurd (omega (arith, inside)) }

  -- a list that is put over another of its length
  pub refilled : (items now : List T) → length now ≡ length items → refill (length items) items now ≡ now
  refilled items now many = take_at now (drop (length now) items) (length items) many

  -- what stands at a place of a kept list, as it is seen
  pub kept_at : (size : ℕ) (b : Bool) (own : List T) (pieces : List (List T)) (written : List Bool) (count spare : ℕ) (v : ListValue T) → seen b own pieces spare ≡ v → v.is_own ≡ false
      → IsList size b own pieces written count → (i : ℕ) → i < length v.items
      → (i / size < length pieces) × ((i % size < length (get_or pieces (i / size) [])) × ((d : T) → get_or (get_or pieces (i / size) []) (i % size) d ≡ get_or v.items i d))
  kept_at size b own pieces written count spare v is kept l i low =
      let k : (b ≡ false) × (joined_pieces pieces ≡ v.items) = kept_inside b own pieces spare v is kept in
      let it : IsList size false own pieces written count = subst (λ (c : Bool). IsList size c own pieces written count) k.0 l in
      let inside : i < length (joined_pieces pieces) = subst (λ (xs : List T). i < length xs) (sym k.1) low in
      let here = in_pieces size own pieces written count it i inside in (
        here.0,
        (
          subst (λ (p : List T). i % size < length p) (sym here.1) (piece_long size (joined_pieces pieces) i it.some inside),
          λ d. ap (λ (p : List T). get_or p (i % size) d) here.1 ∙ at_piece size (joined_pieces pieces) i d it.some ∙ ap (λ (xs : List T). get_or xs i d) k.1,
        ),
      )

  -- the same in parts, for a piece that was read
  read_piece : (pieces : List (List T)) (k : ℕ) (p q : List T) → k < length pieces → p ≡ get_or pieces k p → q ≡ p → q ≡ get_or pieces k []
  read_piece pieces k p q low read same = same ∙ read ∙ get_or_default pieces k p [] low

  pub kept_place : (size : ℕ) (b : Bool) (own : List T) (pieces : List (List T)) (written : List Bool) (count spare : ℕ) (v : ListValue T) → seen b own pieces spare ≡ v → v.is_own ≡ false
      → IsList size b own pieces written count → (i : ℕ) → i < length v.items → i / size < length pieces
  kept_place size b own pieces written count spare v is kept l i low = (kept_at size b own pieces written count spare v is kept l i low).0

  pub kept_rest : (size : ℕ) (b : Bool) (own : List T) (pieces : List (List T)) (written : List Bool) (count spare : ℕ) (v : ListValue T) → seen b own pieces spare ≡ v → v.is_own ≡ false
      → IsList size b own pieces written count → (i : ℕ) → i < length v.items → (p q : List T) → p ≡ get_or pieces (i / size) p → q ≡ p → i % size < length q
  kept_rest size b own pieces written count spare v is kept l i low p q read same =
      let at = kept_at size b own pieces written count spare v is kept l i low in
      subst (λ (r : List T). i % size < length r) (sym (read_piece pieces (i / size) p q at.0 read same)) at.1.0

  pub kept_value : (size : ℕ) (b : Bool) (own : List T) (pieces : List (List T)) (written : List Bool) (count spare : ℕ) (v : ListValue T) → seen b own pieces spare ≡ v → v.is_own ≡ false
      → IsList size b own pieces written count → (i : ℕ) → i < length v.items → (p q : List T) (x : T) → p ≡ get_or pieces (i / size) p → q ≡ p → x ≡ get_or q (i % size) x → x ≡ get_or v.items i x
  kept_value size b own pieces written count spare v is kept l i low p q x read same value =
      let at = kept_at size b own pieces written count spare v is kept l i low in
      value ∙ ap (λ (r : List T). get_or r (i % size) x) (read_piece pieces (i / size) p q at.0 read same) ∙ at.1.1 x

  -- what is seen of an own list
  pub own_values : (b : Bool) (own : List T) (pieces : List (List T)) (spare : ℕ) (v : ListValue T) → seen b own pieces spare ≡ v → v.is_own ≡ true → own ≡ v.items
  own_values b own pieces spare v is owned = (own_inside b own pieces spare v is owned).1.0

  pub own_within : (b : Bool) (own : List T) (pieces : List (List T)) (spare i : ℕ) (v : ListValue T) → seen b own pieces spare ≡ v → v.is_own ≡ true → i < length v.items → i < length own
  own_within b own pieces spare i v is owned low = subst (λ (xs : List T). i < length xs) (sym (own_values b own pieces spare v is owned)) low

  pub own_room : (b : Bool) (own : List T) (pieces : List (List T)) (spare : ℕ) (v : ListValue T) → seen b own pieces spare ≡ v → v.is_own ≡ true → spare ≡ v.room
  own_room b own pieces spare v is owned = (own_inside b own pieces spare v is owned).1.1

  pub same_own : (b : Bool) (own : List T) (pieces : List (List T)) (spare : ℕ) (v : ListValue T) → seen b own pieces spare ≡ v → v.is_own ≡ true → b ≡ true
  same_own b own pieces spare v is owned = (own_inside b own pieces spare v is owned).0

  pub same_values : (b : Bool) (own now : List T) (pieces : List (List T)) (spare : ℕ) (v : ListValue T) → seen b own pieces spare ≡ v → now ≡ own → values_in b now pieces ≡ v.items
  same_values b own now pieces spare v is same = ap (λ (xs : List T). values_in b xs pieces) same ∙ ap (λ (u : ListValue T). u.items) is

  pub more_room : (b : Bool) (own : List T) (pieces : List (List T)) (spare more : ℕ) (v : ListValue T) → seen b own pieces spare ≡ v → v.is_own ≡ true → spare ≤ more → v.room ≤ room_in b more
  more_room b own pieces spare more v is owned larger =
      subst (λ (n : ℕ). n ≤ room_in b more) (own_room b own pieces spare v is owned) (subst (λ (c : Bool). spare ≤ room_in c more) (sym (same_own b own pieces spare v is owned)) larger)

  -- the same where the field itself tells that it is own, or kept
  pub own_many : (b : Bool) (own : List T) (pieces : List (List T)) (spare : ℕ) (v : ListValue T) → seen b own pieces spare ≡ v → b ≡ true → length own ≡ length v.items
  own_many b own pieces spare v is owned = ap (λ (c : Bool). length (values_in c own pieces)) (sym owned) ∙ ap (λ (u : ListValue T). length u.items) is

  pub own_here : (b : Bool) (own : List T) (pieces : List (List T)) (spare i : ℕ) (v : ListValue T) → seen b own pieces spare ≡ v → b ≡ true → i < length v.items → i < length own
  own_here b own pieces spare i v is owned low = subst (λ (n : ℕ). i < n) (sym (own_many b own pieces spare v is owned)) low

  pub own_value : (b : Bool) (own : List T) (pieces : List (List T)) (spare i : ℕ) (x : T) (v : ListValue T) → seen b own pieces spare ≡ v → b ≡ true → x ≡ get_or own i x → x ≡ get_or v.items i x
  own_value b own pieces spare i x v is owned read = read ∙ ap (λ (c : Bool). get_or (values_in c own pieces) i x) (sym owned) ∙ ap (λ (u : ListValue T). get_or u.items i x) is

  pub seen_kept : (b : Bool) (own : List T) (pieces : List (List T)) (spare : ℕ) (v : ListValue T) → seen b own pieces spare ≡ v → b ≡ false → v.is_own ≡ false
  seen_kept b own pieces spare v is kept = sym (ap (λ (u : ListValue T). u.is_own) is) ∙ kept

  pub how_many : (size : ℕ) (b : Bool) (own : List T) (pieces : List (List T)) (written : List Bool) (count spare : ℕ) (v : ListValue T) → seen b own pieces spare ≡ v → IsList size b own pieces written count → b ≡ false
      → count ≡ length v.items
  how_many size b own pieces written count spare v is l kept =
      l.counted kept ∙ ap (λ (c : Bool). length (values_in c own pieces)) (sym kept) ∙ ap (λ (u : ListValue T). length u.items) is

  -- an own list after a write, as it is seen
  pub set_seen : (size : ℕ) (own : List T) (pieces : List (List T)) (written marks : List Bool) (count i spare : ℕ) (x : T) (b : Bool) (v : ListValue T) → seen b own pieces spare ≡ v → v.is_own ≡ true
      → IsList size b own pieces written count → marks ≡ set written (i / size) true → IsList size b (set own i x) pieces marks count
  set_seen size own pieces written marks count i spare x b v is owned l noted =
      subst (λ (ms : List Bool). IsList size b (set own i x) pieces ms count) (sym noted) (set_own size own pieces written count i x b (same_own b own pieces spare v is owned) l)

  pub push_seen : (size : ℕ) (own more : List T) (pieces : List (List T)) (written marks : List Bool) (count n spare : ℕ) (x : T) (b : Bool) (v : ListValue T) → seen b own pieces spare ≡ v → v.is_own ≡ true
      → IsList size b own pieces written count → n ≡ length own → marks ≡ set written (n / size) true → more ≡ own ++ x ∷ [] → IsList size b more pieces marks count
  push_seen size own more pieces written marks count n spare x b v is owned l many noted longer =
      subst (λ (xs : List T). IsList size b xs pieces marks count) (sym longer)
      (subst (λ (ms : List Bool). IsList size b (own ++ x ∷ []) pieces ms count) (sym (noted ∙ ap (λ (m : ℕ). set written (m / size) true) many))
      (push_own size own pieces written count x b (same_own b own pieces spare v is owned) l))

  pub forgotten_seen : (size : ℕ) (own now : List T) (pieces gone : List (List T)) (written marks : List Bool) (count spare : ℕ) (b : Bool) (v : ListValue T) → seen b own pieces spare ≡ v → v.is_own ≡ true
      → IsList size b own pieces written count → gone ≡ [] → marks ≡ [] → IsList size b now gone marks count
  forgotten_seen size own now pieces gone written marks count spare b v is owned l empty none =
      forgotten_own size own now pieces gone written marks count b (same_own b own pieces spare v is owned) l empty none

  -- of the pieces nothing changed
  pub noted_same : (size : ℕ) (items : List T) (pieces now : List (List T)) (written marks : List Bool) → IsNoted size items pieces written → now ≡ pieces → marks ≡ written → IsNoted size items now marks
  noted_same size items pieces now written marks n same alike =
      subst (λ (ps : List (List T)). IsNoted size items ps marks) (sym same) (subst (λ (ms : List Bool). IsNoted size items pieces ms) (sym alike) n)

  pub noted_next : (size : ℕ) (items : List T) (pieces now : List (List T)) (written marks : List Bool) (i : ℕ) (made : List T) → IsNoted size items pieces written → i ≡ length pieces → i * size < length items
      → made ≡ piece size items i → now ≡ pieces ++ made ∷ [] → marks ≡ written ++ false ∷ [] → IsNoted size items now marks
  noted_next size items pieces now written marks i made n place begins is longer noted =
      noted_same size items (pieces ++ made ∷ []) now (written ++ false ∷ []) marks (noted_push size items pieces written i made n place begins is) longer noted

  pub fresh_next : (size : ℕ) (items : List T) (pieces now : List (List T)) (written marks : List Bool) (i : ℕ) (made : List T) → IsNoted size items pieces written → AreFresh i pieces written → i ≡ length pieces
      → now ≡ pieces ++ made ∷ [] → marks ≡ written ++ false ∷ [] → AreFresh (i + 1) now marks
  fresh_next size items pieces now written marks i made n f place longer noted =
      subst (λ (ps : List (List T)). AreFresh (i + 1) ps marks) (sym longer) (subst (λ (ms : List Bool). AreFresh (i + 1) (pieces ++ made ∷ []) ms) (sym noted) (fresh_push pieces written i made n.noted f place))

  pub is_next : (pieces : List (List T)) (written : List Bool) (i : ℕ) → AreFresh i pieces written → length pieces ≤ i → i ≡ length pieces
  is_next pieces written i f past = omega (arith, f.within, past)

  -- an own list as it is kept: its pieces, and itself
  pub noted_seen : (size : ℕ) (own : List T) (pieces : List (List T)) (written : List Bool) (count spare : ℕ) (b : Bool) (v : ListValue T) → seen b own pieces spare ≡ v → v.is_own ≡ true → IsList size b own pieces written count
      → IsNoted size own pieces written
  noted_seen size own pieces written count spare b v is owned l = noted_of size own pieces written count b (same_own b own pieces spare v is owned) l

  pub own_again : (size : ℕ) (own : List T) (pieces now : List (List T)) (written marks : List Bool) (count spare : ℕ) (b : Bool) (v : ListValue T) → seen b own pieces spare ≡ v → v.is_own ≡ true → IsList size b own pieces written count
      → IsNoted size own now marks → IsList size b own now marks count
  own_again size own pieces now written marks count spare b v is owned l n = own_of size own now marks count b (same_own b own pieces spare v is owned) l.some n

  -- which is seen as it was
  pub seen_again : (own : List T) (pieces now : List (List T)) (spare : ℕ) (b : Bool) (v : ListValue T) → seen b own pieces spare ≡ v → v.is_own ≡ true → seen b own now spare ≡ v
  seen_again own pieces now spare b v is owned =
      let it : b ≡ true = same_own b own pieces spare v is owned in
      ap (λ (c : Bool). seen c own now spare) it ∙ sym (ap (λ (c : Bool). seen c own pieces spare) it) ∙ is

  -- a kept list of the pieces of one, and what is seen of it
  pub same_kept : (b : Bool) (own : List T) (pieces : List (List T)) (spare : ℕ) (v : ListValue T) → seen b own pieces spare ≡ v → v.is_own ≡ false → b ≡ false
  same_kept b own pieces spare v is kept = (kept_inside b own pieces spare v is kept).0

  pub kept_again : (size : ℕ) (own now : List T) (pieces shared : List (List T)) (written none : List Bool) (count spare : ℕ) (b : Bool) (v : ListValue T) → seen b own pieces spare ≡ v → v.is_own ≡ false
      → IsList size b own pieces written count → shared ≡ pieces → none ≡ [] → IsList size false now shared none count
  kept_again size own now pieces shared written none count spare b v is kept l same empty =
      kept_too size own now pieces shared written none count b (same_kept b own pieces spare v is kept) l same empty

  pub kept_values : (b : Bool) (own : List T) (pieces shared : List (List T)) (spare : ℕ) (v : ListValue T) → seen b own pieces spare ≡ v → v.is_own ≡ false → shared ≡ pieces → joined_pieces shared ≡ v.items
  kept_values b own pieces shared spare v is kept same = ap joined_pieces same ∙ (kept_inside b own pieces spare v is kept).1

  -- a kept list that was made of an own one, whose pieces make up its values
  pub some_of : (size : ℕ) (own : List T) (pieces : List (List T)) (written : List Bool) (count : ℕ) (b : Bool) → IsList size b own pieces written count → 0 < size
  some_of size own pieces written count b l = l.some

  pub kept_seen : (size : ℕ) (own now : List T) (pieces shared : List (List T)) (none : List Bool) (len : ℕ) → ArePieces size own pieces → shared ≡ pieces → none ≡ [] → len ≡ length own → IsList size false now shared none len
  kept_seen size own now pieces shared none len are same empty counted = (kept_of size own now pieces shared none len are same empty counted).1

  pub kept_same : (size : ℕ) (own : List T) (was pieces shared : List (List T)) (spare : ℕ) (b : Bool) (v : ListValue T) → seen b own was spare ≡ v → v.is_own ≡ true → ArePieces size own pieces → shared ≡ pieces
      → joined_pieces shared ≡ v.items
  kept_same size own was pieces shared spare b v is owned are same = ap joined_pieces same ∙ joined_are size own pieces are ∙ own_values b own was spare v is owned

  -- as many marks as pieces
  many_marks : (size : ℕ) (own : List T) (pieces : List (List T)) (written marks : List Bool) (count n : ℕ) (b : Bool) → IsList size b own pieces written count → (b ≡ true → length marks ≡ length written) → (b ≡ false → length marks ≡ n)
      → ((k : ℕ) → k < n → k * size < count) → count ≤ n * size → length marks ≡ length pieces
  many_marks size own pieces written marks count n true l owned kept low enough = owned refl ∙ l.noted refl
  many_marks size own pieces written marks count n false l owned kept low enough =
      kept refl ∙ sym (as_many size count (length pieces) n (omega (arith, l.ended, l.counted refl)) (l.enough refl) low enough)

  -- an own list of the values that are seen, beside the same pieces
  pub owned_seen : (size : ℕ) (own now : List T) (pieces shared : List (List T)) (written marks : List Bool) (count spare : ℕ) (b : Bool) (v : ListValue T) → seen b own pieces spare ≡ v → IsList size b own pieces written count → now ≡ v.items
      → shared ≡ pieces → (b ≡ true → length marks ≡ length written) → (n : ℕ) → (b ≡ false → length marks ≡ n) → ((k : ℕ) → k < n → k * size < count) → count ≤ n * size
      → ((k : ℕ) → get_or marks k false ≡ get_or written k false) → IsList size true now shared marks 0
  owned_seen size own now pieces shared written marks count spare b v is l values same owned n kept low enough alike =
      owned_too size own now pieces shared written marks count b l (values ∙ sym (ap (λ (u : ListValue T). u.items) is)) same (many_marks size own pieces written marks count n b l owned kept low enough) alike

-- pieces in blocks of so many
module _ {T : Type 0} (size : ℕ) (blocks : List (List (List T))) (v : List (List T)) (are : AreBlocks size blocks) (is : joined_pieces blocks ≡ v) where
  -- as the list of all pieces is seen
  pub blocks_seen : ArePieces size v blocks
  blocks_seen = subst (λ (ps : List (List T)). ArePieces size ps blocks) is are

  pub block_low : (i : ℕ) → i < length v → i / size < length blocks
  block_low i low = part_low size v blocks blocks_seen i low

  -- a block that was read
  block_read : (i : ℕ) → i < length v → (b p : List (List T)) → b ≡ get_or blocks (i / size) b → p ≡ b → p ≡ get_or blocks (i / size) []
  block_read i low b p read same = same ∙ read ∙ get_or_default blocks (i / size) b [] (block_low i low)

  pub block_long : (i : ℕ) → i < length v → (b p : List (List T)) → b ≡ get_or blocks (i / size) b → p ≡ b → i % size < length p
  block_long i low b p read same =
      subst (λ (q : List (List T)). i % size < length q) (sym (block_read i low b p read same ∙ blocks_seen.here (i / size) (block_low i low))) (piece_long size v i are.some low)

  pub block_value : (i : ℕ) → i < length v → (b p : List (List T)) (x : List T) → b ≡ get_or blocks (i / size) b → p ≡ b → x ≡ get_or p (i % size) x → x ≡ get_or v i x
  block_value i low b p x read same value =
      value ∙ ap (λ (q : List (List T)). get_or q (i % size) x) (block_read i low b p read same ∙ blocks_seen.here (i / size) (block_low i low)) ∙ at_piece size v i x are.some

  -- blocks that make up another list of pieces
  pub blocks_now : (now : List (List T)) (new : List (List (List T))) → ArePieces size now new → (joined_pieces new ≡ now) × AreBlocks size new
  blocks_now now new made = (joined_are size now new made, subst (λ (ps : List (List T)). ArePieces size ps new) (sym (joined_are size now new made)) made)

  -- blocks of which one was written as it was
  pub blocks_same : (k : ℕ) (b made : List (List T)) (new : List (List (List T))) → b ≡ get_or blocks k b → made ≡ b → new ≡ set blocks k made → (joined_pieces new ≡ v) × AreBlocks size new
  blocks_same k b made new read same written =
      subst (λ (bs : List (List (List T))). (joined_pieces bs ≡ v) × AreBlocks size bs) (sym (written ∙ ap (set blocks k) (same ∙ read) ∙ set-get_or blocks k b)) (is, are)

  pub blocks_set : (i : ℕ) (x : List T) (b made : List (List T)) (new : List (List (List T))) → i < length v → b ≡ get_or blocks (i / size) b → made ≡ set b (i % size) x → new ≡ set blocks (i / size) made
      → (joined_pieces new ≡ set v i x) × AreBlocks size new
  blocks_set i x b made new low read is written =
      blocks_now (set v i x) new (
      subst (λ (bs : List (List (List T))). ArePieces size (set v i x) bs) (sym written)
      (pieces_set size v blocks i x made blocks_seen low (is ∙ ap (λ (q : List (List T)). set q (i % size) x) (block_read i low b b read refl)))
      )

  -- how many pieces the last block has
  pub last_long : (n : ℕ) (b p : List (List T)) → length blocks ≡ n + 1 → b ≡ get_or blocks n b → p ≡ b → length p ≡ min size (length v - n * size)
  last_long n b p last read same =
      ap (λ (q : List (List T)). length q) (same ∙ read ∙ get_or_default blocks n b [] (omega (arith, last)) ∙ blocks_seen.here n (omega (arith, last))) ∙ length-take size (drop (n * size) v)
      ∙ ap (min size) (length-drop (n * size) v)

  pub blocks_more : (n : ℕ) (x : List T) (b made : List (List T)) (new : List (List (List T))) → length blocks ≡ n + 1 → length v < length blocks * size → b ≡ get_or blocks n b → made ≡ b ++ x ∷ [] → new ≡ set blocks n made
      → (joined_pieces new ≡ v ++ x ∷ []) × AreBlocks size new
  blocks_more n x b made new last room read is written =
      let here : made ≡ get_or blocks n [] ++ x ∷ [] = is ∙ ap (λ (q : List (List T)). q ++ x ∷ []) (read ∙ get_or_default blocks n b [] (omega (arith, last))) in
      blocks_now (v ++ x ∷ []) new (subst (λ (bs : List (List (List T))). ArePieces size (v ++ x ∷ []) bs) (sym written) (pieces_more size v blocks n x made blocks_seen last room here))

  pub blocks_next : (x : List T) (made ps none : List (List T)) (new : List (List (List T))) → length v ≡ length blocks * size → made ≡ ps → ps ≡ none ++ x ∷ [] → none ≡ [] → new ≡ blocks ++ made ∷ []
      → (joined_pieces new ≡ v ++ x ∷ []) × AreBlocks size new
  blocks_next x made ps none new full is filled empty longer =
      let alone : made ≡ x ∷ [] = is ∙ filled ∙ ap (λ (qs : List (List T)). qs ++ x ∷ []) empty in
      blocks_now (v ++ x ∷ []) new (
      subst (λ (bs : List (List (List T))). ArePieces size (v ++ x ∷ []) bs) (sym (longer ∙ ap (λ (q : List (List T)). blocks ++ q ∷ []) alone)) (pieces_next size v blocks x blocks_seen full)
      )

-- so many pieces are in blocks of 16, of which the last one is full, or is not
pub full_blocks : (n rows : ℕ) → n ≤ rows * 16 → rows * 16 < n + 16 → n % 16 ≡ 0 → n ≡ rows * 16
full_blocks n rows enough ended full = omega (arith, enough, ended, full)

pub last_full : (n rows last len : ℕ) → n ≤ rows * 16 → rows * 16 < n + 16 → rows ≡ last + 1 → len ≡ min 16 (n - last * 16) → 16 ≤ len → n % 16 ≡ 0
last_full n rows last len enough ended many is full = omega (arith, enough, ended, many, is, full)

pub last_not_full : (n rows last len : ℕ) → n ≤ rows * 16 → rows * 16 < n + 16 → rows ≡ last + 1 → len ≡ min 16 (n - last * 16) → len < 16 → 0 < n % 16
last_not_full n rows last len enough ended many is few = omega (arith, enough, ended, many, is, few)

pub some_room : (n rows : ℕ) → n ≤ rows * 16 → 0 < n % 16 → (rows ≡ (rows - 1) + 1) × (n < rows * 16)
some_room n rows enough some = (omega (arith, enough, some), omega (arith, enough, some))

-- so many pieces begin within the list
pub pieces_low : (count size n : ℕ) → n ≡ count / size + min 1 (count % size) → 0 < size → (k : ℕ) → k < n → k * size < count
pieces_low count size n is some k low =
    let many : (count / size + min 1 (count % size)) * size < count + size = (div_ceil_times count size some).1 in
    let up : (k + 1) * size ≤ n * size = mul-le (k + 1) size n size (omega (arith, low)) (omega arith) in
    omega (arith, up, many, ap (λ (m : ℕ). m * size) is, add-mul k 1 size, one-mul size)

-- and hold all of it
pub pieces_enough : (count size n : ℕ) → n ≡ count / size + min 1 (count % size) → 0 < size → count ≤ n * size
pieces_enough count size n is some = subst (λ (m : ℕ). count ≤ m * size) (sym is) (div_ceil_times count size some).0
