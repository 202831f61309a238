-- Texts that stand among others in the same order.
use Rattle.std.proofs.Common.{◌≡◌, refl, ℕ, Bool, true, false, ◌||◌, List, [], ◌∷◌, ◌++◌}
use Rattle.std.specs.Str.{bytes_eq}
use Rattle.act_tree.specs.Wids.{is_among, one_twice}

-- the first texts are the second ones without some of them
pub data IsPart : List (List ℕ) → List (List ℕ) → Type 0 where
  no_texts : IsPart [] []
  with : (x : List ℕ) (xs ys : List (List ℕ)) → IsPart xs ys → IsPart (x ∷ xs) (x ∷ ys)
  less : (y : List ℕ) (xs ys : List (List ℕ)) → IsPart xs ys → IsPart xs (y ∷ ys)

pub part-append : (xs ys cs ds : List (List ℕ)) → IsPart xs ys → IsPart cs ds → IsPart (xs ++ cs) (ys ++ ds)
part-append xs ys cs ds no_texts more = more
part-append xs ys cs ds (with x xs0 ys0 part) more = with x (xs0 ++ cs) (ys0 ++ ds) (part-append xs0 ys0 cs ds part more)
part-append xs ys cs ds (less y xs0 ys0 part) more = less y (xs0 ++ cs) (ys0 ++ ds) (part-append xs0 ys0 cs ds part more)

pub part_behind : (front xs ys : List (List ℕ)) → IsPart xs ys → IsPart xs (front ++ ys)
part_behind [] xs ys part = part
part_behind (y ∷ front) xs ys part = less y xs (front ++ ys) (part_behind front xs ys part)

or_not : (s t : Bool) → (s || t) ≡ false → (s ≡ false) × (t ≡ false)
or_not false t none = (refl, none)
or_not true t none = absurd cc

neither : (s t : Bool) → s ≡ false → t ≡ false → (s || t) ≡ false
neither false t first second = second
neither true t first second = first

pub not_among : (w : List ℕ) (xs ys : List (List ℕ)) → IsPart xs ys → is_among w ys ≡ false → is_among w xs ≡ false
not_among w xs ys no_texts none = refl
not_among w xs ys (with x xs0 ys0 part) none =
    let t = or_not (bytes_eq w x) (is_among w ys0) none in neither (bytes_eq w x) (is_among w xs0) t.0 (not_among w xs0 ys0 part t.1)
not_among w xs ys (less y xs0 ys0 part) none = not_among w xs ys0 part (or_not (bytes_eq w y) (is_among w ys0) none).1

-- where none of the texts stands twice, none of a part of them does
pub part_once : (xs ys : List (List ℕ)) → IsPart xs ys → one_twice ys ≡ false → one_twice xs ≡ false
part_once xs ys no_texts none = refl
part_once xs ys (with x xs0 ys0 part) none =
    let t = or_not (is_among x ys0) (one_twice ys0) none in
    neither (is_among x xs0) (one_twice xs0) (not_among x xs0 ys0 part t.0) (part_once xs0 ys0 part t.1)
part_once xs ys (less y xs0 ys0 part) none = part_once xs ys0 part (or_not (is_among y ys0) (one_twice ys0) none).1
