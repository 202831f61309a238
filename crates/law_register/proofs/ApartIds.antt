-- Ids that differ.
use Rattle.std.proofs.Common.{◌≡◌, refl, Bool, true, false, ◌||◌, List, [], ◌∷◌, ◌++◌, arith}
use Rattle.std.proofs.lemmas.Bool.Decides.{nat_tests}
use Rattle.std.specs.List.{list_any}
use Rattle.desk_base.specs.declared.id.Id.{Id}
use Rattle.law_register.specs.Answer.Counted.{is_same_id}
use Rattle.law_register.specs.Answer.Soundness.{id_twice}

pub same_sym : (a b : Id) (t : Bool) → is_same_id a b ≡ t → is_same_id b a ≡ t
same_sym a b true h = grind (arith, nat_tests)
same_sym a b false h = grind (arith, nat_tests)

pub same_self : (a : Id) → is_same_id a a ≡ true
same_self a = grind (arith, nat_tests)

pub none_left : (a b : Bool) → (a || b) ≡ false → a ≡ false
none_left true b h = absurd (let wrong : true ≡ false = h in cc)
none_left false b h = refl

pub none_right : (a b : Bool) → (a || b) ≡ false → b ≡ false
none_right true b h = absurd (let wrong : true ≡ false = h in cc)
none_right false b h = h

pub none_both : (a b : Bool) → a ≡ false → b ≡ false → (a || b) ≡ false
none_both true b x y = x
none_both false b x y = y

-- an id that is none of the first and none of the rest is none of all
none_joined : (id : Id) (xs ys : List Id) → list_any (is_same_id id) xs ≡ false → list_any (is_same_id id) ys ≡ false → list_any (is_same_id id) (xs ++ ys) ≡ false
none_joined id [] ys h k = k
none_joined id (x ∷ xs) ys h k =
    none_both (is_same_id id x) (list_any (is_same_id id) (xs ++ ys)) (none_left (is_same_id id x) (list_any (is_same_id id) xs) h)
    (none_joined id xs ys (none_right (is_same_id id x) (list_any (is_same_id id) xs) h) k)

-- and one that is none of all is none of the first
pub none_before : (id : Id) (xs ys : List Id) → list_any (is_same_id id) (xs ++ ys) ≡ false → list_any (is_same_id id) xs ≡ false
none_before id [] ys h = refl
none_before id (x ∷ xs) ys h =
    none_both (is_same_id id x) (list_any (is_same_id id) xs) (none_left (is_same_id id x) (list_any (is_same_id id) (xs ++ ys)) h)
    (none_before id xs ys (none_right (is_same_id id x) (list_any (is_same_id id) (xs ++ ys)) h))

-- none of the rest
none_behind : (id : Id) (xs ys : List Id) → list_any (is_same_id id) (xs ++ ys) ≡ false → list_any (is_same_id id) ys ≡ false
none_behind id [] ys h = h
none_behind id (x ∷ xs) ys h = none_behind id xs ys (none_right (is_same_id id x) (list_any (is_same_id id) (xs ++ ys)) h)

-- of ids that differ, one is none of those before it
pub first_apart : (xs ys : List Id) (id : Id) → id_twice (xs ++ id ∷ ys) ≡ false → list_any (is_same_id id) xs ≡ false
first_apart [] ys id h = refl
first_apart (x ∷ xs) ys id h =
    none_both (is_same_id id x) (list_any (is_same_id id) xs)
    (same_sym x id false
    (none_left (is_same_id x id) (list_any (is_same_id x) ys)
    (none_behind x xs (id ∷ ys) (none_left (list_any (is_same_id x) (xs ++ id ∷ ys)) (id_twice (xs ++ id ∷ ys)) h))))
    (first_apart xs ys id (none_right (list_any (is_same_id x) (xs ++ id ∷ ys)) (id_twice (xs ++ id ∷ ys)) h))

-- ids that differ still do without one of them
pub one_less : (xs ys : List Id) (id : Id) → id_twice (xs ++ id ∷ ys) ≡ false → id_twice (xs ++ ys) ≡ false
one_less [] ys id h = none_right (list_any (is_same_id id) ys) (id_twice ys) h
one_less (x ∷ xs) ys id h =
    let apart : list_any (is_same_id x) (xs ++ id ∷ ys) ≡ false = none_left (list_any (is_same_id x) (xs ++ id ∷ ys)) (id_twice (xs ++ id ∷ ys)) h in
    none_both (list_any (is_same_id x) (xs ++ ys)) (id_twice (xs ++ ys))
    (none_joined x xs ys (none_before x xs (id ∷ ys) apart) (none_right (is_same_id x id) (list_any (is_same_id x) ys) (none_behind x xs (id ∷ ys) apart)))
    (one_less xs ys id (none_right (list_any (is_same_id x) (xs ++ id ∷ ys)) (id_twice (xs ++ id ∷ ys)) h))
