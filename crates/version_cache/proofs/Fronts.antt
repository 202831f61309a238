-- What it means that a list of ids begins with another.
use Rattle.std.proofs.Common.{◌≡◌, ◌∙◌, sym, ap, refl, ℕ, ◌<◌, ◌≤◌, Bool, true, false, ◌==◌, ◌&&◌, List, [], ◌∷◌, ◌++◌, length, drop, arith}
use Rattle.std.proofs.lemmas.Bool.Decides.{nat_tests}
use Rattle.desk_base.specs.declared.id.Id.{Id}
use Rattle.law_register.specs.Answer.Applied.{begins_with}
use Rattle.law_register.specs.Answer.Counted.{is_same_id}

pub both_left : (a b : Bool) → (a && b) ≡ true → a ≡ true
both_left true b h = refl
both_left false b h = h

pub both_right : (a b : Bool) → (a && b) ≡ true → b ≡ true
both_right true b h = h
both_right false b h = absurd (let wrong : false ≡ true = h in cc)

same_number : (a b : ℕ) → (a == b) ≡ true → a ≡ b
same_number a b h = grind (arith, nat_tests)

pub same_id : (a b : Id) → is_same_id a b ≡ true → a ≡ b
same_id a b h =
    let law : a.law ≡ b.law = same_number a.law b.law (both_left (a.law == b.law) (a.item == b.item) h) in
    let item : a.item ≡ b.item = same_number a.item b.item (both_right (a.law == b.law) (a.item == b.item) h) in
    ap (λ n. let i : Id = record { law = n; item = a.item } in i) law ∙ ap (λ n. let i : Id = record { law = b.law; item = n } in i) item

-- a list that is shorter than another does not begin with it
pub too_short : (firsts ids : List Id) → length ids < length firsts → begins_with firsts ids ≡ false
too_short [] ids h = absurd (omega arith)
too_short (first ∷ firsts) [] h = refl
too_short (first ∷ firsts) (id ∷ ids) h = ap (λ t. is_same_id first id && t) (too_short firsts ids (omega arith)) ∙ never (is_same_id first id)
  where
    never : (b : Bool) → (b && false) ≡ false
    never true = refl
    never false = refl

-- a list that begins with another is that one, and the rest behind it
pub front_and_rest : (firsts ids : List Id) → begins_with firsts ids ≡ true → ids ≡ firsts ++ drop (length firsts) ids
front_and_rest [] ids h = refl
front_and_rest (first ∷ firsts) [] h = absurd (let wrong : false ≡ true = h in cc)
front_and_rest (first ∷ firsts) (id ∷ ids) h =
    let same : first ≡ id = same_id first id (both_left (is_same_id first id) (begins_with firsts ids) h) in
    ap (λ i. i ∷ ids) (sym same) ∙ ap (λ is. first ∷ is) (front_and_rest firsts ids (both_right (is_same_id first id) (begins_with firsts ids) h))

pub no_longer : (firsts ids : List Id) → begins_with firsts ids ≡ true → length firsts ≤ length ids
no_longer [] ids h = omega arith
no_longer (first ∷ firsts) [] h = absurd (let wrong : false ≡ true = h in cc)
no_longer (first ∷ firsts) (id ∷ ids) h = let below : length firsts ≤ length ids = no_longer firsts ids (both_right (is_same_id first id) (begins_with firsts ids) h) in omega arith
