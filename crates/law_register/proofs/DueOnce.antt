-- What is due on a day ascends, each id once, and is exactly what bears.
use Rattle.std.proofs.Common.{◌≡◌, ◌∙◌, sym, ap, refl, ℕ, ◌==◌, ◌&&◌, ◌||◌, Bool, true, false, cond, List, [], ◌∷◌, map, Option, Some, None, is_some, option_map}
use Rattle.std.specs.BTreeSet.{insert_key}
use Rattle.std.specs.Cmp.{IsTotalOrder}
use Rattle.std.specs.Cmp.Lexicographic.{slice_cmp, on_texts}
use Rattle.std.specs.List.{list_any}
use Rattle.std.specs.List.Sorted.{IsStrictlySortedBy}
use Rattle.std.specs.Ordering.{match_ordering, nat_cmp, ordering_then}
use Rattle.std.specs.declared.cmp.Ordering.{Ordering}
use Rattle.std.specs.declared.cmp.Ordering.TheVariants.{Less, Equal, Greater}
use Rattle.std.proofs.lemmas.Cmp.{nat_cmp_total, on_total, ranked, then_total}
use Rattle.desk_base.specs.declared.id.Id.{Id}
use Rattle.law_register.specs.declared.answer.due.Due.{Due}
use Rattle.law_register.specs.declared.answer.question.Reading.{Reading}
use Rattle.law_register.specs.declared.law.modification.Destination.TheVariants as to
use Rattle.law_register.specs.declared.law.modification.Modification.{Modification}
use Rattle.law_register.specs.declared.law.modification.Modification.TheVariants.{Textual, Force, Efficacy}
use Rattle.law_register.specs.declared.register.known.Known.{Known}
use Rattle.law_register.specs.declared.register.known.KnownMod.{KnownMod}
use Rattle.law_register.specs.Answer.Bearing.{start_on}
use Rattle.law_register.specs.Answer.Counted.{is_same_id}
use Rattle.law_register.specs.Answer.Order.{due_cmp, due_from, due_as, with_due, due_of, due_on, order, is_due}
use Rattle.law_register.specs.Answer.Soundness.{id_twice}
use Rattle.law_register.specs.Answer.Standing.{counts}
use Rattle.law_register.proofs.ApartIds.{none_both, none_left, none_right, same_sym}
use Rattle.law_register.proofs.InsertedKeys.{inserted_any, inserted_ascends}

due_total : IsTotalOrder due_cmp
due_total =
    then_total (on_total (λ d. d.start) nat_cmp_total)
    (then_total (on_total (λ d. d.source_day) nat_cmp_total)
    (then_total (on_texts (λ d. d.href))
    (then_total (on_total (λ d. d.place) nat_cmp_total)
    (then_total (on_total (λ d. d.id.law) nat_cmp_total) (on_total (λ d. d.id.item) nat_cmp_total)))))

last_equal : (r s : Ordering) → ordering_then r s ≡ Equal → s ≡ Equal
last_equal Less s h = absurd (let wrong : Less ≡ Equal = h in cc)
last_equal Equal s h = h
last_equal Greater s h = absurd (let wrong : Greater ≡ Equal = h in cc)

first_equal : (r s : Ordering) → ordering_then r s ≡ Equal → r ≡ Equal
first_equal Less s h = h
first_equal Equal s h = refl
first_equal Greater s h = h

abbrev has_id : Id → Due → Bool
has_id id due = is_same_id id due.id

-- of two that are equal by their keys, the ids are the same
alike : (id : Id) (x y : Due) → due_cmp x y ≡ Equal → has_id id x ≡ has_id id y
alike id x y h =
    let by_id : ordering_then (nat_cmp x.id.law y.id.law) (nat_cmp x.id.item y.id.item) ≡ Equal =
    last_equal (nat_cmp x.place y.place) (ordering_then (nat_cmp x.id.law y.id.law) (nat_cmp x.id.item y.id.item))
    (last_equal (slice_cmp nat_cmp x.href y.href) (ordering_then (nat_cmp x.place y.place) (ordering_then (nat_cmp x.id.law y.id.law) (nat_cmp x.id.item y.id.item)))
    (last_equal (nat_cmp x.source_day y.source_day)
    (ordering_then (slice_cmp nat_cmp x.href y.href) (ordering_then (nat_cmp x.place y.place) (ordering_then (nat_cmp x.id.law y.id.law) (nat_cmp x.id.item y.id.item))))
    (last_equal (nat_cmp x.start y.start)
    (ordering_then (nat_cmp x.source_day y.source_day)
    (ordering_then (slice_cmp nat_cmp x.href y.href) (ordering_then (nat_cmp x.place y.place) (ordering_then (nat_cmp x.id.law y.id.law) (nat_cmp x.id.item y.id.item)))))
    h))) in
    let law : x.id.law ≡ y.id.law = ranked x.id.law y.id.law Equal (sym (first_equal (nat_cmp x.id.law y.id.law) (nat_cmp x.id.item y.id.item) by_id)) in
    let item : x.id.item ≡ y.id.item = ranked x.id.item y.id.item Equal (sym (last_equal (nat_cmp x.id.law y.id.law) (nat_cmp x.id.item y.id.item) by_id)) in
    ap (λ n. (id.law == n) && (id.item == x.id.item)) law ∙ ap (λ n. (id.law == y.id.law) && (id.item == n)) item

abbrev ids_in : List Due → List Id
ids_in dues = map (λ due. due.id) dues

any_id : (id : Id) (dues : List Due) → list_any (is_same_id id) (ids_in dues) ≡ list_any (has_id id) dues
any_id id [] = refl
any_id id (d ∷ ds) = ap (λ b. is_same_id id d.id || b) (any_id id ds)

inserted_id : (id : Id) (x : Due) (dues : List Due) → list_any (is_same_id id) (ids_in (insert_key due_cmp dues x)) ≡ (is_same_id id x.id || list_any (is_same_id id) (ids_in dues))
inserted_id id x dues =
    any_id id (insert_key due_cmp dues x) ∙ inserted_any due_cmp (has_id id) (alike id) dues x ∙ ap (λ b. is_same_id id x.id || b) (sym (any_id id dues))

-- one of the id is due
abbrev has_due : Id → Option Due → Bool
has_due id None = false
has_due id (Some due) = is_same_id id due.id

with_id : (id : Id) (dues : List Due) (o : Option Due) → list_any (is_same_id id) (ids_in (with_due dues o)) ≡ (has_due id o || list_any (is_same_id id) (ids_in dues))
with_id id dues None = refl
with_id id dues (Some due) = inserted_id id due dues

inserted_once : (x : Due) (dues : List Due) → list_any (is_same_id x.id) (ids_in dues) ≡ false → id_twice (ids_in dues) ≡ false
    → id_twice (ids_in (insert_key due_cmp dues x)) ≡ false
inserted_once x [] apart once = refl
inserted_once x (d ∷ ds) apart once =
    by (inserted_once x ds (none_right (is_same_id x.id d.id) (list_any (is_same_id x.id) (ids_in ds)) apart) (none_right (list_any (is_same_id d.id) (ids_in ds)) (id_twice (ids_in ds)) once))
    (due_cmp x d)
  where
    by : id_twice (ids_in (insert_key due_cmp ds x)) ≡ false → (r : Ordering)
        → id_twice (ids_in (match_ordering r (x ∷ d ∷ ds) (d ∷ ds) (d ∷ insert_key due_cmp ds x))) ≡ false
    by below Less = none_both (list_any (is_same_id x.id) (ids_in (d ∷ ds))) (id_twice (ids_in (d ∷ ds))) apart once
    by below Equal = once
    by below Greater =
        none_both (list_any (is_same_id d.id) (ids_in (insert_key due_cmp ds x))) (id_twice (ids_in (insert_key due_cmp ds x)))
        (inserted_id d.id x ds
        ∙ none_both (is_same_id d.id x.id) (list_any (is_same_id d.id) (ids_in ds))
        (same_sym x.id d.id false (none_left (is_same_id x.id d.id) (list_any (is_same_id x.id) (ids_in ds)) apart))
        (none_left (list_any (is_same_id d.id) (ids_in ds)) (id_twice (ids_in ds)) once)) below

never : (b : Bool) → (b && false) ≡ false
never true = refl
never false = refl

always : (b : Bool) → (b && true) ≡ b
always true = refl
always false = refl

module _ (reading : Reading) (day : ℕ) (mods : List KnownMod) where
  -- what a modification is due as has its id
  due_has_id : (other id : Id) (body : Modification) → has_due other (due_as reading day mods id body) ≡ (is_same_id other id && is_some (due_as reading day mods id body))
  due_has_id other id (Force source destination on effect) = sym (never (is_same_id other id))
  due_has_id other id (Efficacy source destination on effect) = sym (never (is_same_id other id))
  due_has_id other id (Textual source own edit) = by (start_on reading day mods (to.Modification id) own)
    where
      by : (o : Option ℕ) → has_due other (option_map (due_from source id) o) ≡ (is_same_id other id && is_some (option_map (due_from source id) o))
      by None = sym (never (is_same_id other id))
      by (Some start) = sym (always (is_same_id other id))

  -- where the modification counts
  counted_has_id : (other : Id) (m : KnownMod) → has_due other (cond (counts reading day m) (due_as reading day mods m.id m.body) None) ≡ (is_same_id other m.id && is_due reading day mods m)
  counted_has_id other m = by (counts reading day m)
    where
      by : (b : Bool) → has_due other (cond b (due_as reading day mods m.id m.body) None) ≡ (is_same_id other m.id && (b && is_some (due_as reading day mods m.id m.body)))
      by true = due_has_id other m.id m.body
      by false = sym (never (is_same_id other m.id))

  members : (id : Id) (ms : List KnownMod) → list_any (is_same_id id) (ids_in (due_of reading day mods ms)) ≡ list_any (λ m. is_same_id id m.id && is_due reading day mods m) ms
  members id [] = refl
  members id (m ∷ ms) =
      with_id id (due_of reading day mods ms) (cond (counts reading day m) (due_as reading day mods m.id m.body) None)
      ∙ ap (λ b. b || list_any (is_same_id id) (ids_in (due_of reading day mods ms))) (counted_has_id id m)
      ∙ ap (λ b. (is_same_id id m.id && is_due reading day mods m) || b) (members id ms)

  both_none : (id : Id) (ms : List KnownMod) → list_any (is_same_id id) (map (λ m. m.id) ms) ≡ false → list_any (λ m. is_same_id id m.id && is_due reading day mods m) ms ≡ false
  both_none id [] h = refl
  both_none id (m ∷ ms) h =
      none_both (is_same_id id m.id && is_due reading day mods m) (list_any (λ k. is_same_id id k.id && is_due reading day mods k) ms)
      (ap (λ b. b && is_due reading day mods m) (none_left (is_same_id id m.id) (list_any (is_same_id id) (map (λ k. k.id) ms)) h))
      (both_none id ms (none_right (is_same_id id m.id) (list_any (is_same_id id) (map (λ k. k.id) ms)) h))

  due_id : (id : Id) (body : Modification) (dues : List Due) → list_any (is_same_id id) (ids_in dues) ≡ false → id_twice (ids_in dues) ≡ false
      → id_twice (ids_in (with_due dues (due_as reading day mods id body))) ≡ false
  due_id id (Force source destination on effect) dues apart once = once
  due_id id (Efficacy source destination on effect) dues apart once = once
  due_id id (Textual source own edit) dues apart once = by (start_on reading day mods (to.Modification id) own)
    where
      by : (o : Option ℕ) → id_twice (ids_in (with_due dues (option_map (due_from source id) o))) ≡ false
      by None = once
      by (Some start) = inserted_once (due_from source id start) dues apart once

  once_each : (ms : List KnownMod) → id_twice (map (λ m. m.id) ms) ≡ false → id_twice (ids_in (due_of reading day mods ms)) ≡ false
  once_each [] h = refl
  once_each (m ∷ ms) h = by (once_each ms (none_right (list_any (is_same_id m.id) (map (λ k. k.id) ms)) (id_twice (map (λ k. k.id) ms)) h)) (counts reading day m)
    where
      by : id_twice (ids_in (due_of reading day mods ms)) ≡ false → (b : Bool)
          → id_twice (ids_in (with_due (due_of reading day mods ms) (cond b (due_as reading day mods m.id m.body) None))) ≡ false
      by below true =
          due_id m.id m.body (due_of reading day mods ms)
          (members m.id ms ∙ both_none m.id ms (none_left (list_any (is_same_id m.id) (map (λ k. k.id) ms)) (id_twice (map (λ k. k.id) ms)) h)) below
      by below false = below

  with_ascends : (dues : List Due) (o : Option Due) → IsStrictlySortedBy due_cmp dues → IsStrictlySortedBy due_cmp (with_due dues o)
  with_ascends dues None up = up
  with_ascends dues (Some due) up = inserted_ascends due_cmp due_total dues due up

  ascends : (ms : List KnownMod) → IsStrictlySortedBy due_cmp (due_of reading day mods ms)
  unfolding IsStrictlySortedBy
  ascends [] = tt
  ascends (m ∷ ms) = with_ascends (due_of reading day mods ms) (cond (counts reading day m) (due_as reading day mods m.id m.body) None) (ascends ms)

-- what is due ascends by its keys
pub due_ascends : (known : Known) (reading : Reading) (day : ℕ) → IsStrictlySortedBy due_cmp (due_on known reading day)
due_ascends known reading day = ascends reading day known.mods known.mods

-- an id is in the order exactly where a modification of that id is due
pub order_members : (known : Known) (reading : Reading) (day : ℕ) (id : Id)
    → list_any (is_same_id id) (order known reading day) ≡ list_any (λ m. is_same_id id m.id && is_due reading day known.mods m) known.mods
order_members known reading day id = members reading day known.mods id known.mods

-- of modifications whose ids differ each is in the order once
pub order_once : (known : Known) (reading : Reading) (day : ℕ) → id_twice (map (λ m. m.id) known.mods) ≡ false → id_twice (order known reading day) ≡ false
order_once known reading day h = once_each reading day known.mods known.mods h
