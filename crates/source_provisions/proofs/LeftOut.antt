-- What bears is what bears by its own periods, in the same order, without what is not borne.
use Rattle.std.proofs.Common.{◌≡◌, ◌∙◌, sym, ap, refl, ℕ, Bool, true, false, cond, ◌&&◌, List, [], ◌∷◌, ◌++◌, append_assoc, filter, map, Option, Some, None, option_map}
use Rattle.std.specs.BTreeSet.{insert_key}
use Rattle.std.specs.Cmp.{IsTotalOrder}
use Rattle.std.specs.Cmp.Lexicographic.{slice_cmp, on_texts}
use Rattle.std.specs.List.{AllByRecursion, find, list_any}
use Rattle.std.specs.List.Sorted.{IsStrictlySortedBy}
use Rattle.std.specs.Option.{option_map_or}
use Rattle.std.specs.Ordering.{match_ordering, nat_cmp, ordering_then}
use Rattle.std.specs.declared.cmp.Ordering.{Ordering}
use Rattle.std.specs.declared.cmp.Ordering.TheVariants.{Less, Equal, Greater}
use Rattle.std.proofs.lemmas.Cmp.{nat_cmp_total, on_total, ranked, then_total}
use Rattle.desk_base.specs.declared.id.Id.{Id}
use Rattle.bearing_mods.specs.Turns.{efficacy_turn, force_turn}
use Rattle.law_register.specs.declared.answer.due.Due.{Due}
use Rattle.law_register.specs.declared.answer.question.Reading.{Reading}
use Rattle.law_register.specs.declared.law.modification.Destination.{Destination}
use Rattle.law_register.specs.declared.law.modification.Destination.TheVariants as to
use Rattle.law_register.specs.declared.law.modification.Modification.{Modification}
use Rattle.law_register.specs.declared.law.modification.Modification.TheVariants.{Textual, Force, Efficacy}
use Rattle.law_register.specs.declared.register.known.Known.{Known}
use Rattle.law_register.specs.declared.register.known.KnownMod.{KnownMod}
use Rattle.law_register.specs.Answer.Bearing.{start_on}
use Rattle.law_register.specs.Answer.Counted.{efficacies_on, efficacy_from, force_from, forces_on, is_same_id, take_turns}
use Rattle.law_register.specs.Answer.Order.{due_as, due_cmp, due_from, due_of, order, with_due}
use Rattle.law_register.specs.Answer.Soundness.{id_twice}
use Rattle.law_register.specs.Answer.Standing.{alone, counts, mod_alone}
use Rattle.law_register.proofs.ApartIds.{none_left, none_right, same_self}
use Rattle.law_register.proofs.InsertedKeys.{inserted_ascends}
use Rattle.law_register.specs.Provisions.Trees.{WorkText, borne, is_borne, is_borne_id, order_in, trees, work_borne}
use Rattle.source_provisions.proofs.Uncarried.{always, due_kept, due_same}

-- of keys in order those that pass a test, once one more takes its place
module _ {K : Type 0} (cmp : K → K → Ordering) (total : IsTotalOrder cmp) (test : K → Bool) (alike : (x y : K) → cmp x y ≡ Equal → test x ≡ test y) where
  before_all : (k : K) (xs : List K) → AllByRecursion (λ y. cmp k y ≡ Less) xs → k ∷ filter test xs ≡ insert_key cmp (filter test xs) k
  before_all k [] below = refl
  before_all k (x ∷ xs) below = by (test x) (before_all k xs below.1)
    where
      by : (b : Bool) → k ∷ filter test xs ≡ insert_key cmp (filter test xs) k
          → k ∷ cond b (x ∷ filter test xs) (filter test xs) ≡ insert_key cmp (cond b (x ∷ filter test xs) (filter test xs)) k
      by true rest = sym (ap (λ r. match_ordering r (k ∷ x ∷ filter test xs) (x ∷ filter test xs) (x ∷ insert_key cmp (filter test xs) k)) below.0)
      by false rest = rest

  below_too : (k x : K) (xs : List K) → cmp k x ≡ Less → AllByRecursion (λ y. cmp x y ≡ Less) xs → AllByRecursion (λ y. cmp k y ≡ Less) xs
  below_too k x [] h below = tt
  below_too k x (y ∷ ys) h below = (total.trans k x y h below.0, below_too k x ys h below.1)

  pub filtered : (ks : List K) (k : K) → IsStrictlySortedBy cmp ks → filter test (insert_key cmp ks k) ≡ cond (test k) (insert_key cmp (filter test ks) k) (filter test ks)
  unfolding IsStrictlySortedBy
  filtered [] k up = refl
  filtered (x ∷ xs) k up = by (cmp k x) refl (filtered xs k up.1)
    where
      less : cmp k x ≡ Less → (b c : Bool) → c ≡ test x
          → cond b (k ∷ cond c (x ∷ filter test xs) (filter test xs)) (cond c (x ∷ filter test xs) (filter test xs))
          ≡ cond b (insert_key cmp (cond c (x ∷ filter test xs) (filter test xs)) k) (cond c (x ∷ filter test xs) (filter test xs))
      less h false c is = refl
      less h true true is = sym (ap (λ r. match_ordering r (k ∷ x ∷ filter test xs) (x ∷ filter test xs) (x ∷ insert_key cmp (filter test xs) k)) h)
      less h true false is = before_all k xs (below_too k x xs h up.0)

      same : cmp k x ≡ Equal → (b c : Bool) → b ≡ c
          → cond c (x ∷ filter test xs) (filter test xs) ≡ cond b (insert_key cmp (cond c (x ∷ filter test xs) (filter test xs)) k) (cond c (x ∷ filter test xs) (filter test xs))
      same h false c is = refl
      same h true true is = sym (ap (λ r. match_ordering r (k ∷ x ∷ filter test xs) (x ∷ filter test xs) (x ∷ insert_key cmp (filter test xs) k)) h)
      same h true false is = absurd (let wrong : true ≡ false = is in cc)

      more : cmp k x ≡ Greater → (b c : Bool) → filter test (insert_key cmp xs k) ≡ cond b (insert_key cmp (filter test xs) k) (filter test xs)
          → cond c (x ∷ filter test (insert_key cmp xs k)) (filter test (insert_key cmp xs k))
          ≡ cond b (insert_key cmp (cond c (x ∷ filter test xs) (filter test xs)) k) (cond c (x ∷ filter test xs) (filter test xs))
      more h true true rest =
          ap (λ ys. x ∷ ys) rest
          ∙ sym (ap (λ r. match_ordering r (k ∷ x ∷ filter test xs) (x ∷ filter test xs) (x ∷ insert_key cmp (filter test xs) k)) h)
      more h true false rest = rest
      more h false true rest = ap (λ ys. x ∷ ys) rest
      more h false false rest = rest

      by : (r : Ordering) → cmp k x ≡ r → filter test (insert_key cmp xs k) ≡ cond (test k) (insert_key cmp (filter test xs) k) (filter test xs)
          → filter test (match_ordering r (k ∷ x ∷ xs) (x ∷ xs) (x ∷ insert_key cmp xs k))
          ≡ cond (test k) (insert_key cmp (cond (test x) (x ∷ filter test xs) (filter test xs)) k) (cond (test x) (x ∷ filter test xs) (filter test xs))
      by Less e rest = less e (test k) (test x) refl
      by Equal e rest = same e (test k) (test x) (alike k x e)
      by Greater e rest = more e (test k) (test x) rest

due_total : IsTotalOrder due_cmp
due_total =
    then_total (on_total (λ d. d.start) nat_cmp_total)
    (then_total (on_total (λ d. d.source_day) nat_cmp_total)
    (then_total (on_texts (λ d. d.href))
    (then_total (on_total (λ d. d.place) nat_cmp_total)
    (then_total (on_total (λ d. d.id.law) nat_cmp_total) (on_total (λ d. d.id.item) nat_cmp_total)))))

pub last_equal : (r s : Ordering) → ordering_then r s ≡ Equal → s ≡ Equal
last_equal Less s h = absurd (let wrong : Less ≡ Equal = h in cc)
last_equal Equal s h = h
last_equal Greater s h = absurd (let wrong : Greater ≡ Equal = h in cc)

pub first_equal : (r s : Ordering) → ordering_then r s ≡ Equal → r ≡ Equal
first_equal Less s h = h
first_equal Equal s h = refl
first_equal Greater s h = h

-- of two that are equal by their keys the ids are the same
one_id : (x y : Due) → due_cmp x y ≡ Equal → x.id ≡ y.id
one_id x y h =
    let by_id : ordering_then (nat_cmp x.id.law y.id.law) (nat_cmp x.id.item y.id.item) ≡ Equal =
    last_equal (nat_cmp x.place y.place) (ordering_then (nat_cmp x.id.law y.id.law) (nat_cmp x.id.item y.id.item))
    (last_equal (slice_cmp nat_cmp x.href y.href) (ordering_then (nat_cmp x.place y.place) (ordering_then (nat_cmp x.id.law y.id.law) (nat_cmp x.id.item y.id.item)))
    (last_equal (nat_cmp x.source_day y.source_day)
    (ordering_then (slice_cmp nat_cmp x.href y.href) (ordering_then (nat_cmp x.place y.place) (ordering_then (nat_cmp x.id.law y.id.law) (nat_cmp x.id.item y.id.item))))
    (last_equal (nat_cmp x.start y.start)
    (ordering_then (nat_cmp x.source_day y.source_day)
    (ordering_then (slice_cmp nat_cmp x.href y.href) (ordering_then (nat_cmp x.place y.place) (ordering_then (nat_cmp x.id.law y.id.law) (nat_cmp x.id.item y.id.item)))))
    h))) in
    let law : x.id.law ≡ y.id.law = ranked x.id.law y.id.law Equal (sym (first_equal (nat_cmp x.id.law y.id.law) (nat_cmp x.id.item y.id.item) by_id)) in
    let item : x.id.item ≡ y.id.item = ranked x.id.item y.id.item Equal (sym (last_equal (nat_cmp x.id.law y.id.law) (nat_cmp x.id.item y.id.item) by_id)) in
    ap (λ n. (let id : Id = record { law = n; item = x.id.item } in id)) law ∙ ap (λ n. (let id : Id = record { law = y.id.law; item = n } in id)) item

either_way : {A : Type 0} (b : Bool) (x : A) → cond b x x ≡ x
either_way true x = refl
either_way false x = refl

module _ (line : List Known) (texts : List WorkText) (r : Reading) (day act_day : ℕ) where
  -- what is counted for a thing is counted still
  one_force : (thing : Destination) (live : Bool) (id : Id) (body : Modification)
      → cond (live && is_borne line texts r day act_day body) (force_from thing day id body) [] ≡ cond live (force_from thing day id body) []
  one_force thing live id (Textual source own edit) = either_way (live && is_borne line texts r day act_day (Textual source own edit)) [] ∙ sym (either_way live [])
  one_force thing live id (Force source destination on effect) = ap (λ b. cond b (force_from thing day id (Force source destination on effect)) []) (always live)
  one_force thing live id (Efficacy source destination on effect) = ap (λ b. cond b (force_from thing day id (Efficacy source destination on effect)) []) (always live)

  one_efficacy : (thing : Destination) (live : Bool) (id : Id) (body : Modification)
      → cond (live && is_borne line texts r day act_day body) (efficacy_from thing day id body) [] ≡ cond live (efficacy_from thing day id body) []
  one_efficacy thing live id (Textual source own edit) = either_way (live && is_borne line texts r day act_day (Textual source own edit)) [] ∙ sym (either_way live [])
  one_efficacy thing live id (Force source destination on effect) = ap (λ b. cond b (efficacy_from thing day id (Force source destination on effect)) []) (always live)
  one_efficacy thing live id (Efficacy source destination on effect) = ap (λ b. cond b (efficacy_from thing day id (Efficacy source destination on effect)) []) (always live)

  forces_same : (thing : Destination) (ms : List KnownMod) → forces_on thing day (map (borne line texts r day act_day) ms) ≡ forces_on thing day ms
  forces_same thing [] = refl
  forces_same thing (m ∷ ms) =
      ap (λ ones. take_turns force_turn ones (forces_on thing day (map (borne line texts r day act_day) ms))) (one_force thing m.live m.id m.body)
      ∙ ap (take_turns force_turn (cond m.live (force_from thing day m.id m.body) [])) (forces_same thing ms)

  efficacies_same : (thing : Destination) (ms : List KnownMod) → efficacies_on thing day (map (borne line texts r day act_day) ms) ≡ efficacies_on thing day ms
  efficacies_same thing [] = refl
  efficacies_same thing (m ∷ ms) =
      ap (λ ones. take_turns efficacy_turn ones (efficacies_on thing day (map (borne line texts r day act_day) ms))) (one_efficacy thing m.live m.id m.body)
      ∙ ap (take_turns efficacy_turn (cond m.live (efficacy_from thing day m.id m.body) [])) (efficacies_same thing ms)

  -- what is due of modifications is due by what is borne of them
  pub due_borne : (mods ms : List KnownMod) → due_of r day (map (borne line texts r day act_day) mods) ms ≡ due_of r day mods ms
  due_borne mods ms =
      due_same r day (map (borne line texts r day act_day) mods) mods (λ thing. forces_same thing mods) (λ thing. efficacies_same thing mods) ms

  -- what is due without what is not borne
  module _ (mods : List KnownMod) (test : Id → Bool) where
    abbrev passes : Due → Bool
    passes due = test due.id

    alike : (x y : Due) → due_cmp x y ≡ Equal → passes x ≡ passes y
    alike x y h = ap test (one_id x y h)

    with_ascends : (dues : List Due) (o : Option Due) → IsStrictlySortedBy due_cmp dues → IsStrictlySortedBy due_cmp (with_due dues o)
    with_ascends dues None up = up
    with_ascends dues (Some due) up = inserted_ascends due_cmp due_total dues due up

    ascends : (ms : List KnownMod) → IsStrictlySortedBy due_cmp (due_of r day mods ms)
    unfolding IsStrictlySortedBy
    ascends [] = tt
    ascends (m ∷ ms) = with_ascends (due_of r day mods ms) (cond (counts r day m) (due_as r day mods m.id m.body) None) (ascends ms)

    one_due : (dues : List Due) → IsStrictlySortedBy due_cmp dues → (id : Id) (body : Modification) (b : Bool) → test id ≡ b
        → with_due (filter passes dues) (cond b (due_as r day mods id body) None) ≡ filter passes (with_due dues (due_as r day mods id body))
    one_due dues up id (Force source destination on effect) b is = ap (with_due (filter passes dues)) (either_way b None)
    one_due dues up id (Efficacy source destination on effect) b is = ap (with_due (filter passes dues)) (either_way b None)
    one_due dues up id (Textual source own edit) b is = by (start_on r day mods (to.Modification id) own) b is
      where
        by : (start : Option ℕ) (b : Bool) → test id ≡ b
            → with_due (filter passes dues) (cond b (option_map (due_from source id) start) None) ≡ filter passes (with_due dues (option_map (due_from source id) start))
        by None b is = ap (with_due (filter passes dues)) (either_way b None)
        by (Some start) true is =
            sym (filtered due_cmp due_total passes alike dues (due_from source id start) up
            ∙ ap (λ x. cond x (insert_key due_cmp (filter passes dues) (due_from source id start)) (filter passes dues)) is)
        by (Some start) false is =
            sym (filtered due_cmp due_total passes alike dues (due_from source id start) up
            ∙ ap (λ x. cond x (insert_key due_cmp (filter passes dues) (due_from source id start)) (filter passes dues)) is)

    mod_due : (dues : List Due) → IsStrictlySortedBy due_cmp dues → (m : KnownMod) → test m.id ≡ is_borne line texts r day act_day m.body
        → with_due (filter passes dues) (cond ((m.live && is_borne line texts r day act_day m.body) && true) (due_as r day mods m.id m.body) None)
        ≡ filter passes (with_due dues (cond (m.live && true) (due_as r day mods m.id m.body) None))
    mod_due dues up m is = by m.live
      where
        by : (live : Bool) → with_due (filter passes dues) (cond ((live && is_borne line texts r day act_day m.body) && true) (due_as r day mods m.id m.body) None)
            ≡ filter passes (with_due dues (cond (live && true) (due_as r day mods m.id m.body) None))
        by true =
            ap (λ b. with_due (filter passes dues) (cond b (due_as r day mods m.id m.body) None)) (always (is_borne line texts r day act_day m.body))
            ∙ one_due dues up m.id m.body (is_borne line texts r day act_day m.body) is
        by false = refl

    left_out : (ms : List KnownMod) → AllByRecursion (λ (m : KnownMod). test m.id ≡ is_borne line texts r day act_day m.body) ms
        → due_of r day mods (map (borne line texts r day act_day) ms) ≡ filter passes (due_of r day mods (map mod_alone ms))
    left_out [] tests = refl
    left_out (m ∷ ms) tests =
        ap (λ (dues : List Due). with_due dues (cond ((m.live && is_borne line texts r day act_day m.body) && true) (due_as r day mods m.id m.body) None)) (left_out ms tests.1)
        ∙ mod_due (due_of r day mods (map mod_alone ms)) (ascends (map mod_alone ms)) m tests.0

    ids_left : (dues : List Due) → map (λ due. due.id) (filter passes dues) ≡ filter test (map (λ due. due.id) dues)
    ids_left [] = refl
    ids_left (d ∷ ds) = by (test d.id) (ids_left ds)
      where
        by : (b : Bool) → map (λ due. due.id) (filter passes ds) ≡ filter test (map (λ due. due.id) ds)
            → map (λ due. due.id) (cond b (d ∷ filter passes ds) (filter passes ds)) ≡ cond b (d.id ∷ filter test (map (λ due. due.id) ds)) (filter test (map (λ due. due.id) ds))
        by true rest = ap (λ ids. d.id ∷ ids) rest
        by false rest = rest

-- the modification of its own id is found
module _ (line : List Known) (texts : List WorkText) (r : Reading) (day : ℕ) (known : Known) where
  not_same : (front : List KnownMod) (m : KnownMod) (rest : List KnownMod) → id_twice (map (λ k. k.id) (front ++ m ∷ rest)) ≡ false
      → find (λ k. is_same_id k.id m.id) (front ++ m ∷ rest) ≡ Some m
  not_same [] m rest apart = ap (λ b. cond b (Some m) (find (λ k. is_same_id k.id m.id) rest)) (same_self m.id)
  not_same (f ∷ front) m rest apart =
      ap (λ b. cond b (Some f) (find (λ k. is_same_id k.id m.id) (front ++ m ∷ rest)))
      (other front (none_left (list_any (is_same_id f.id) (map (λ k. k.id) (front ++ m ∷ rest))) (id_twice (map (λ k. k.id) (front ++ m ∷ rest))) apart))
      ∙ not_same front m rest (none_right (list_any (is_same_id f.id) (map (λ k. k.id) (front ++ m ∷ rest))) (id_twice (map (λ k. k.id) (front ++ m ∷ rest))) apart)
    where
      other : (xs : List KnownMod) → list_any (is_same_id f.id) (map (λ k. k.id) (xs ++ m ∷ rest)) ≡ false → is_same_id f.id m.id ≡ false
      other [] h = none_left (is_same_id f.id m.id) (list_any (is_same_id f.id) (map (λ k. k.id) rest)) h
      other (x ∷ xs) h = other xs (none_right (is_same_id f.id x.id) (list_any (is_same_id f.id) (map (λ k. k.id) (xs ++ m ∷ rest))) h)

  all_tests : (front ms : List KnownMod) → front ++ ms ≡ known.mods → id_twice (map (λ k. k.id) known.mods) ≡ false
      → AllByRecursion (λ (m : KnownMod). is_borne_id line texts r day known m.id ≡ is_borne line texts r day known.act.day m.body) ms
  all_tests front [] is apart = tt
  all_tests front (m ∷ ms) is apart = (
    ap (λ o. option_map_or (λ k. is_borne line texts r day known.act.day k.body) o true)
        (ap (find (λ k. is_same_id k.id m.id)) (sym is) ∙ not_same front m ms (ap (λ ks. id_twice (map (λ k. k.id) ks)) is ∙ apart)),
    all_tests (front ++ m ∷ []) ms (append_assoc front (m ∷ []) ms ∙ is) apart,
  )

  order_left : id_twice (map (λ k. k.id) known.mods) ≡ false
      → order (work_borne line texts r day known) r day ≡ filter (is_borne_id line texts r day known) (order (alone known) r day)
  order_left apart =
      ap (map (λ (due : Due). due.id))
      (due_borne line texts r day known.act.day known.mods (map (borne line texts r day known.act.day) known.mods)
      ∙ left_out line texts r day known.act.day known.mods (is_borne_id line texts r day known) known.mods (all_tests [] known.mods refl apart))
      ∙ ids_left line texts r day known.act.day known.mods (is_borne_id line texts r day known) (due_of r day known.mods (map mod_alone known.mods))
      ∙ ap (λ (dues : List Due). filter (is_borne_id line texts r day known) (map (λ (due : Due). due.id) dues))
      (sym (due_kept mod_alone (λ m. refl) r day known.mods (map mod_alone known.mods)))

pub orders_leave_out : (line : List Known) (known : Known) (r : Reading) (day : ℕ) → id_twice (map (λ (k : KnownMod). k.id) known.mods) ≡ false
    → order_in line known r day ≡ filter (is_borne_id line (trees line r day) r day known) (order (alone known) r day)
orders_leave_out line known r day apart = order_left line (trees line r day) r day known apart
