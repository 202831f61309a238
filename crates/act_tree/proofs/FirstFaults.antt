-- The first fault that a survey of all provisions found is the first that holds of them.
use Rattle.std.proofs.Common.{◌≡◌, ◌∙◌, sym, ap, refl, ℕ, ◌+◌, ◌<◌, ◌≤◌, max, min, Bool, true, false, ◌||◌, cond, List, [], ◌∷◌, ◌++◌, nat_lt, Option, Some, None, inl, inr, arith}
use Rattle.std.specs.List.{list_any}
use Rattle.std.specs.Str.{bytes_eq}
use Rattle.std.proofs.lemmas.Bool.{cases_Bool, cases_lt, lt-ltb, le-ltb}
use Rattle.std.proofs.lemmas.List.Folds.{list_any-append}
use Rattle.act_tree.specs.declared.build_fault.BuildFault.TheVariants.{EidTwice, TooDeep, TooManyNodes, TextTooLong}
use Rattle.eid_paths.specs.declared.numbering.Numbering.{Numbering}
use Rattle.act_tree.specs.Branches.{Branch, Branches, branch, no_branches, more_branches, height, heights, count, counts}
use Rattle.act_tree.specs.Provisions.{Own}
use Rattle.act_tree.specs.Eids.{eid_below, enacted, all_enacted}
use Rattle.act_tree.specs.Faults.{eids, all_eids, is_long, has_long, have_long, first_fault}
use Rattle.act_tree.specs.Surveys.{Surveyed, most, next_to, nothing, with_eid, gathered, repeats, noted, surveyed, all_surveyed, fault_in}
use Rattle.act_tree.specs.declared.limits.TheConstants.{MAX_DEPTH}
use Rattle.act_tree.specs.declared.limits.NodeLimit.TheVariants.{Plain, Wide}
use Rattle.act_tree.specs.declared.limits.NodeLimit.{NodeLimit}
use Rattle.act_tree.specs.NodeLimits.{most_nodes}
use Rattle.act_tree.specs.Wids.{wids, all_wids, is_among, one_twice}
use Rattle.act_tree.proofs.Texts.{bytes_eq_sym}

or_assoc : (a b c : Bool) → ((a || b) || c) ≡ (a || (b || c))
or_assoc true b c = refl
or_assoc false b c = refl

or_false : (a : Bool) → (a || false) ≡ a
or_false true = refl
or_false false = refl

or_swap : (a b c d : Bool) → ((a || b) || (c || d)) ≡ ((a || c) || (b || d))
or_swap true b c d = refl
or_swap false true true d = refl
or_swap false true false d = refl
or_swap false false c d = refl

gathered-append : (seen xs ys : List (List ℕ)) → gathered seen (xs ++ ys) ≡ gathered (gathered seen xs) ys
gathered-append seen [] ys = refl
gathered-append seen (x ∷ xs) ys = gathered-append (with_eid seen x) xs ys

pub repeats-append : (seen xs ys : List (List ℕ)) → repeats seen (xs ++ ys) ≡ (repeats seen xs || repeats (gathered seen xs) ys)
repeats-append seen [] ys = refl
repeats-append seen (x ∷ xs) ys =
    ap (λ b. is_among x seen || b) (repeats-append (with_eid seen x) xs ys) ∙ sym (or_assoc (is_among x seen) (repeats (with_eid seen x) xs) (repeats (gathered (with_eid seen x) xs) ys))

-- one of these is among those
abbrev pub touches : List (List ℕ) → List (List ℕ) → Bool
touches seen xs = list_any (λ x. is_among x seen) xs

touches-more : (seen : List (List ℕ)) (x : List ℕ) (xs : List (List ℕ)) → touches (seen ++ x ∷ []) xs ≡ (touches seen xs || is_among x xs)
touches-more seen x [] = refl
touches-more seen x (y ∷ ys) =
    ap (λ b. b || touches (seen ++ x ∷ []) ys) (list_any-append (bytes_eq y) seen (x ∷ []) ∙ ap (λ b. is_among y seen || b) (or_false (bytes_eq y x) ∙ bytes_eq_sym y x))
    ∙ ap (λ b. (is_among y seen || bytes_eq x y) || b) (touches-more seen x ys)
    ∙ or_swap (is_among y seen) (bytes_eq x y) (touches seen ys) (is_among x ys)

pub repeats-is : (seen xs : List (List ℕ)) → repeats seen xs ≡ (touches seen xs || one_twice xs)
repeats-is seen [] = refl
repeats-is seen (x ∷ xs) =
    elim (cases_Bool (is_among x seen)) [
      | inl known ↦
          ap (λ b. b || repeats (cond b seen (seen ++ x ∷ [])) xs) known
          ∙ sym (ap (λ b. (b || touches seen xs) || (is_among x xs || one_twice xs)) known)
      | inr new ↦
          ap (λ b. b || repeats (cond b seen (seen ++ x ∷ [])) xs) new
          ∙ repeats-is (seen ++ x ∷ []) xs
          ∙ ap (λ b. b || one_twice xs) (touches-more seen x xs)
          ∙ or_assoc (touches seen xs) (is_among x xs) (one_twice xs)
          ∙ sym (ap (λ b. (b || touches seen xs) || (is_among x xs || one_twice xs)) new)
    ]

pub untouched : (xs : List (List ℕ)) → touches [] xs ≡ false
untouched [] = refl
untouched (x ∷ xs) = untouched xs

-- what is found of provisions, from what was found before
record Found (numbering : Numbering) (new : List (List ℕ)) (high many levels : ℕ) (long : Bool) (s r : Surveyed) : Type 0 where
  eids_are : r.eids ≡ gathered s.eids new
  twice_is : r.twice ≡ (s.twice || repeats s.eids new)
  count_is : r.count ≡ min (s.count + many) most
  deepest_is : r.deepest ≡ max s.deepest (min (levels + high) most)
  long_is : r.long ≡ (s.long || long)

mutual
  found : (numbering : Numbering) (above : Option (List ℕ)) (levels : ℕ) (b : Branch Own) (s : Surveyed) → levels ≤ s.deepest → levels ≤ most → s.count ≤ most
      → Found numbering (eids numbering above b) (height b) (count b) levels (has_long b) s (surveyed numbering above levels b s)
  found numbering above levels (branch own below) s deep fits counted =
      let eid : List ℕ = eid_below numbering above own.element own.num in
      let t : Surveyed = noted s eid (is_long own) (next_to levels) in
      let rest : Found numbering (all_eids numbering (Some eid) below) (heights below) (counts below) (next_to levels) (have_long below) t (all_surveyed numbering (Some eid) (next_to levels) below t) =
      all_found numbering (Some eid) (next_to levels) below t (omega arith) (omega arith) (omega arith) in
      record {
        eids_are = rest.eids_are;
        twice_is = rest.twice_is ∙ or_assoc s.twice (is_among eid s.eids) (repeats (with_eid s.eids eid) (all_eids numbering (Some eid) below));
        count_is = rest.count_is ∙ omega arith;
        deepest_is = rest.deepest_is ∙ omega arith;
        long_is = rest.long_is ∙ or_assoc s.long (is_long own) (have_long below);
      }

  all_found : (numbering : Numbering) (above : Option (List ℕ)) (levels : ℕ) (bs : Branches Own) (s : Surveyed) → levels ≤ s.deepest → levels ≤ most → s.count ≤ most
      → Found numbering (all_eids numbering above bs) (heights bs) (counts bs) levels (have_long bs) s (all_surveyed numbering above levels bs s)
  all_found numbering above levels no_branches s deep fits counted = record {
    eids_are = refl;
    twice_is = sym (or_false s.twice);
    count_is = omega arith;
    deepest_is = omega arith;
    long_is = sym (or_false s.long);
  }
  all_found numbering above levels (more_branches b bs) s deep fits counted =
      let r : Surveyed = surveyed numbering above levels b s in
      let first : Found numbering (eids numbering above b) (height b) (count b) levels (has_long b) s r = found numbering above levels b s deep fits counted in
      let c : r.count ≡ min (s.count + count b) most = first.count_is in
      let d : r.deepest ≡ max s.deepest (min (levels + height b) most) = first.deepest_is in
      let rest : Found numbering (all_eids numbering above bs) (heights bs) (counts bs) levels (have_long bs) r (all_surveyed numbering above levels bs r) =
      all_found numbering above levels bs r (omega arith) fits (omega arith) in
      let xs : List (List ℕ) = eids numbering above b in
      let ys : List (List ℕ) = all_eids numbering above bs in
      record {
        eids_are = rest.eids_are ∙ ap (λ seen. gathered seen ys) first.eids_are ∙ sym (gathered-append s.eids xs ys);
        twice_is = rest.twice_is
            ∙ ap (λ t. t || repeats r.eids ys) first.twice_is
            ∙ ap (λ seen. (s.twice || repeats s.eids xs) || repeats seen ys) first.eids_are
            ∙ or_assoc s.twice (repeats s.eids xs) (repeats (gathered s.eids xs) ys)
            ∙ ap (λ t. s.twice || t) (sym (repeats-append s.eids xs ys));
        count_is = (let e : (all_surveyed numbering above levels bs r).count ≡ min (r.count + counts bs) most = rest.count_is in omega arith);
        deepest_is = (let e : (all_surveyed numbering above levels bs r).deepest ≡ max r.deepest (min (levels + heights bs) most) = rest.deepest_is in omega arith);
        long_is = rest.long_is ∙ ap (λ t. t || have_long bs) first.long_is ∙ or_assoc s.long (has_long b) (have_long bs);
      }

below_most : (k n m : ℕ) → k < most → m ≡ min n most → nat_lt k m ≡ nat_lt k n
below_most k n m low is =
    elim (cases_lt k n) [
      | inl less ↦ lt-ltb k m (omega arith) ∙ sym (lt-ltb k n less)
      | inr more ↦ le-ltb k m (omega arith) ∙ sym (le-ltb k n more)
    ]

countable : (limit : NodeLimit) → most_nodes limit < most
countable Plain = omega arith
countable Wide = omega arith

pub fault_in-surveyed : (numbering : Numbering) (limit : NodeLimit) (bs : Branches Own) → fault_in limit (all_surveyed numbering None 0 bs nothing) ≡ first_fault numbering limit bs
fault_in-surveyed numbering limit bs =
    let r : Surveyed = all_surveyed numbering None 0 bs nothing in
    let f : Found numbering (all_eids numbering None bs) (heights bs) (counts bs) 0 (have_long bs) nothing r = all_found numbering None 0 bs nothing (omega arith) (omega arith) (omega arith) in
    let twice : r.twice ≡ one_twice (all_eids numbering None bs) =
    f.twice_is ∙ repeats-is [] (all_eids numbering None bs) ∙ ap (λ b. b || one_twice (all_eids numbering None bs)) (untouched (all_eids numbering None bs)) in
    let deep : nat_lt MAX_DEPTH r.deepest ≡ nat_lt MAX_DEPTH (heights bs) = below_most MAX_DEPTH (heights bs) r.deepest (omega arith) (let e : r.deepest ≡ max 0 (min (0 + heights bs) most) = f.deepest_is in omega arith) in
    let many : nat_lt (most_nodes limit) r.count ≡ nat_lt (most_nodes limit) (counts bs) = below_most (most_nodes limit) (counts bs) r.count (countable limit) (let e : r.count ≡ min (0 + counts bs) most = f.count_is in omega arith) in
    ap (λ t. cond t (Some EidTwice) (cond (nat_lt MAX_DEPTH r.deepest) (Some TooDeep) (cond (nat_lt (most_nodes limit) r.count) (Some TooManyNodes) (cond r.long (Some TextTooLong) None)))) twice
    ∙ ap (λ t. cond (one_twice (all_eids numbering None bs)) (Some EidTwice) (cond t (Some TooDeep) (cond (nat_lt (most_nodes limit) r.count) (Some TooManyNodes) (cond r.long (Some TextTooLong) None)))) deep
    ∙ ap (λ t. cond (one_twice (all_eids numbering None bs)) (Some EidTwice) (cond (nat_lt MAX_DEPTH (heights bs)) (Some TooDeep) (cond t (Some TooManyNodes) (cond r.long (Some TextTooLong) None)))) many
    ∙ ap (λ t. cond (one_twice (all_eids numbering None bs)) (Some EidTwice) (cond (nat_lt MAX_DEPTH (heights bs)) (Some TooDeep) (cond (nat_lt (most_nodes limit) (counts bs)) (Some TooManyNodes) (cond t (Some TextTooLong) None)))) f.long_is

-- the eIds of an act as enacted are the wIds of its provisions
mutual
  wids-enacted : (numbering : Numbering) (above : Option (List ℕ)) (b : Branch Own) → wids (enacted numbering above b) ≡ eids numbering above b
  wids-enacted numbering above (branch own below) =
      ap (λ ws. eid_below numbering above own.element own.num ∷ ws) (all_wids-enacted numbering (Some (eid_below numbering above own.element own.num)) below)

  pub all_wids-enacted : (numbering : Numbering) (above : Option (List ℕ)) (bs : Branches Own) → all_wids (all_enacted numbering above bs) ≡ all_eids numbering above bs
  all_wids-enacted numbering above no_branches = refl
  all_wids-enacted numbering above (more_branches b bs) =
      ap (λ ws. ws ++ all_wids (all_enacted numbering above bs)) (wids-enacted numbering above b) ∙ ap (λ ws. eids numbering above b ++ ws) (all_wids-enacted numbering above bs)

-- where no fault holds, the wIds of the act as enacted differ
pub faultless_differ : (numbering : Numbering) (limit : NodeLimit) (bs : Branches Own) → first_fault numbering limit bs ≡ None → one_twice (all_wids (all_enacted numbering None bs)) ≡ false
faultless_differ numbering limit bs none =
    ap one_twice (all_wids-enacted numbering None bs)
    ∙ elim (cases_Bool (one_twice (all_eids numbering None bs))) [
      | inl twice ↦ absurd (let told : first_fault numbering limit bs ≡ Some EidTwice =
          ap (λ t. cond t (Some EidTwice) (cond (nat_lt MAX_DEPTH (heights bs)) (Some TooDeep) (cond (nat_lt (most_nodes limit) (counts bs)) (Some TooManyNodes) (cond (have_long bs) (Some TextTooLong) None)))) twice in cc)
      | inr once ↦ once
    ]
