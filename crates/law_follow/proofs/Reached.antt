-- A list between what a follower had and what it has is what the first of its messages make.
use Rattle.std.proofs.Common.{◌≡◌, ◌⊎◌, ⊎_elim, ◌∙◌, sym, ap, subst, refl, inl, inr, arith, ℕ, zero, suc, ◌+◌, Bool, true, false, List, [], ◌∷◌, ◌++◌, length, take, Option, Result, Ok, Err, append_assoc, length-append}
use Rattle.std.proofs.lemmas.List.{append-nil, append_cancel_left, take_all}
use Rattle.law_journal.specs.Grammar.{Listing}
use Rattle.law_follow.specs.Following.{Course, HasCome, HasTaken, IsKept, after_one, begun, followed, is_whole}
use Rattle.law_follow.specs.Frames.{Message}
use Rattle.law_follow.specs.Taking.{after_answer, after_taking, taken}
use Rattle.law_follow.specs.Worlds.{IsFrontOf, is_register}
use Rattle.law_follow.specs.declared.followed.Followed.{Followed}
use Rattle.law_follow.specs.declared.followed.FollowFault.{FollowFault}
use Rattle.law_follow.specs.declared.taken.Taken.{Taken}
use Rattle.law_follow.specs.declared.taken.Taken.TheVariants.{Added, Known}
use Rattle.law_follow.specs.declared.taken.TakeFault.{TakeFault}
use Rattle.law_follow.proofs.Courses.{front_followed}
use Rattle.law_follow.proofs.Openings.{front_registers}

-- each of two lists is the front of the other
front_both : (a b : List (List ℕ)) → IsFrontOf a b → IsFrontOf b a → a ≡ b
front_both a b first second = by first.0 first.1
  where
    by : (rest : List (List ℕ)) → a ++ rest ≡ b → a ≡ b
    by [] is = sym (append-nil a) ∙ is
    by (x ∷ rest) is =
        let longer : length b ≡ length a + length (x ∷ rest) = ap length (sym is) ∙ length-append a (x ∷ rest) in
        let shorter : length a ≡ length b + length second.0 = ap length (sym second.1) ∙ length-append b second.0 in
        absurd (omega (arith, longer, shorter))

-- a message adds its payload, or nothing
one_step : (payloads : List (List ℕ)) (number : ℕ) (payload : List ℕ)
    → (after_taking payloads number payload ≡ payloads) ⊎ (after_taking payloads number payload ≡ payloads ++ payload ∷ [])
one_step payloads number payload = by (taken payloads number payload)
  where
    by : (r : Result Taken TakeFault) → (after_answer payloads payload r ≡ payloads) ⊎ (after_answer payloads payload r ≡ payloads ++ payload ∷ [])
    by (Ok Added) = inr refl
    by (Ok Known) = inl refl
    by (Err refusal) = inl refl

-- the first of these messages make that list
abbrev IsReached : Course → List Message → List (List ℕ) → Type 0
IsReached c ms list = (count : ℕ) × ((followed c (take count ms)).payloads ≡ list)

module _ (c : Course) (m : Message) (ms : List Message) (list : List (List ℕ)) (within : IsFrontOf list (followed c (m ∷ ms)).payloads)
    (later : IsFrontOf (after_one c m).payloads list → IsReached (after_one c m) ms list) where
  further : IsFrontOf (after_one c m).payloads list → IsReached c (m ∷ ms) list
  further begins = let r = later begins in (suc r.0, r.1)

  -- it begins with the payload of the message, since all that comes does
  same_next : (x : List ℕ) (rest : List (List ℕ)) → c.payloads ++ x ∷ rest ≡ list → (after_one c m).payloads ≡ c.payloads ++ m.payload ∷ [] → m.payload ≡ x
  same_next x rest is added =
      let all = front_followed (after_one c m) ms in
      let one : c.payloads ++ (m.payload ∷ all.0) ≡ (followed c (m ∷ ms)).payloads =
      sym (append_assoc c.payloads (m.payload ∷ []) all.0) ∙ ap (λ (l : List (List ℕ)). l ++ all.0) (sym added) ∙ all.1 in
      let other : c.payloads ++ (x ∷ rest ++ within.0) ≡ (followed c (m ∷ ms)).payloads =
      sym (append_assoc c.payloads (x ∷ rest) within.0) ∙ ap (λ (l : List (List ℕ)). l ++ within.0) is ∙ within.1 in
      let next : m.payload ∷ all.0 ≡ x ∷ rest ++ within.0 =
      append_cancel_left c.payloads (m.payload ∷ all.0) (x ∷ rest ++ within.0) (one ∙ sym other) in
      cc next

  by_rest : (rest : List (List ℕ)) → c.payloads ++ rest ≡ list → (after_one c m).payloads ≡ c.payloads ++ m.payload ∷ [] → IsReached c (m ∷ ms) list
  by_rest [] is added = (zero, sym (append-nil c.payloads) ∙ is)
  by_rest (x ∷ rest) is added = further (
    rest,
    ap (λ (l : List (List ℕ)). l ++ rest) added
        ∙ append_assoc c.payloads (m.payload ∷ []) rest
        ∙ ap (λ (p : List ℕ). c.payloads ++ (p ∷ rest)) (same_next x rest is added)
        ∙ is,
  )

  reach_one : IsFrontOf c.payloads list → IsReached c (m ∷ ms) list
  reach_one begins =
      ⊎_elim (λ same. further (subst (λ (l : List (List ℕ)). IsFrontOf l list) (sym same) begins)) (λ added. by_rest begins.0 begins.1 added)
      (one_step c.payloads m.number m.payload)

reaches : (c : Course) (ms : List Message) (list : List (List ℕ)) → IsFrontOf c.payloads list → IsFrontOf list (followed c ms).payloads → IsReached c ms list
reaches c [] list begins within = (zero, front_both c.payloads list begins within)
reaches c (m ∷ ms) list begins within = reach_one c m ms list within (λ next. reaches (after_one c m) ms list next within) begins

-- what is kept of a stream that was followed
pub kept_first : (input : Option (List ℕ)) (old : List (List ℕ)) (ms : List Message) (rest : Option (List ℕ)) (now : Course)
    (result : Result Followed FollowFault) (list : Listing) → HasCome input old ms rest now → is_register now.payloads ≡ true
    → IsKept result old now.payloads list → HasTaken old ms result list
kept_first input old ms rest now result list come legal kept = by (is_whole result) refl
  where
    all : (followed (begun old) ms).payloads ≡ now.payloads
    all = ap (λ (c : Course). c.payloads) come.goes

    every : (followed (begun old) (take (length ms) ms)).payloads ≡ now.payloads
    every = ap (λ (l : List Message). (followed (begun old) l).payloads) (take_all (length ms) ms (omega arith)) ∙ all

    some : IsReached (begun old) ms kept.0.payloads
    some = reaches (begun old) ms kept.0.payloads kept.0.begins
        (subst (λ (l : List (List ℕ)). IsFrontOf kept.0.payloads l) (sym all) kept.0.within)

    fronts : is_register kept.0.payloads ≡ true
    fronts = front_registers kept.0.payloads kept.0.within.0 (ap (λ (l : List (List ℕ)). is_register l) kept.0.within.1 ∙ legal)

    by : (whole : Bool) → is_whole result ≡ whole → HasTaken old ms result list
    by true whole = record {
      took = length ms;
      is = kept.1 whole ∙ ap (λ (l : List (List ℕ)). listing l) (sym every);
      whole = λ told. omega arith;
      legal = ap (λ (l : List (List ℕ)). is_register l) every ∙ legal;
    }
      where
        listing : List (List ℕ) → Listing
        listing l = Ok l
    by false part = record {
      took = some.0;
      is = kept.0.is ∙ ap (λ (l : List (List ℕ)). listing l) (sym some.1);
      whole = λ told. absurd (let no : true ≡ false = sym told ∙ part in cc no);
      legal = ap (λ (l : List (List ℕ)). is_register l) some.1 ∙ fronts;
    }
      where
        listing : List (List ℕ) → Listing
        listing l = Ok l
