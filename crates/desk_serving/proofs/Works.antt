-- What a worker did in several turns of its loop.
use Rattle.std.proofs.Common.{◌≡◌, ◌≤◌, ◌<◌, ◌||◌, ◌+◌, refl, sym, ap, subst, ◌∙◌, ℕ, Bool, true, false, List, [], ◌∷◌, ◌++◌, length, map, Option, None, Some, arith, append_assoc, append-nil, length-append}
use Rattle.std.specs.List.{list_any}
use Rattle.std.proofs.lemmas.List.{map-append}
use Rattle.std.proofs.lemmas.List.Folds.{list_any-append}
use Rattle.desk_gates.specs.Tallies.{Ended, Tally, and_one, ended, with_given, with_taken}
use Rattle.turn_lock.specs.Passes.{IsPassOf}
use Rattle.turn_lock.specs.Turned.{id_of}
use Rattle.turn_lock.specs.declared.pass.Pass.{Pass}
use Rattle.turn_lock.specs.declared.turns.Turns.{Turns}
use Rattle.law_http.specs.Connections.{StaysPass}
use Rattle.desk_serving.specs.Work.{Visit, Moment, AreVisitsAnswered, HasWorked, IsVisitAnswered, and_more, counted, some_wants_memory, wants_memory, with_visits}

and_more_on : {A : Type 0} (o : Option (List A)) (xs ys : List A) → and_more (and_more o xs) ys ≡ and_more o (xs ++ ys)
and_more_on None xs ys = refl
and_more_on (Some all) xs ys = ap Some (append_assoc all xs ys)

and_none : {A : Type 0} (o : Option (List A)) → and_more o [] ≡ o
and_none None = refl
and_none (Some all) = ap Some (append-nil all)

or_assoc : (a b c : Bool) → ((a || b) || c) ≡ (a || (b || c))
or_assoc true b c = refl
or_assoc false b c = refl

or_none : (a : Bool) → (a || false) ≡ a
or_none true = refl
or_none false = refl

one_more : {A : Type 0} (o : Option (List A)) (x : A) → and_one o x ≡ and_more o (x ∷ [])
one_more None x = refl
one_more (Some all) x = refl

abbrev tally : ℕ → ℕ → Option (List (Option (List ℕ))) → Option (List Ended) → Tally
tally given taken lefts ends = record { given = given; taken = taken; lefts = lefts; ends = ends }

same_tally : (a b c d : ℕ) (k l : Option (List (Option (List ℕ)))) (m n : Option (List Ended)) → a ≡ b → c ≡ d → k ≡ l → m ≡ n
    → tally a c k m ≡ tally b d l n
same_tally a b c d k l m n p q r s =
    ap (λ x. tally x c k m) p ∙ (ap (λ x. tally b x k m) q ∙ (ap (λ x. tally b d x m) r ∙ ap (λ x. tally b d l x) s))

module _ {C : Type 0} (left written : C → Option (List ℕ)) (read_faults write_faults : C → ℕ) where
  told_on : (xs ys : List (Visit C)) (t : Tally)
      → with_visits left written read_faults write_faults ys (with_visits left written read_faults write_faults xs t)
      ≡ with_visits left written read_faults write_faults (xs ++ ys) t
  told_on xs ys t = same_tally
      ((t.given + length xs) + length ys) (t.given + length (xs ++ ys)) ((t.taken + length xs) + length ys) (t.taken + length (xs ++ ys))
      (and_more (and_more t.lefts (map (λ v. left v.given) xs)) (map (λ v. left v.given) ys)) (and_more t.lefts (map (λ v. left v.given) (xs ++ ys)))
      (and_more (and_more t.ends (map (λ v. ended written read_faults write_faults v.back) xs)) (map (λ v. ended written read_faults write_faults v.back) ys))
      (and_more t.ends (map (λ v. ended written read_faults write_faults v.back) (xs ++ ys)))
      (omega (arith, length-append xs ys)) (omega (arith, length-append xs ys))
      (and_more_on t.lefts (map (λ v. left v.given) xs) (map (λ v. left v.given) ys)
      ∙ ap (and_more t.lefts) (sym (map-append (λ v. left v.given) xs ys)))
      (and_more_on t.ends (map (λ v. ended written read_faults write_faults v.back) xs) (map (λ v. ended written read_faults write_faults v.back) ys)
      ∙ ap (and_more t.ends) (sym (map-append (λ v. ended written read_faults write_faults v.back) xs ys)))

  answered_on : (xs ys : List (Visit C)) (a b c : Moment)
      → AreVisitsAnswered left written read_faults write_faults xs a b → AreVisitsAnswered left written read_faults write_faults ys b c
      → AreVisitsAnswered left written read_faults write_faults (xs ++ ys) a c
  answered_on [] ys a b c p q = subst (λ m. AreVisitsAnswered left written read_faults write_faults ys m c) p q
  answered_on (x ∷ xs) ys a b c p q = (p.0, p.1, answered_on xs ys p.0 b c p.2 q)

  pub none_told : (t : Tally) → t ≡ with_visits left written read_faults write_faults [] t
  none_told t = sym (same_tally (t.given + 0) t.given (t.taken + 0) t.taken (and_more t.lefts []) t.lefts (and_more t.ends []) t.ends
      (omega arith) (omega arith) (and_none t.lefts) (and_none t.ends))

  -- nothing was done
  pub none_worked : (t : Tally) (f : ℕ) (m : Moment) (w : Bool)
      → HasWorked left written read_faults write_faults 0 t t f f m m w false w
  none_worked t f m w = record {
    visits = [];
    told = none_told t;
    answered = refl;
    few = omega arith;
    all = λ _. refl;
    cause = refl;
    wants = sym (or_none w);
  }

  one_told : (visit : Visit C) (t : Tally)
      → with_taken (ended written read_faults write_faults visit.back) (with_given (left visit.given) t)
      ≡ with_visits left written read_faults write_faults (visit ∷ []) t
  one_told visit t = same_tally (t.given + 1) (t.given + 1) (t.taken + 1) (t.taken + 1)
      (and_one t.lefts (left visit.given)) (and_more t.lefts (left visit.given ∷ []))
      (and_one t.ends (ended written read_faults write_faults visit.back)) (and_more t.ends (ended written read_faults write_faults visit.back ∷ []))
      refl refl (one_more t.lefts (left visit.given)) (one_more t.ends (ended written read_faults write_faults visit.back))

  -- one connection was answered
  pub one_worked : (visit : Visit C) (t u v : Tally) (f g h : ℕ) (a b : Moment) (w x failed : Bool)
      → failed ≡ false
      → u ≡ with_given (left visit.given) t → v ≡ with_taken (ended written read_faults write_faults visit.back) u
      → g ≡ f → h ≡ g → IsVisitAnswered left written read_faults write_faults visit a b
      → x ≡ (w || wants_memory visit.served.end)
      → HasWorked left written read_faults write_faults 1 t v f h a b w failed x
  one_worked visit t u v f g h a b w x failed whole given taken first second answered wants = record {
    visits = visit ∷ [];
    told = taken ∙ (ap (with_taken (ended written read_faults write_faults visit.back)) given ∙ one_told visit t);
    answered = (b, answered, refl);
    few = omega arith;
    all = λ _. refl;
    cause = second ∙ (first ∙ ap (λ z. counted z f) (sym whole));
    wants = wants ∙ ap (λ z. w || z) (sym (or_none (wants_memory visit.served.end)));
  }

  -- so many, and then more
  pub worked_on : (n m : ℕ) (t u v : Tally) (f g h : ℕ) (a b c : Moment) (w x y : Bool) (failed : Bool)
      → HasWorked left written read_faults write_faults n t u f g a b w false x
      → HasWorked left written read_faults write_faults m u v g h b c x failed y
      → HasWorked left written read_faults write_faults (n + m) t v f h a c w failed y
  worked_on n m t u v f g h a b c w x y failed p q = record {
    visits = p.visits ++ q.visits;
    told = q.told ∙ (ap (with_visits left written read_faults write_faults q.visits) p.told ∙ told_on p.visits q.visits t);
    answered = answered_on p.visits q.visits a b c p.answered q.answered;
    few = omega (arith, length-append p.visits q.visits, p.few, q.few);
    all = λ none. omega (arith, length-append p.visits q.visits, p.all refl, q.all none);
    cause = q.cause ∙ ap (counted failed) p.cause;
    wants = q.wants ∙ (ap (λ z. z || some_wants_memory q.visits) p.wants
        ∙ (or_assoc w (some_wants_memory p.visits) (some_wants_memory q.visits)
        ∙ ap (λ z. w || z) (sym (list_any-append _ p.visits q.visits))));
  }

  -- where the gate failed, fewer are not too few
  pub worked_within : (n m : ℕ) (t u : Tally) (f g : ℕ) (a b : Moment) (w x : Bool) → n ≤ m
      → HasWorked left written read_faults write_faults n t u f g a b w true x
      → HasWorked left written read_faults write_faults m t u f g a b w true x
  worked_within n m t u f g a b w x le p = record {
    visits = p.visits;
    told = p.told;
    answered = p.answered;
    few = omega (arith, p.few);
    all = λ none. absurd (cc none);
    cause = p.cause;
    wants = p.wants;
  }

  -- one more, where the gate did not fail
  pub worked_next : (n : ℕ) (t u v : Tally) (f g h : ℕ) (a b c : Moment) (w x y failed : Bool) → failed ≡ false
      → HasWorked left written read_faults write_faults n t u f g a b w false x
      → HasWorked left written read_faults write_faults 1 u v g h b c x failed y
      → HasWorked left written read_faults write_faults (n + 1) t v f h a c w false y
  worked_next n t u v f g h a b c w x y failed whole p q =
      subst (λ z. HasWorked left written read_faults write_faults (n + 1) t v f h a c w z y) whole
      (worked_on n 1 t u v f g h a b c w x y failed p q)

  -- and where it did
  pub worked_last : (n count : ℕ) (t u v : Tally) (f g h : ℕ) (a b c : Moment) (w x y failed : Bool) → failed ≡ true → n < count
      → HasWorked left written read_faults write_faults n t u f g a b w false x
      → HasWorked left written read_faults write_faults 1 u v g h b c x failed y
      → HasWorked left written read_faults write_faults count t v f h a c w failed y
  worked_last n count t u v f g h a b c w x y failed broken less p q =
      subst (λ z. HasWorked left written read_faults write_faults count t v f h a c w z y) (sym broken)
      (worked_within (n + 1) count t v f h a c w y (omega (arith, less))
      (subst (λ z. HasWorked left written read_faults write_faults (n + 1) t v f h a c w z y) broken
      (worked_on n 1 t u v f g h a b c w x y failed p q)))

  pub worked_all : (n count : ℕ) (t u : Tally) (f g : ℕ) (a b : Moment) (w x failed : Bool) → failed ≡ false → n ≡ count
      → HasWorked left written read_faults write_faults n t u f g a b w false x
      → HasWorked left written read_faults write_faults count t u f g a b w failed x
  worked_all n count t u f g a b w x failed whole same p =
      subst (λ z. HasWorked left written read_faults write_faults count t u f g a b w z x) (sym whole)
      (subst (λ m. HasWorked left written read_faults write_faults m t u f g a b w false x) same p)

module _ {T I : Type 0} (turns : Turns T I) where
  -- a pass stays, and stays
  pub stays_on : (a b c : Pass T I) → StaysPass turns a b → StaysPass turns b c → StaysPass turns a c
  stays_on a b c p q = record { own = q.own; share = q.share ∙ p.share; began = (q.began.0 ∙ p.began.0, q.began.1 ∙ p.began.1) }

  pub stays_here : (a : Pass T I) → IsPassOf (id_of turns) a → StaysPass turns a a
  stays_here a own = record { own = own; share = refl; began = (refl, refl) }
