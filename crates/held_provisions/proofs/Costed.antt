-- What it costs to make what is held: the works that are made are among those that the definition counts.
use Rattle.std.proofs.Common.{◌≡◌, ◌∙◌, sym, ap, refl, subst, ℕ, ◌≤◌, Bool, true, false, cond, ◌&&◌, ◌||◌, List, [], ◌∷◌, ◌++◌, append-nil, filter, map, Some, None, arith}
use Rattle.std.proofs.lemmas.List.Sums.{sum_by-cons}
use Rattle.std.specs.List.{AllByRecursion, list_any, sum_by}
use Rattle.std.specs.List.Sorted.{IsStrictlySortedBy}
use Rattle.std.specs.Str.{bytes_eq}
use Rattle.law_register.specs.declared.register.known.Known.{Known}
use Rattle.law_register.proofs.Puts.{and_true, bytes_same, left_true, right_true}
use Rattle.held_provisions.specs.Needing.{is_wanted, needed_in}
use Rattle.held_provisions.proofs.LinesTold.{one_more}
use Rattle.law_register.specs.Provisions.Costs.{WorkNeeds, full, held_cost, is_one_of, needs_after, needs_along, needs_through, work_needs}
use Rattle.law_register.specs.Provisions.Depending.{depends}
use Rattle.law_register.specs.Provisions.Line.{IsLine, line_cmp, work_in}
use Rattle.law_register.specs.Provisions.Looking.{is_after}
use Rattle.source_provisions.proofs.Lines.{not_after}
use Rattle.source_provisions.proofs.Looking.{depends_after}

or_left : (b c : Bool) → b ≡ true → (b || c) ≡ true
or_left b c h = ap (λ x. x || c) h

or_right : (b c : Bool) → c ≡ true → (b || c) ≡ true
or_right true c h = refl
or_right false c h = h

either : (b c : Bool) (P : Type 0) → (b ≡ true → P) → (c ≡ true → P) → (b || c) ≡ true → P
either true c P left right h = left refl
either false c P left right h = right h

any_front : {A : Type 0} (test : A → Bool) (xs ys : List A) → list_any test xs ≡ true → list_any test (xs ++ ys) ≡ true
any_front test [] ys h = absurd (let wrong : false ≡ true = h in cc)
any_front test (x ∷ xs) ys h =
    either (test x) (list_any test xs) ((test x || list_any test (xs ++ ys)) ≡ true)
    (or_left (test x) (list_any test (xs ++ ys))) (λ k. or_right (test x) (list_any test (xs ++ ys)) (any_front test xs ys k)) h

any_behind : {A : Type 0} (test : A → Bool) (xs ys : List A) → list_any test ys ≡ true → list_any test (xs ++ ys) ≡ true
any_behind test [] ys h = h
any_behind test (x ∷ xs) ys h = or_right (test x) (list_any test (xs ++ ys)) (any_behind test xs ys h)

any_one : {A : Type 0} (test : A → Bool) (xs : List A) (y : A) (P : Type 0) → (list_any test xs ≡ true → P) → (test y ≡ true → P) → list_any test (xs ++ y ∷ []) ≡ true → P
any_one test [] y P front last h = last (plain (test y) h)
  where
    plain : (b : Bool) → (b || false) ≡ true → b ≡ true
    plain true h = refl
    plain false h = h
any_one test (x ∷ xs) y P front last h =
    either (test x) (list_any test (xs ++ y ∷ [])) P (λ k. front (or_left (test x) (list_any test xs) k))
    (any_one test xs y P (λ k. front (or_right (test x) (list_any test xs) k)) last) h

-- those that pass a test that goes by the IRI
of_filtered : (test : Known → Bool) → ((a b : Known) → a.act.work ≡ b.act.work → test a ≡ test b) → (works : List Known) (k : Known)
    → is_one_of (filter test works) k ≡ true → (test k ≡ true) × (is_one_of works k ≡ true)
of_filtered test same [] k h = absurd (let wrong : false ≡ true = h in cc)
of_filtered test same (x ∷ xs) k h = by (test x) refl (of_filtered test same xs k) h
  where
    later : (test k ≡ true) × (is_one_of xs k ≡ true) → (test k ≡ true) × (is_one_of (x ∷ xs) k ≡ true)
    later both = (both.0, or_right (bytes_eq x.act.work k.act.work) (is_one_of xs k) both.1)

    by : (b : Bool) → test x ≡ b → (is_one_of (filter test xs) k ≡ true → (test k ≡ true) × (is_one_of xs k ≡ true))
        → is_one_of (cond b (x ∷ filter test xs) (filter test xs)) k ≡ true → (test k ≡ true) × (is_one_of (x ∷ xs) k ≡ true)
    by true is rest h =
        either (bytes_eq x.act.work k.act.work) (is_one_of (filter test xs) k) ((test k ≡ true) × (is_one_of (x ∷ xs) k ≡ true))
        (λ it. (sym (same x k (bytes_same x.act.work k.act.work it)) ∙ is, or_left (bytes_eq x.act.work k.act.work) (is_one_of xs k) it))
        (λ there. later (rest there)) h
    by false is rest h = later (rest h)

in_filtered : (test : Known → Bool) → ((a b : Known) → a.act.work ≡ b.act.work → test a ≡ test b) → (works : List Known) (k : Known)
    → test k ≡ true → is_one_of works k ≡ true → is_one_of (filter test works) k ≡ true
in_filtered test same [] k passes h = h
in_filtered test same (x ∷ xs) k passes h = by (test x) refl (in_filtered test same xs k passes)
  where
    by : (b : Bool) → test x ≡ b → (is_one_of xs k ≡ true → is_one_of (filter test xs) k ≡ true)
        → is_one_of (cond b (x ∷ filter test xs) (filter test xs)) k ≡ true
    by true is rest =
        either (bytes_eq x.act.work k.act.work) (is_one_of xs k) ((bytes_eq x.act.work k.act.work || is_one_of (filter test xs) k) ≡ true)
        (or_left (bytes_eq x.act.work k.act.work) (is_one_of (filter test xs) k))
        (λ there. or_right (bytes_eq x.act.work k.act.work) (is_one_of (filter test xs) k) (rest there)) h
    by false is rest =
        either (bytes_eq x.act.work k.act.work) (is_one_of xs k) (is_one_of (filter test xs) k ≡ true)
        (λ it. absurd (let wrong : true ≡ false = sym passes ∙ sym (same x k (bytes_same x.act.work k.act.work it)) ∙ is in cc))
        rest h

module _ (line : List Known) (is : IsLine line) where
  abbrev IsThere : Known → Type 0
  IsThere known = work_in known.act.work line ≡ Some known

  abbrev knowns : List WorkNeeds → List Known
  knowns ws = map (λ (w : WorkNeeds). w.known) ws

  -- a work needs another, through one of these
  abbrev Through : List WorkNeeds → Known → Known → Bool
  Through ws known other = list_any (needs_through line known other) ws

  through_same : (ws : List WorkNeeds) (known : Known) (a b : Known) → a.act.work ≡ b.act.work → Through ws known a ≡ Through ws known b
  through_same [] known a b same = refl
  through_same (w ∷ ws) known a b same =
      ap (λ v. (depends line known w.known.act.work && (bytes_eq w.known.act.work v || list_any (λ (k : Known). bytes_eq k.act.work v) w.needs)) || Through ws known a) same
      ∙ ap (λ t. needs_through line known b w || t) (through_same ws known a b same)

  -- a work on which it depends, where that is one of these
  through_itself : (ws : List WorkNeeds) (known other : Known) → depends line known other.act.work ≡ true → is_one_of (knowns ws) other ≡ true
      → Through ws known other ≡ true
  through_itself [] known other on there = there
  through_itself (w ∷ ws) known other on there =
      either (bytes_eq w.known.act.work other.act.work) (is_one_of (knowns ws) other) (Through (w ∷ ws) known other ≡ true)
      (λ it. or_left (needs_through line known other w) (Through ws known other)
      (and_true (depends line known w.known.act.work) (bytes_eq w.known.act.work other.act.work || is_one_of w.needs other)
      (ap (depends line known) (bytes_same w.known.act.work other.act.work it) ∙ on)
      (or_left (bytes_eq w.known.act.work other.act.work) (is_one_of w.needs other) it)))
      (λ later. or_right (needs_through line known other w) (Through ws known other) (through_itself ws known other on later)) there

  same_known : (a b : Known) → IsThere a → IsThere b → a.act.work ≡ b.act.work → a ≡ b
  same_known a b one two same = inner a b (sym one ∙ ap (λ w. work_in w line) same ∙ two)
    where
      inner : (x y : Known) → Some x ≡ Some y → x ≡ y
      inner x y e = cc

  found_one_of : (works : List Known) (k : Known) → (work_in k.act.work works ≡ None → is_one_of works k ≡ true) → is_one_of works k ≡ true
  found_one_of [] k h = h refl
  found_one_of (x ∷ xs) k h = by (bytes_eq x.act.work k.act.work) refl (found_one_of xs k)
    where
      by : (b : Bool) → bytes_eq x.act.work k.act.work ≡ b → ((work_in k.act.work xs ≡ None → is_one_of xs k ≡ true) → is_one_of xs k ≡ true)
          → (b || is_one_of xs k) ≡ true
      by true it rest = refl
      by false it rest =
          rest (λ none.
          let more : (bytes_eq x.act.work k.act.work || is_one_of xs k) ≡ true = h (ap (λ b. cond b (Some x) (work_in k.act.work xs)) it ∙ none) in
          sym (ap (λ b. b || is_one_of xs k) it) ∙ more)

  -- it stands ahead
  ahead_of : (front : List Known) (known : Known) (behind : List Known) → front ++ known ∷ behind ≡ line → (other : Known)
      → depends line known other.act.work ≡ true → is_one_of front other ≡ true
  ahead_of front known behind split other on =
      found_one_of front other
      (λ none. absurd (let wrong : true ≡ false =
      sym (depends_after line known other.act.work on)
      ∙ ap (λ ks. is_after known.act.day (work_in other.act.work ks)) (sym split)
      ∙ not_after front known behind (subst (IsStrictlySortedBy line_cmp) (sym split) is.ascends) other.act.work none in cc))

  -- what a work needs is one of these, and what that depends on it needs as well
  pub record AreClosed (ws : List WorkNeeds) : Type 0 where
    pub among : (known other : Known) → Through ws known other ≡ true → is_one_of (knowns ws) other ≡ true
    pub on : (known other third : Known) → IsThere other → Through ws known other ≡ true → depends line other third.act.work ≡ true
        → Through ws known third ≡ true

  knowns_more : (ws : List WorkNeeds) (w : WorkNeeds) → knowns (ws ++ w ∷ []) ≡ knowns ws ++ w.known ∷ []
  knowns_more [] w = refl
  knowns_more (x ∷ xs) w = ap (λ (ks : List Known). x.known ∷ ks) (knowns_more xs w)

  module _ (ws : List WorkNeeds) (closed : AreClosed ws) (one : Known) (behind : List Known) (there : IsThere one) (split : knowns ws ++ one ∷ behind ≡ line) where
    abbrev last : WorkNeeds
    last = work_needs line ws one

    needs_it : (other : Known) → Through ws one other ≡ true → is_one_of last.needs other ≡ true
    needs_it other through = in_filtered (Through ws one) (through_same ws one) (knowns ws) other through (closed.among one other through)

    its_needs : (other : Known) → is_one_of last.needs other ≡ true → Through ws one other ≡ true
    its_needs other h = (of_filtered (Through ws one) (through_same ws one) (knowns ws) other h).0

    among_more : (known other : Known) → Through (ws ++ last ∷ []) known other ≡ true → is_one_of (knowns (ws ++ last ∷ [])) other ≡ true
    among_more known other through =
        ap (λ ks. is_one_of ks other) (knowns_more ws last)
        ∙ any_one (needs_through line known other) ws last (is_one_of (knowns ws ++ one ∷ []) other ≡ true)
        (λ front. any_front (λ (k : Known). bytes_eq k.act.work other.act.work) (knowns ws) (one ∷ []) (closed.among known other front))
        (λ through_last. either (bytes_eq one.act.work other.act.work) (is_one_of last.needs other) (is_one_of (knowns ws ++ one ∷ []) other ≡ true)
        (λ it. any_behind (λ (k : Known). bytes_eq k.act.work other.act.work) (knowns ws) (one ∷ []) (or_left (bytes_eq one.act.work other.act.work) false it))
        (λ needed. any_front (λ (k : Known). bytes_eq k.act.work other.act.work) (knowns ws) (one ∷ []) (closed.among one other (its_needs other needed)))
        (right_true (depends line known one.act.work) (bytes_eq one.act.work other.act.work || is_one_of last.needs other) through_last))
        through

    through_last : (known third : Known) → depends line known one.act.work ≡ true → Through ws one third ≡ true → Through (ws ++ last ∷ []) known third ≡ true
    through_last known third on through =
        any_behind (needs_through line known third) ws (last ∷ [])
        (or_left (needs_through line known third last) false
        (and_true (depends line known one.act.work) (bytes_eq one.act.work third.act.work || is_one_of last.needs third) on
        (or_right (bytes_eq one.act.work third.act.work) (is_one_of last.needs third) (needs_it third through))))

    on_more : (known other third : Known) → IsThere other → Through (ws ++ last ∷ []) known other ≡ true → depends line other third.act.work ≡ true
        → Through (ws ++ last ∷ []) known third ≡ true
    on_more known other third here through on =
        any_one (needs_through line known other) ws last (Through (ws ++ last ∷ []) known third ≡ true)
        (λ front. any_front (needs_through line known third) ws (last ∷ []) (closed.on known other third here front on))
        (λ by_last.
        let own : depends line known one.act.work ≡ true =
        left_true (depends line known one.act.work) (bytes_eq one.act.work other.act.work || is_one_of last.needs other) by_last in
        through_last known third own
        (either (bytes_eq one.act.work other.act.work) (is_one_of last.needs other) (Through ws one third ≡ true)
        (λ it.
        let same : one ≡ other = same_known one other there here (bytes_same one.act.work other.act.work it) in
        let on_one : depends line one third.act.work ≡ true = ap (λ k. depends line k third.act.work) same ∙ on in
        through_itself ws one third on_one (ahead_of (knowns ws) one behind split third on_one))
        (λ needed. closed.on one other third here (its_needs other needed) on)
        (right_true (depends line known one.act.work) (bytes_eq one.act.work other.act.work || is_one_of last.needs other) by_last)))
        through

    closed_more : AreClosed (ws ++ last ∷ [])
    closed_more = record { among = among_more; on = on_more }

  closed_after : (ws : List WorkNeeds) (works : List Known) → AreClosed ws → knowns ws ++ works ≡ line → AllByRecursion IsThere works
      → AreClosed (needs_after line ws works)
  closed_after ws [] closed split there = closed
  closed_after ws (one ∷ works) closed split there =
      closed_after (ws ++ work_needs line ws one ∷ []) works (closed_more ws closed one works there.0 split)
      (one_more (λ (w : WorkNeeds). w.known) ws (work_needs line ws one) works ∙ split) there.1

  knowns_after : (ws : List WorkNeeds) (works : List Known) → knowns (needs_after line ws works) ≡ knowns ws ++ works
  knowns_after ws [] = sym (append-nil (knowns ws))
  knowns_after ws (one ∷ works) =
      knowns_after (ws ++ work_needs line ws one ∷ []) works ∙ one_more (λ (w : WorkNeeds). w.known) ws (work_needs line ws one) works

  all_closed : AreClosed (needs_along line)
  unfolding needs_along
  all_closed =
      closed_after [] line (record { among = λ known other through. through; on = λ known other third here through on. absurd (let wrong : false ≡ true = through in cc) })
      refl is.own

  all_known : knowns (needs_along line) ≡ line
  unfolding needs_along
  all_known = knowns_after [] line

  module _ (known : Known) where
    abbrev IsNeeded : Known → Type 0
    IsNeeded k = Through (needs_along line) known k ≡ true

    one_is_needed : (other : Known) → IsThere other → (ns : List Known) → AllByRecursion IsNeeded ns → AllByRecursion IsThere ns
        → list_any (λ (n : Known). depends line n other.act.work) ns ≡ true → IsNeeded other
    one_is_needed other here [] all there h = absurd (let wrong : false ≡ true = h in cc)
    one_is_needed other here (n ∷ ns) all there h =
        either (depends line n other.act.work) (list_any (λ (n : Known). depends line n other.act.work) ns) (IsNeeded other)
        (all_closed.on known n other there.0 all.0) (one_is_needed other here ns all.1 there.1) h

    itself_needed : (other : Known) → IsThere other → depends line known other.act.work ≡ true → IsNeeded other
    itself_needed other here on =
        through_itself (needs_along line) known other on
        (ap (λ ks. is_one_of ks other) all_known ∙ found_one_of line other (λ none. absurd (let wrong : Some other ≡ None = sym here ∙ none in cc)))

    all_needed : (works : List Known) → AllByRecursion IsThere works → AllByRecursion IsNeeded (needed_in line known works) × AllByRecursion IsThere (needed_in line known works)
    all_needed [] there = (tt, tt)
    all_needed (other ∷ others) there =
        by (is_wanted line known (needed_in line known others) other.act.work) refl (all_needed others there.1)
      where
        by : (b : Bool) → is_wanted line known (needed_in line known others) other.act.work ≡ b
            → AllByRecursion IsNeeded (needed_in line known others) × AllByRecursion IsThere (needed_in line known others)
            → AllByRecursion IsNeeded (cond b (other ∷ needed_in line known others) (needed_in line known others))
            × AllByRecursion IsThere (cond b (other ∷ needed_in line known others) (needed_in line known others))
        by true wanted rest = (
          (
            either (depends line known other.act.work) (list_any (λ (n : Known). depends line n other.act.work) (needed_in line known others)) (IsNeeded other)
                (itself_needed other there.0) (one_is_needed other there.0 (needed_in line known others) rest.0 rest.1) wanted,
            rest.0,
          ),
          (there.0, rest.1),
        )
        by false wanted rest = rest

    costs_less : (f : Known → ℕ) (works : List Known) → AllByRecursion IsNeeded (needed_in line known works)
        → sum_by f (needed_in line known works) ≤ sum_by f (filter (Through (needs_along line) known) works)
    costs_less f [] all = omega arith
    costs_less f (other ∷ others) all = by (is_wanted line known (needed_in line known others) other.act.work) all (costs_less f others)
      where
        by : (b : Bool) → AllByRecursion IsNeeded (cond b (other ∷ needed_in line known others) (needed_in line known others))
            → (AllByRecursion IsNeeded (needed_in line known others)
            → sum_by f (needed_in line known others) ≤ sum_by f (filter (Through (needs_along line) known) others))
            → sum_by f (cond b (other ∷ needed_in line known others) (needed_in line known others))
            ≤ sum_by f (cond (Through (needs_along line) known other) (other ∷ filter (Through (needs_along line) known) others) (filter (Through (needs_along line) known) others))
        by true all rest =
            let less = rest all.1 in
            let whole : sum_by f (other ∷ needed_in line known others) ≤ sum_by f (other ∷ filter (Through (needs_along line) known) others) =
            omega (arith, less, sum_by-cons f other (needed_in line known others), sum_by-cons f other (filter (Through (needs_along line) known) others)) in
            subst (λ b. sum_by f (other ∷ needed_in line known others)
            ≤ sum_by f (cond b (other ∷ filter (Through (needs_along line) known) others) (filter (Through (needs_along line) known) others))) (sym all.0) whole
        by false all rest = more (Through (needs_along line) known other) (rest all)
          where
            more : (c : Bool) → sum_by f (needed_in line known others) ≤ sum_by f (filter (Through (needs_along line) known) others)
                → sum_by f (needed_in line known others)
                ≤ sum_by f (cond c (other ∷ filter (Through (needs_along line) known) others) (filter (Through (needs_along line) known) others))
            more true less = omega (arith, less, sum_by-cons f other (filter (Through (needs_along line) known) others))
            more false less = less

    pub needed_costs : sum_by (full line) (needed_in line known line) ≤ held_cost line known
    needed_costs =
        subst (λ ks. sum_by (full line) (needed_in line known line) ≤ sum_by (full line) (filter (Through (needs_along line) known) ks)) (sym all_known)
        (costs_less (full line) line (all_needed line is.own).0)
