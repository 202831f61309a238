-- Passes are split and joined, and the turns closed, under the rule.
use Rattle.std.proofs.Common.{◌≡◌, ◌≢◌, ℕ, ◌+◌, ◌<◌, List, [], ◌∷◌, ◌++◌, length, set, refl, sym, ap, ◌∙◌, subst, ⊎_elim, inl, inr, arith, Option, Some}
use Rattle.std.specs.List.{sum_by}
use Rattle.std.proofs.lemmas.List.Sums.{sum_by_push}
use mathlib.Core.List.{IsPrefix}
use mathlib.Core.Logic.{dite}
use mathlib.Core.Option.{some, some-injective}
use native.Mathlib.Decide.{ℕ_discrete}
use lib.ListN.{get_elem?}
use Rattle.atomic_table.specs.Table.{Splits, Joins, Seen, Final}
use Rattle.atomic_table.proofs.Lists.{at_set, set_else, at_snoc, at_longer}
use Rattle.turn_lock.specs.declared.view.View.{View}
use Rattle.turn_lock.specs.declared.view.Opening.{Opening}
use Rattle.turn_lock.specs.declared.view.Stage.TheVariants.{Between}
use Rattle.turn_lock.specs.Ladder.{HasTicket, tickets_at, tickets, IsOut, spent, IsAtHome, IsAway, remaining, given, merged}
use Rattle.turn_lock.proofs.Sums.{sum_set, sum_two, sum_alone}
use Rattle.turn_lock.proofs.Keeping.{each_then, St, Homes, Rule, first, start, Known, Place, place_stays}

module _ {T I : Type 0} (history : T → List I) (origin : T → List ℕ) (key : Opening T) where
  -- the value stays where it is, where the new view at the end does not have it
  place_snoc : (past : List I) (homes : Homes history origin key) (views : List (View I)) (w : View I) → ¬ IsOut w.stage → Place history origin key past homes views → Place history origin key past homes (views ++ w ∷ [])
  place_snoc past homes views w inside = ⊎_elim
      (λ (h : IsAtHome history origin (first history origin key) past homes views). inl record {
        value = h.value;
        home = h.home;
        has_history = h.has_history;
        has_origin = h.has_origin;
        with_none = λ j d there. ⊎_elim (h.with_none j d) (λ (t : w ≡ d). subst (λ (z : View I). ¬ IsOut z.stage) t inside) (at_snoc views w d j there);
      })
      (λ (a : IsAway homes views). inr record {
        home = a.home;
        seat = a.seat;
        view = a.view;
        there = at_longer views (w ∷ []) a.seat a.view a.there;
        out = a.out;
      })

  -- 1 split
  pub split_keeps : (id : ℕ) (v : View I) (portion : ℕ) → v.stage ≡ Between → 0 < portion → portion < v.share → Splits (Rule history origin key) id v (remaining portion v) (given portion v)
  split_keeps id v portion is some_given some_left s r at =
      let w : View I = remaining portion v in let new : View I = given portion v in let views : List (View I) = set s.views id w in
      let known = r.known id v at in let none_yet : tickets v ≡ 0 = ap tickets_at is in
      record {
        past = r.past;
        served = r.served;
        next = r.next;
        words = r.words;
        queue = (let t = sum_set tickets s.views id v w at in let u = sum_by_push tickets views new in let q = r.queue in omega arith);
        few = r.few;
        shares = (let t = sum_set (λ (z : View I). z.share) s.views id v w at in let u = sum_by_push (λ (z : View I). z.share) views new in let q = r.shares in omega arith);
        grown = (let t = sum_set (λ (z : View I). z.made) s.views id v w at in let u = sum_by_push (λ (z : View I). z.made) views new in let q = r.grown in omega arith);
        known = λ j d there. ⊎_elim
            (each_then (λ j d. Known history origin key r.past r.served r.next d) s.views id w
            record {
              seen_first = known.seen_first;
              stands = known.stands;
              alone = omega arith;
              began = λ _. known.began (omega arith);
              empty = λ none_left. absurd (omega arith);
            }
            (λ j d other there. r.known j d there) j d)
            (λ (t : new ≡ d). subst (Known history origin key r.past r.served r.next) t record {
              seen_first = known.seen_first;
              stands = tt;
              alone = omega arith;
              began = λ _. known.began (omega arith);
              empty = λ none_left. absurd (omega arith);
            })
            (at_snoc views new d j there);
        apart = λ one other ticket a b at_one at_other has also.
            let without : (z : View I) → new ≡ z → ¬ HasTicket ticket z.stage = λ z t h. subst (λ (z : View I). HasTicket ticket z.stage) (sym t) h in
            let still : (j : ℕ) (z : View I) → get_elem? views j ≡ some z → HasTicket ticket z.stage → get_elem? s.views j ≡ some z = λ j z there h. ⊎_elim
            (λ (t : (j ≡ id) × (w ≡ z)). absurd (subst (HasTicket ticket) is (subst (λ (y : View I). HasTicket ticket y.stage) (sym t.1) h)))
            (λ (t : (j ≢ id) × (get_elem? s.views j ≡ some z)). t.1)
            (at_set s.views id j w z there) in
            ⊎_elim
            (λ (t : get_elem? views one ≡ some a). ⊎_elim
            (λ (u : get_elem? views other ≡ some b). r.apart one other ticket a b (still one a t has) (still other b u also) has also)
            (λ (u : new ≡ b). absurd (without b u also))
            (at_snoc views new b other at_other))
            (λ (t : new ≡ a). absurd (without a t has))
            (at_snoc views new a one at_one);
        place = place_snoc r.past s.homes views new (λ o. o) (place_stays history origin key s r id v w at (λ o. subst IsOut is o) (λ o. subst IsOut is o));
      }

  -- 2 join
  pub join_keeps : (id : ℕ) (v : View I) (other : ℕ) (e : View I) → v.stage ≡ Between → e.stage ≡ Between → 0 < v.share → Joins (Rule history origin key) id v other e (merged v e) spent
  join_keeps id v other e is is' some_share s r at apart there =
      let w : View I = merged v e in let mid : List (View I) = set s.views id w in
      let was : get_elem? s.views other ≡ some e = sym (set_else s.views id other w apart) ∙ there in
      let mine = r.known id v at in let theirs = r.known other e was in
      let none_yet : tickets v ≡ 0 = ap tickets_at is in let nor_they : tickets e ≡ 0 = ap tickets_at is' in
      let alike : (K : ℕ → View I → Type 0) → K id w → K other spent → ((j : ℕ) (d : View I) → j ≢ id → get_elem? s.views j ≡ some d → K j d) → (j : ℕ) (d : View I) → get_elem? (set mid other spent) j ≡ some d → K j d
      = λ K a b c. each_then K mid other spent b (λ j d _ h. each_then K s.views id w a c j d h) in
      record {
        past = r.past;
        served = r.served;
        next = r.next;
        words = r.words;
        queue = (let t = sum_set tickets s.views id v w at in let u = sum_set tickets mid other e spent there in let q = r.queue in omega arith);
        few = r.few;
        shares = (let t = sum_set (λ (z : View I). z.share) s.views id v w at in let u = sum_set (λ (z : View I). z.share) mid other e spent there in let q = r.shares in omega arith);
        grown = (let t = sum_set (λ (z : View I). z.made) s.views id v w at in let u = sum_set (λ (z : View I). z.made) mid other e spent there in let q = r.grown in omega arith);
        known = alike (λ j d. Known history origin key r.past r.served r.next d)
            record {
              seen_first = mine.seen_first;
              stands = theirs.seen_first;
              alone = omega arith;
              began = λ _. mine.began some_share;
              empty = λ none_left. absurd (omega arith);
            }
            record {
              seen_first = (r.past, refl);
              stands = tt;
              alone = omega arith;
              began = λ a. absurd (omega arith);
              empty = λ _. refl;
            }
            (λ j d _ h. r.known j d h);
        apart = λ one two ticket a b at_one at_two has also.
            let still : (j : ℕ) (d : View I) → get_elem? (set mid other spent) j ≡ some d → HasTicket ticket d.stage → get_elem? s.views j ≡ some d
            = alike (λ j d. HasTicket ticket d.stage → get_elem? s.views j ≡ some d) (λ h. absurd h) (λ h. absurd h) (λ j d _ h _. h) in
            r.apart one two ticket a b (still one a at_one has) (still two b at_two also) has also;
        place = ⊎_elim
            (λ (h : IsAtHome history origin (first history origin key) r.past s.homes s.views). inl record {
              value = h.value;
              home = h.home;
              has_history = h.has_history;
              has_origin = h.has_origin;
              with_none = alike (λ j (d : View I). ¬ IsOut d.stage) (λ o. o) (λ o. o) (λ j d _ h'. h.with_none j d h');
            })
            (λ (a : IsAway s.homes s.views).
            let out_of : (k : ℕ) (z : View I) → get_elem? s.views k ≡ some z → z.stage ≡ Between → ¬ (a.seat ≡ k) = λ k z h b same.
            subst IsOut b (subst (λ (y : View I). IsOut y.stage) (some-injective a.view z (sym a.there ∙ (ap (get_elem? s.views) same ∙ h))) a.out) in
            inr record {
              home = a.home;
              seat = a.seat;
              view = a.view;
              there = set_else mid other a.seat spent (out_of other e was is') ∙ (set_else s.views id a.seat w (out_of id v at is) ∙ a.there);
              out = a.out;
            })
            r.place;
      }

  -- close: who stands for all callers knows how much was made, and the value is at home
  pub closed_value : (id : ℕ) (v : View I) (words : List ℕ) (homes : List (Option T)) → Final (Seen (Rule history origin key) id v) words homes → v.stage ≡ Between → 0 < v.share → v.share ≡ key.callers
      → (value : T) × (get_elem? homes 0 ≡ some (Some value)) × IsPrefix v.seen (history value) × (origin value ≡ v.origin) × (length (history value) ≡ v.start + v.made)
  closed_value id v words homes last is some_share all =
      let s : St history origin key = last.0 in let r = last.1.0 in let at : get_elem? s.views id ≡ some v = last.1.1 in
      let known = r.known id v at in let began = known.began some_share in
      let spent_else : (j : ℕ) (d : View I) → j ≢ id → get_elem? s.views j ≡ some d → d ≡ spent = λ j d other there.
      (r.known j d there).empty (let t = sum_two (λ (z : View I). z.share) s.views id j v d other at there in let q = r.shares in omega arith) in
      let made : sum_by (λ (z : View I). z.made) s.views ≡ v.made = sum_alone (λ (z : View I). z.made) s.views id v at (λ j d other there. ap (λ (z : View I). z.made) (spent_else j d other there)) in
      let home : IsAtHome history origin (first history origin key) r.past s.homes s.views = ⊎_elim
      (λ (h : IsAtHome history origin (first history origin key) r.past s.homes s.views). h)
      (λ (a : IsAway s.homes s.views). absurd (dite (ℕ_discrete a.seat id)
      (λ (same : a.seat ≡ id). subst IsOut is (subst (λ (y : View I). IsOut y.stage) (some-injective a.view v (sym a.there ∙ (ap (get_elem? s.views) same ∙ at))) a.out))
      (λ (other : a.seat ≢ id). subst (λ (y : View I). IsOut y.stage) (spent_else a.seat a.view other a.there) a.out)))
      r.place in (
        home.value,
        last.4 0 (Some home.value) (ap (λ (h : Homes history origin key). get_elem? h 0) home.home),
        subst (IsPrefix v.seen) (sym home.has_history) known.seen_first,
        home.has_origin ∙ sym began.0,
        (let g = r.grown in let e : length (history home.value) ≡ length r.past = ap length home.has_history in let b : v.start ≡ start history origin key = began.1 in omega arith),
      )
