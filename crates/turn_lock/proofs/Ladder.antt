-- Each kind of step in a turn keeps the rule.
use Rattle.std.proofs.Common.{◌≡◌, ◌≢◌, ℕ, ◌+◌, ◌%◌, ◌^◌, ◌<◌, ◌≤◌, List, [], ◌∷◌, length, get_or, set, refl, sym, ap, ◌∙◌, subst, inl, inr, arith, Option, Some, None}
use Rattle.std.specs.Option.{IsSome}
use mathlib.Core.List.{IsPrefix}
use mathlib.Core.Logic.{dite}
use mathlib.Core.Option.{none, some}
use native.Mathlib.Decide.{ℕ_discrete}
use lib.ListN.{get_elem?}
use lib.Seq.{set-get_or}
use Rattle.atomic_table.specs.Table.{step, keeps, takes, gives, put_back, rest, Allows}
use Rattle.atomic_table.proofs.Lists.{one_turn}
use Rattle.turn_lock.specs.declared.view.View.{View}
use Rattle.turn_lock.specs.declared.view.Opening.{Opening}
use Rattle.turn_lock.specs.declared.view.Stage.{Stage}
use Rattle.turn_lock.specs.declared.view.Stage.TheVariants.{Between, Joined, Waiting, Serving, Holding}
use Rattle.turn_lock.specs.Ladder.{HasTicket, tickets_at, tickets, IsOut, Stands, staged, longer, compared, extended, shown, Sat, compares, draws, reads, takes_out, notes_length, puts_home, passes_on}
use Rattle.turn_lock.proofs.Prefixes.{prefix_self, prefix_on, prefix_length, longer_begins}
use Rattle.turn_lock.proofs.Keeping.{set_there, each_then, in_range, out_has, stands_on, stands_longer, stands_after, St, Homes, Rule, the_served, changed, place_stays, at_home, home_empty, short_queue, small_share}

next_word : (n : ℕ) → (n % 2 ^ 64 + 1) % 2 ^ 64 ≡ (n + 1) % 2 ^ 64
next_word n = omega arith

module _ {I : Type 0} where
  abbrev pub ticket_or : ℕ → Stage I → ℕ
  ticket_or d Between = d
  ticket_or d (Joined told) = d
  ticket_or d (Waiting mine) = mine
  ticket_or d (Serving mine past) = mine
  ticket_or d (Holding mine past) = mine

  abbrev pub past_or : List I → Stage I → List I
  past_or d (Joined told) = told
  past_or d (Serving mine past) = past
  past_or d (Holding mine past) = past
  past_or d _ = d

abbrev pub some_or : {T : Type 0} → T → Option T → T
some_or d (Some x) = x
some_or d None = d

-- what is there is some value
pub is_there : {T : Type 0} (x : T) (o : Option T) → Some x ≡ o → IsSome o
is_there x o e = subst IsSome e refl

-- what the slot that was taken last holds
abbrev pub slot_or : {T : Type 0} → Option T → List (ℕ × Option T) → Option T
slot_or d [] = d
slot_or d (x ∷ xs) = x.1

-- the value of the slot that was taken last
abbrev pub in_hand : {T : Type 0} → T → List (ℕ × Option T) → T
in_hand d [] = d
in_hand d (x ∷ xs) = some_or d x.1

module _ {T I : Type 0} (history : T → List I) (origin : T → List ℕ) (key : Opening T) where
  -- the words after a step that only reads
  words_stay : (s : St history origin key) (r : Rule history origin key s) (i : ℕ) → set s.words i (get_or s.words i 0) ≡ r.next % 2 ^ 64 ∷ r.served % 2 ^ 64 ∷ length r.past ∷ []
  words_stay s r i = set-get_or s.words i 0 ∙ r.words

  -- 3 draw
  pub draw_keeps : (slots id : ℕ) (m : Sat T I) → m.0.stage ≡ Between → 0 < m.0.share
      → Allows (Rule history origin key) slots id m 0 (λ n. (n + 1) % 2 ^ 64) (draws (step slots 0 1 0 none) m)
  draw_keeps slots id m is some_share s r _ at _ =
      let v : View I = m.0 in let w : View I = staged v (Waiting r.next) in
      let found : get_or s.words 0 0 ≡ r.next % 2 ^ 64 = ap (λ ws. get_or ws 0 0) r.words in
      let known = r.known id v at in let none_yet : tickets v ≡ 0 = ap tickets_at is in
      let low : r.served ≤ r.next = (let q = r.queue in omega arith) in (
        w,
        keeps,
        tt,
        changed history origin key s r id v w at (set s.words 0 ((get_or s.words 0 0 + 1) % 2 ^ 64)) s.homes r.past r.served (r.next + 1)
            (ap (λ ws. set ws 0 ((get_or s.words 0 0 + 1) % 2 ^ 64)) r.words
            ∙ ap (λ (n : ℕ). n ∷ r.served % 2 ^ 64 ∷ length r.past ∷ []) (ap (λ (n : ℕ). (n + 1) % 2 ^ 64) found ∙ next_word r.next))
            refl (omega arith) refl
            record {
              seen_first = known.seen_first;
              stands = (low, omega arith);
              alone = omega arith;
              began = known.began;
              empty = λ none_left. absurd (omega arith);
            }
            (λ j d other there k. record {
              seen_first = k.seen_first;
              stands = stands_on r.past r.served r.next (r.next + 1) (omega arith) d.stage k.stands;
              alone = k.alone;
              began = k.began;
              empty = k.empty;
            })
            (λ j ticket d other there mine theirs. let e : r.next ≡ ticket = mine in let k = in_range r.past r.served r.next ticket d.stage theirs (r.known j d there).stands in let b : ticket < r.next = k.1 in omega arith)
            (place_stays history origin key s r id v w at (λ o. subst IsOut is o) (λ o. o)),
        λ _. (r.next, found, refl),
      )

  -- 4 read
  pub read_keeps : (slots id : ℕ) (m : Sat T I) (mine : ℕ) → m.0.stage ≡ Waiting mine → 0 < m.0.share
      → Allows (Rule history origin key) slots id m 1 (λ n. n) (reads (step slots 1 0 0 none) m)
  read_keeps slots id m mine is some_share s r _ at _ =
      let v : View I = m.0 in
      let found : get_or s.words 1 0 ≡ r.served % 2 ^ 64 = ap (λ ws. get_or ws 1 0) r.words in
      let known = r.known id v at in
      let waits : (r.served ≤ mine) × (mine < r.next) = subst (Stands r.past r.served r.next) is known.stands in
      let low : r.served ≤ mine = waits.0 in let high : mine < r.next = waits.1 in let short = short_queue history origin key s r in
      let one : tickets v ≡ 1 = ap tickets_at is in
      dite (ℕ_discrete (get_or s.words 1 0) (mine % 2 ^ 64))
      (λ (hit : get_or s.words 1 0 ≡ mine % 2 ^ 64).
      let now : r.served ≡ mine = one_turn r.served mine (2 ^ 64) low (omega arith) (sym found ∙ hit) in
      let w : View I = staged v (Serving mine r.past) in
      let has : HasTicket r.served v.stage = subst (HasTicket r.served) (sym is) (sym now) in (
        w,
        keeps,
        tt,
        changed history origin key s r id v w at (set s.words 1 (get_or s.words 1 0)) s.homes r.past r.served r.next (words_stay s r 1) refl (omega arith) refl
            record {
              seen_first = known.seen_first;
              stands = (sym now, omega arith, refl);
              alone = (let k = known.alone in omega arith);
              began = known.began;
              empty = λ none_left. absurd (omega arith);
            }
            (λ j d other there k. k)
            (λ j ticket d other there ours. subst (λ (t : ℕ). ¬ HasTicket t d.stage) (now ∙ ours) (the_served history origin key s r id v at has j d other there))
            (place_stays history origin key s r id v w at (λ o. subst IsOut is o) (λ o. o)),
        λ ticket is'. let same : mine ≡ ticket = ap (ticket_or 0) (sym is ∙ is') in subst
            (λ (t : ℕ). (get_or s.words 1 0 ≡ t % 2 ^ 64 → (past : List I) × IsPrefix v.seen past × (◌≡◌ {A = Sat T I} (w, m.1) (staged v (Serving t past), m.1)))
            × (get_or s.words 1 0 ≢ t % 2 ^ 64 → ◌≡◌ {A = Sat T I} (w, m.1) m))
            same
            ((λ _. (r.past, known.seen_first, refl)), λ miss. absurd (miss hit)),
      ))
      (λ (miss : get_or s.words 1 0 ≢ mine % 2 ^ 64). (
        v,
        keeps,
        tt,
        changed history origin key s r id v v at (set s.words 1 (get_or s.words 1 0)) s.homes r.past r.served r.next (words_stay s r 1) refl (omega arith) refl
            known
            (λ j d other there k. k)
            (λ j ticket d other there ours theirs. other (r.apart j id ticket d v there at theirs ours))
            (place_stays history origin key s r id v v at (λ o. subst IsOut is o) (λ o. subst IsOut is o)),
        λ ticket is'. let same : mine ≡ ticket = ap (ticket_or 0) (sym is ∙ is') in
            ((λ hit. absurd (miss (hit ∙ ap (λ (t : ℕ). t % 2 ^ 64) (sym same)))), λ _. refl),
      ))

  -- 5 take out
  pub take_out_keeps : (slots id : ℕ) (m : Sat T I) (mine : ℕ) (past : List I) → m.0.stage ≡ Serving mine past → 0 < m.0.share
      → Allows (Rule history origin key) slots id m 1 (λ n. n) (takes_out history origin (step slots 1 0 0 none) m)
  take_out_keeps slots id m mine past is some_share s r _ at _ =
      let v : View I = m.0 in let w : View I = staged v (Holding mine past) in
      let known = r.known id v at in
      let serves : (mine ≡ r.served) × (r.served < r.next) × (past ≡ r.past) = subst (Stands r.past r.served r.next) is known.stands in
      let one : tickets v ≡ 1 = ap tickets_at is in
      let has : HasTicket r.served v.stage = subst (HasTicket r.served) (sym is) serves.0 in
      let home = at_home history origin key s r id v at has (λ o. subst IsOut is o) in (
        w,
        takes 0 (Some home.value),
        ap (λ (h : Homes history origin key). get_elem? h 0) home.home,
        changed history origin key s r id v w at (set s.words 1 (get_or s.words 1 0)) (set s.homes 0 none) r.past r.served r.next (words_stay s r 1) refl (omega arith) refl
            record {
              seen_first = known.seen_first;
              stands = serves;
              alone = (let k = known.alone in omega arith);
              began = known.began;
              empty = λ none_left. absurd (omega arith);
            }
            (λ j d other there k. k)
            (λ j ticket d other there ours. subst (λ (t : ℕ). ¬ HasTicket t d.stage) (sym serves.0 ∙ ours) (the_served history origin key s r id v at has j d other there))
            (inr record {
              home = ap (λ (h : Homes history origin key). set h 0 none) home.home;
              seat = id;
              view = w;
              there = set_there s.views id v w at;
              out = tt;
            }),
        λ ticket past' is'. let same : mine ≡ ticket = ap (ticket_or 0) (sym is ∙ is') in let like : past ≡ past' = ap (past_or []) (sym is ∙ is') in
            (home.value, home.has_history ∙ (sym serves.2 ∙ like), home.has_origin ∙ sym (known.began some_share).0, (λ i. (staged v (Holding (same i) (like i)), (0, Some home.value) ∷ m.1))),
      )

  -- 6 length
  pub note_length_keeps : (slots id : ℕ) (m : Sat T I) (mine : ℕ) (past : List I) (value : T) (new : ℕ) → m.0.stage ≡ Holding mine past → 0 < m.0.share
      → m.1 ≡ (0, Some value) ∷ [] → new ≡ length (history value) → IsPrefix past (history value)
      → Allows (Rule history origin key) slots id m 2 (λ _. new) (λ _. notes_length history (step slots 2 new 0 none) m new)
  note_length_keeps slots id m mine past value new is some_share hands count grows s r _ at _ =
      let v : View I = m.0 in let after : List I = history value in let w : View I = extended v mine past after in
      let known = r.known id v at in
      let serves : (mine ≡ r.served) × (r.served < r.next) × (past ≡ r.past) = subst (Stands r.past r.served r.next) is known.stands in
      let one : tickets v ≡ 1 = ap tickets_at is in
      let has : HasTicket r.served v.stage = subst (HasTicket r.served) (sym is) serves.0 in
      let grows' : IsPrefix r.past after = subst (λ (l : List I). IsPrefix l after) serves.2 grows in
      let longer_by : length past ≤ length after = prefix_length past after grows in let like : length past ≡ length r.past = ap length serves.2 in (
        w,
        keeps,
        tt,
        changed history origin key s r id v w at (set s.words 2 new) s.homes after r.served r.next
            (ap (λ ws. set ws 2 new) r.words ∙ ap (λ (n : ℕ). r.next % 2 ^ 64 ∷ r.served % 2 ^ 64 ∷ n ∷ []) count)
            refl (omega arith) (omega arith)
            record {
              seen_first = prefix_on v.seen r.past after known.seen_first grows';
              stands = (serves.0, serves.1, refl);
              alone = (let k = known.alone in omega arith);
              began = known.began;
              empty = λ none_left. absurd (omega arith);
            }
            (λ j d other there k. record {
              seen_first = prefix_on d.seen r.past after k.seen_first grows';
              stands = stands_longer r.past after r.served r.next grows' d.stage (the_served history origin key s r id v at has j d other there) k.stands;
              alone = k.alone;
              began = k.began;
              empty = k.empty;
            })
            (λ j ticket d other there ours. subst (λ (t : ℕ). ¬ HasTicket t d.stage) (sym serves.0 ∙ ours) (the_served history origin key s r id v at has j d other there))
            (inr record {
              home = home_empty history origin key s r id v at (subst IsOut (sym is) tt);
              seat = id;
              view = w;
              there = set_there s.views id v w at;
              out = tt;
            }),
        λ ticket past' value' is' hands'. let same : mine ≡ ticket = ap (ticket_or 0) (sym is ∙ is') in let like' : past ≡ past' = ap (past_or []) (sym is ∙ is') in
            let it : value ≡ value' = ap (in_hand value) (sym hands ∙ hands') in (λ i. (extended v (same i) (like' i) (history (it i)), m.1)),
      )

  -- 7 put home
  pub put_home_keeps : (slots id : ℕ) (m : Sat T I) (mine : ℕ) (past : List I) (value : T) → m.0.stage ≡ Holding mine past → 0 < m.0.share
      → m.1 ≡ (0, Some value) ∷ [] → history value ≡ past → origin value ≡ m.0.origin
      → Allows (Rule history origin key) slots id m 1 (λ n. n) (puts_home (step slots 1 0 0 none) m)
  put_home_keeps slots id m mine past value is some_share hands has_past has_origin s r _ at _ =
      let v : View I = m.0 in let w : View I = staged v (Serving mine past) in
      let known = r.known id v at in
      let serves : (mine ≡ r.served) × (r.served < r.next) × (past ≡ r.past) = subst (Stands r.past r.served r.next) is known.stands in
      let one : tickets v ≡ 1 = ap tickets_at is in
      let has : HasTicket r.served v.stage = subst (HasTicket r.served) (sym is) serves.0 in
      let empty = home_empty history origin key s r id v at (subst IsOut (sym is) tt) in (
        w,
        gives,
        tt,
        changed history origin key s r id v w at (set s.words 1 (get_or s.words 1 0)) (put_back s.homes m.1) r.past r.served r.next (words_stay s r 1) refl (omega arith) refl
            record {
              seen_first = known.seen_first;
              stands = serves;
              alone = (let k = known.alone in omega arith);
              began = known.began;
              empty = λ none_left. absurd (omega arith);
            }
            (λ j d other there k. k)
            (λ j ticket d other there ours. subst (λ (t : ℕ). ¬ HasTicket t d.stage) (sym serves.0 ∙ ours) (the_served history origin key s r id v at has j d other there))
            (inl record {
              value = value;
              home = ap (put_back s.homes) hands ∙ ap (λ (h : Homes history origin key). set h 0 (some (Some value))) empty;
              has_history = has_past ∙ serves.2;
              has_origin = has_origin ∙ (known.began some_share).0;
              with_none = each_then (λ j (d : View I). ¬ IsOut d.stage) s.views id w (λ o. o)
                  (λ j d other there o. the_served history origin key s r id v at has j d other there (out_has r.past r.served r.next d.stage o (r.known j d there).stands));
            }),
        λ ticket past' is'. let same : mine ≡ ticket = ap (ticket_or 0) (sym is ∙ is') in let like : past ≡ past' = ap (past_or []) (sym is ∙ is') in
            (λ i. (staged v (Serving (same i) (like i)), rest m.1)),
      )

  -- 8 pass on
  pub pass_on_keeps : (slots id : ℕ) (m : Sat T I) (mine : ℕ) (past : List I) → m.0.stage ≡ Serving mine past → 0 < m.0.share
      → Allows (Rule history origin key) slots id m 1 (λ n. (n + 1) % 2 ^ 64) (passes_on (step slots 1 1 0 none) m)
  pass_on_keeps slots id m mine past is some_share s r _ at _ =
      let v : View I = m.0 in let w : View I = shown v past in
      let found : get_or s.words 1 0 ≡ r.served % 2 ^ 64 = ap (λ ws. get_or ws 1 0) r.words in
      let known = r.known id v at in
      let serves : (mine ≡ r.served) × (r.served < r.next) × (past ≡ r.past) = subst (Stands r.past r.served r.next) is known.stands in
      let one : tickets v ≡ 1 = ap tickets_at is in
      let has : HasTicket r.served v.stage = subst (HasTicket r.served) (sym is) serves.0 in (
        w,
        keeps,
        tt,
        changed history origin key s r id v w at (set s.words 1 ((get_or s.words 1 0 + 1) % 2 ^ 64)) s.homes r.past (r.served + 1) r.next
            (ap (λ ws. set ws 1 ((get_or s.words 1 0 + 1) % 2 ^ 64)) r.words
            ∙ ap (λ (n : ℕ). r.next % 2 ^ 64 ∷ n ∷ length r.past ∷ []) (ap (λ (n : ℕ). (n + 1) % 2 ^ 64) found ∙ next_word r.served))
            refl (omega arith) refl
            record {
              seen_first = subst (λ (l : List I). IsPrefix past l) serves.2 (prefix_self past);
              stands = tt;
              alone = omega arith;
              began = known.began;
              empty = λ none_left. absurd (omega arith);
            }
            (λ j d other there k. record {
              seen_first = k.seen_first;
              stands = stands_after r.past r.served r.next d.stage (the_served history origin key s r id v at has j d other there) k.stands;
              alone = k.alone;
              began = k.began;
              empty = k.empty;
            })
            (λ j ticket d other there ours theirs. ours)
            (place_stays history origin key s r id v w at (λ o. subst IsOut is o) (λ o. o)),
        λ ticket past' is'. let like : past ≡ past' = ap (past_or []) (sym is ∙ is') in (λ i. (shown v (like i), m.1)),
      )

  -- 2 join, its end
  pub compare_keeps : (slots id : ℕ) (m : Sat T I) (told : List I) → m.0.stage ≡ Joined told → 0 < m.0.share
      → Allows (Rule history origin key) slots id m 0 (λ n. n) (compares (step slots 0 0 0 none) m)
  compare_keeps slots id m told is some_share s r _ at _ =
      let v : View I = m.0 in let w : View I = compared v told in
      let known = r.known id v at in
      let told_first : IsPrefix told r.past = subst (Stands r.past r.served r.next) is known.stands in
      let both = longer_begins v.seen told r.past known.seen_first told_first in
      let none_yet : tickets v ≡ 0 = ap tickets_at is in (
        w,
        keeps,
        tt,
        changed history origin key s r id v w at (set s.words 0 (get_or s.words 0 0)) s.homes r.past r.served r.next (words_stay s r 0) refl (omega arith) refl
            record {
              seen_first = both.0;
              stands = tt;
              alone = omega arith;
              began = known.began;
              empty = λ none_left. absurd (omega arith);
            }
            (λ j d other there k. k)
            (λ j ticket d other there ours theirs. ours)
            (place_stays history origin key s r id v w at (λ o. subst IsOut is o) (λ o. o)),
        λ told' is'. let like : told ≡ told' = ap (past_or []) (sym is ∙ is') in (
          (λ i. (compared v (like i), m.1)),
          small_share history origin key s r id v at,
          subst (λ (l : List I). IsPrefix v.seen (longer v.seen l)) like both.1,
          subst (λ (l : List I). IsPrefix l (longer v.seen l)) like both.2,
        ),
      )
