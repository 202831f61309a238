-- What a step of one pass owes to keep the rule of the turns.
use Rattle.std.proofs.Common.{◌≡◌, ◌≢◌, ◌⊎◌, ℕ, zero, suc, ◌+◌, ◌%◌, ◌^◌, ◌<◌, ◌≤◌, List, [], ◌∷◌, length, set, refl, sym, ap, ◌∙◌, subst, ⊎_elim, inl, inr, arith, Option}
use Rattle.std.specs.List.{sum_by}
use mathlib.Core.List.{IsPrefix}
use mathlib.Core.Logic.{dite}
use mathlib.Core.Option.{none, some, some-injective, some-ne-none}
use mathlib.Core.Option as maybe
use native.Mathlib.Decide.{ℕ_discrete}
use lib.ListN.{get_elem?}
use Rattle.atomic_table.specs.Table.{State}
use Rattle.atomic_table.proofs.Lists.{at_set, set_else}
use Rattle.turn_lock.specs.declared.view.View.{View}
use Rattle.turn_lock.specs.declared.view.Opening.{Opening}
use Rattle.turn_lock.specs.declared.view.Stage.{Stage}
use Rattle.turn_lock.specs.declared.view.Stage.TheVariants.{Between, Joined, Waiting, Serving, Holding}
use Rattle.turn_lock.specs.Ladder.{HasTicket, tickets, IsOut, Stands, Knows, IsAtHome, IsAway, IsKept, longer}
use Rattle.turn_lock.proofs.Sums.{sum_set, sum_one, sum_less}
use Rattle.turn_lock.proofs.Prefixes.{prefix_on}

-- what stands at a place is what was put there
pub set_there : {X : Type 0} (xs : List X) (i : ℕ) (x y : X) → get_elem? xs i ≡ some x → get_elem? (set xs i y) i ≡ some y
set_there [] i x y e = absurd (some-ne-none x (sym e))
set_there (a ∷ xs) zero x y e = refl
set_there (a ∷ xs) (suc i) x y e = set_there xs i x y e

-- what holds of each and of the new one at a place holds of each then
pub each_then : {X : Type 0} (K : ℕ → X → Type 0) (xs : List X) (me : ℕ) (y : X) → K me y → ((j : ℕ) (x : X) → j ≢ me → get_elem? xs j ≡ some x → K j x)
    → (j : ℕ) (x : X) → get_elem? (set xs me y) j ≡ some x → K j x
each_then {X} K xs me y mine others j x e = ⊎_elim
    (λ (t : (j ≡ me) × (y ≡ x)). subst (λ (z : ℕ × X). K z.0 z.1) (λ i. (sym t.0 i, t.1 i)) mine)
    (λ (t : (j ≢ me) × (get_elem? xs j ≡ some x)). others j x t.0 t.1)
    (at_set xs me j y x e)

module _ {I : Type 0} where
  -- a ticket that was drawn and is not served yet is one of those in the queue
  pub in_range : (past : List I) (served next ticket : ℕ) (stage : Stage I) → HasTicket ticket stage → Stands past served next stage → (served ≤ ticket) × (ticket < next)
  in_range past served next ticket Between h k = absurd h
  in_range past served next ticket (Joined told) h k = absurd h
  in_range past served next ticket (Waiting mine) h k = let a : served ≤ mine = k.0 in let b : mine < next = k.1 in let e : mine ≡ ticket = h in (omega arith, omega arith)
  in_range past served next ticket (Serving mine known) h k = let a : mine ≡ served = k.0 in let b : served < next = k.1 in let e : mine ≡ ticket = h in (omega arith, omega arith)
  in_range past served next ticket (Holding mine known) h k = let a : mine ≡ served = k.0 in let b : served < next = k.1 in let e : mine ≡ ticket = h in (omega arith, omega arith)

  -- with whom the value is out has the ticket that is served
  pub out_has : (past : List I) (served next : ℕ) (stage : Stage I) → IsOut stage → Stands past served next stage → HasTicket served stage
  out_has past served next Between o k = absurd o
  out_has past served next (Joined told) o k = absurd o
  out_has past served next (Waiting mine) o k = absurd o
  out_has past served next (Serving mine known) o k = absurd o
  out_has past served next (Holding mine known) o k = k.0

  -- more tickets leave each where it stands
  pub stands_on : (past : List I) (served next more : ℕ) → next ≤ more → (stage : Stage I) → Stands past served next stage → Stands past served more stage
  stands_on past served next more le Between k = k
  stands_on past served next more le (Joined told) k = k
  stands_on past served next more le (Waiting mine) k = let b : mine < next = k.1 in (k.0, omega arith)
  stands_on past served next more le (Serving mine known) k = let b : served < next = k.1 in (k.0, omega arith, k.2)
  stands_on past served next more le (Holding mine known) k = let b : served < next = k.1 in (k.0, omega arith, k.2)

  -- who is not served stands as well beside a longer history
  pub stands_longer : (past longer : List I) (served next : ℕ) → IsPrefix past longer → (stage : Stage I) → ¬ HasTicket served stage → Stands past served next stage → Stands longer served next stage
  stands_longer past longer served next p Between out k = k
  stands_longer past longer served next p (Joined told) out k = prefix_on told past longer k p
  stands_longer past longer served next p (Waiting mine) out k = k
  stands_longer past longer served next p (Serving mine known) out k = absurd (out k.0)
  stands_longer past longer served next p (Holding mine known) out k = absurd (out k.0)

  -- and so once the next ticket is served
  pub stands_after : (past : List I) (served next : ℕ) (stage : Stage I) → ¬ HasTicket served stage → Stands past served next stage → Stands past (served + 1) next stage
  stands_after past served next Between out k = k
  stands_after past served next (Joined told) out k = k
  stands_after past served next (Waiting mine) out k =
      let a : served ≤ mine = k.0 in (dite (ℕ_discrete mine served) (λ (e : mine ≡ served). absurd (out e)) (λ (n : mine ≢ served). omega arith), k.1)
  stands_after past served next (Serving mine known) out k = absurd (out k.0)
  stands_after past served next (Holding mine known) out k = absurd (out k.0)

module _ {T I : Type 0} (history : T → List I) (origin : T → List ℕ) (key : Opening T) where
  abbrev pub St : Type 0
  St = State (Option T) (View I)

  abbrev pub Homes : Type 0
  Homes = List (maybe.Option (Option T))

  abbrev pub Rule : St → Type 0
  Rule = IsKept history origin key

  abbrev pub first : T
  first = key.value.value

  abbrev pub start : ℕ
  start = length (history first)

  abbrev pub Known : List I → ℕ → ℕ → View I → Type 0
  Known past served next = Knows past served next (origin first) start

  abbrev pub Place : List I → Homes → List (View I) → Type 0
  Place past homes views = IsAtHome history origin first past homes views ⊎ IsAway homes views

  -- a pass whose ticket is the one that is served is that pass
  pub the_served : (s : St) (r : Rule s) (id : ℕ) (v : View I) → get_elem? s.views id ≡ some v → HasTicket r.served v.stage
      → (j : ℕ) (d : View I) → j ≢ id → get_elem? s.views j ≡ some d → ¬ HasTicket r.served d.stage
  the_served s r id v at has j d other there also = other (r.apart j id r.served d v there at also has)

  -- a step of one pass, by what it owes of its own view, of the others and of the value's home
  pub changed : (s : St) (r : Rule s) (id : ℕ) (v w : View I) → get_elem? s.views id ≡ some v
      → (words' : List ℕ) (homes' : Homes) (past' : List I) (served' next' : ℕ)
      → words' ≡ next' % 2 ^ 64 ∷ served' % 2 ^ 64 ∷ length past' ∷ []
      → w.share ≡ v.share
      → (served' + tickets w) + r.next ≡ (next' + r.served) + tickets v
      → w.made + length r.past ≡ v.made + length past'
      → Known past' served' next' w
      → ((j : ℕ) (d : View I) → j ≢ id → get_elem? s.views j ≡ some d → Known r.past r.served r.next d → Known past' served' next' d)
      → ((j ticket : ℕ) (d : View I) → j ≢ id → get_elem? s.views j ≡ some d → HasTicket ticket w.stage → ¬ HasTicket ticket d.stage)
      → Place past' homes' (set s.views id w)
      → Rule record { words = words'; homes = homes'; views = set s.views id w }
  changed s r id v w at words' homes' past' served' next' words share queue made mine others alone place = record {
    past = past';
    served = served';
    next = next';
    words = words;
    queue = (let t = sum_set tickets s.views id v w at in let q = r.queue in omega arith);
    few = r.few;
    shares = (let t = sum_set (λ (z : View I). z.share) s.views id v w at in let q = r.shares in omega arith);
    grown = (let t = sum_set (λ (z : View I). z.made) s.views id v w at in let q = r.grown in omega arith);
    known = each_then (λ j d. Known past' served' next' d) s.views id w mine (λ j d other there. others j d other there (r.known j d there));
    apart = λ one other ticket a b at_one at_other has also. ⊎_elim
        (λ (t : (one ≡ id) × (w ≡ a)). ⊎_elim
        (λ (u : (other ≡ id) × (w ≡ b)). t.0 ∙ sym u.0)
        (λ (u : (other ≢ id) × (get_elem? s.views other ≡ some b)). absurd (alone other ticket b u.0 u.1 (subst (λ (z : View I). HasTicket ticket z.stage) (sym t.1) has) also))
        (at_set s.views id other w b at_other))
        (λ (t : (one ≢ id) × (get_elem? s.views one ≡ some a)). ⊎_elim
        (λ (u : (other ≡ id) × (w ≡ b)). absurd (alone one ticket a t.0 t.1 (subst (λ (z : View I). HasTicket ticket z.stage) (sym u.1) also) has))
        (λ (u : (other ≢ id) × (get_elem? s.views other ≡ some b)). r.apart one other ticket a b t.1 u.1 has also)
        (at_set s.views id other w b at_other))
        (at_set s.views id one w a at_one);
    place = place;
  }

  -- the value stays where it is, where the pass has it neither before nor after
  pub place_stays : (s : St) (r : Rule s) (id : ℕ) (v w : View I) → get_elem? s.views id ≡ some v → ¬ IsOut v.stage → ¬ IsOut w.stage → Place r.past s.homes (set s.views id w)
  place_stays s r id v w at before after = ⊎_elim
      (λ (h : IsAtHome history origin first r.past s.homes s.views). inl record {
        value = h.value;
        home = h.home;
        has_history = h.has_history;
        has_origin = h.has_origin;
        with_none = each_then (λ j (d : View I). ¬ IsOut d.stage) s.views id w after (λ j d other there. h.with_none j d there);
      })
      (λ (a : IsAway s.homes s.views). inr record {
        home = a.home;
        seat = a.seat;
        view = a.view;
        there = set_else s.views id a.seat w (λ same. before (subst (λ (z : View I). IsOut z.stage) (some-injective a.view v (sym a.there ∙ (ap (get_elem? s.views) same ∙ at))) a.out)) ∙ a.there;
        out = a.out;
      })
      r.place

  -- where the pass has the ticket that is served, the value is at home, unless it is out with the pass
  pub at_home : (s : St) (r : Rule s) (id : ℕ) (v : View I) → get_elem? s.views id ≡ some v → HasTicket r.served v.stage → ¬ IsOut v.stage → IsAtHome history origin first r.past s.homes s.views
  at_home s r id v at has inside = ⊎_elim
      (λ (h : IsAtHome history origin first r.past s.homes s.views). h)
      (λ (a : IsAway s.homes s.views).
      let theirs = out_has r.past r.served r.next a.view.stage a.out (r.known a.seat a.view a.there).stands in
      let same : a.seat ≡ id = r.apart a.seat id r.served a.view v a.there at theirs has in
      absurd (inside (subst (λ (z : View I). IsOut z.stage) (some-injective a.view v (sym a.there ∙ (ap (get_elem? s.views) same ∙ at))) a.out)))
      r.place

  -- where the value is out with the pass, its home is empty
  pub home_empty : (s : St) (r : Rule s) (id : ℕ) (v : View I) → get_elem? s.views id ≡ some v → IsOut v.stage → s.homes ≡ none ∷ []
  home_empty s r id v at out = ⊎_elim
      (λ (h : IsAtHome history origin first r.past s.homes s.views). absurd (h.with_none id v at out))
      (λ (a : IsAway s.homes s.views). a.home)
      r.place

  -- the queue is no longer than there are callers
  pub short_queue : (s : St) (r : Rule s) → r.next ≤ r.served + 64
  short_queue s r =
      let less : sum_by tickets s.views ≤ sum_by (λ (v : View I). v.share) s.views = sum_less tickets (λ (v : View I). v.share) s.views (λ j v there. (r.known j v there).alone) in
      let q = r.queue in let f = r.few in let e = r.shares in omega arith

  -- no share is more than all callers
  pub small_share : (s : St) (r : Rule s) (id : ℕ) (v : View I) → get_elem? s.views id ≡ some v → v.share ≤ 64
  small_share s r id v at =
      let one = sum_one (λ (z : View I). z.share) s.views id v at in let f = r.few in let e = r.shares in omega arith
