-- The rule of the turns, and the eight kinds of atomic step, each of which changes the view of one pass. Only a split makes a view, and only a join spends one.
-- Word 0 is the next ticket, word 1 the ticket that is served, word 2 the length of the history. Tickets are counted without end here: a word has them modulo 2 ^ 64.
use Rattle.std.specs.Prelude.{◌≡◌, ◌≢◌, ◌⊎◌, ℕ, ◌+◌, ◌-◌, ◌%◌, ◌^◌, ◌<◌, ◌≤◌, ltb, cond, List, [], ◌∷◌, length, Option, Some}
use Rattle.std.specs.List.{sum_by}
use mathlib.Core.List.{IsPrefix}
use mathlib.Core.Option.{none, some}
use mathlib.Core.Option as maybe
use lib.ListN.{get_elem?}
use Rattle.atomic_table.specs.Table.{State, Me, Step, rest}
use Rattle.turn_lock.specs.declared.view.TheConstants.{MOST_CALLERS}
use Rattle.turn_lock.specs.declared.view.View.{View}
use Rattle.turn_lock.specs.declared.view.Opening.{Opening}
use Rattle.turn_lock.specs.declared.view.Stage.{Stage}
use Rattle.turn_lock.specs.declared.view.Stage.TheVariants.{Between, Joined, Waiting, Serving, Holding}

module _ {I : Type 0} where
  -- the pass has drawn this ticket, and has not passed the turn on
  abbrev pub HasTicket : ℕ → Stage I → Type 0
  HasTicket ticket Between = ⊥
  HasTicket ticket (Joined told) = ⊥
  HasTicket ticket (Waiting mine) = mine ≡ ticket
  HasTicket ticket (Serving mine past) = mine ≡ ticket
  HasTicket ticket (Holding mine past) = mine ≡ ticket

  -- the number of tickets at this stage
  abbrev pub tickets_at : Stage I → ℕ
  tickets_at Between = 0
  tickets_at (Joined told) = 0
  tickets_at (Waiting mine) = 1
  tickets_at (Serving mine past) = 1
  tickets_at (Holding mine past) = 1

  abbrev pub tickets : View I → ℕ
  tickets v = tickets_at v.stage

  -- the pass has the turn
  abbrev pub HasTurn : Stage I → Type 0
  HasTurn (Serving mine past) = Unit {0}
  HasTurn (Holding mine past) = Unit {0}
  HasTurn _ = ⊥

  -- the value is out with a pass at this stage
  abbrev pub IsOut : Stage I → Type 0
  IsOut (Holding mine past) = Unit {0}
  IsOut _ = ⊥

  -- the view of a pass that was joined into another: it is empty
  abbrev pub spent : View I
  spent = record { stage = Between; seen = []; share = 0; made = 0; origin = []; start = 0 }

  -- a ticket was drawn and not served before; who is served knows the history
  abbrev pub Stands : List I → ℕ → ℕ → Stage I → Type 0
  Stands past served next Between = Unit {0}
  Stands past served next (Joined told) = IsPrefix told past
  Stands past served next (Waiting mine) = (served ≤ mine) × (mine < next)
  Stands past served next (Serving mine known) = (mine ≡ served) × (served < next) × (known ≡ past)
  Stands past served next (Holding mine known) = (mine ≡ served) × (served < next) × (known ≡ past)

  -- what each pass knows: it has seen a beginning of the history, and knows what the turns began with; without a share it is spent
  pub record Knows (past : List I) (served next : ℕ) (origin : List ℕ) (start : ℕ) (v : View I) : Type 0 where
    pub seen_first : IsPrefix v.seen past
    pub stands : Stands past served next v.stage
    pub alone : tickets v ≤ v.share
    pub began : 0 < v.share → (v.origin ≡ origin) × (v.start ≡ start)
    pub empty : v.share ≡ 0 → v ≡ spent

module _ {T I : Type 0} where
  -- the value is out with a pass
  pub record IsAway (homes : List (maybe.Option (Option T))) (views : List (View I)) : Type 0 where
    pub home : homes ≡ none ∷ []
    pub seat : ℕ
    pub view : View I
    pub there : get_elem? views seat ≡ some view
    pub out : IsOut view.stage

module _ {T I : Type 0} (history : T → List I) (origin : T → List ℕ) where
  -- the value is at home, with the history and the origin that it has to have, and out with no pass
  pub record IsAtHome (first : T) (past : List I) (homes : List (maybe.Option (Option T)))
      (views : List (View I)) : Type 0 where
    pub value : T
    pub home : homes ≡ some (Some value) ∷ []
    pub has_history : history value ≡ past
    pub has_origin : origin value ≡ origin first
    pub with_none : (seat : ℕ) (v : View I) → get_elem? views seat ≡ some v → ¬ IsOut v.stage

  -- What holds between any two steps. The tickets from the one that is served up to the next are those of the passes, one each; shares add up to the callers, and what was made to what the history has beyond its start
  pub record IsKept (opening : Opening T) (s : State (Option T) (View I)) : Type 0 where
    pub past : List I
    pub served : ℕ
    pub next : ℕ
    pub words : s.words ≡ next % 2 ^ 64 ∷ served % 2 ^ 64 ∷ length past ∷ []
    pub queue : served + sum_by tickets s.views ≡ next
    pub few : opening.callers ≤ MOST_CALLERS
    pub shares : sum_by (λ v. v.share) s.views ≡ opening.callers
    pub grown : length (history opening.value.value) + sum_by (λ v. v.made) s.views ≡ length past
    pub known : (seat : ℕ) (v : View I) → get_elem? s.views seat ≡ some v
        → Knows past served next (origin opening.value.value) (length (history opening.value.value)) v
    pub apart : (one other ticket : ℕ) (v w : View I) → get_elem? s.views one ≡ some v
        → get_elem? s.views other ≡ some w → HasTicket ticket v.stage → HasTicket ticket w.stage → one ≡ other
    pub place : IsAtHome opening.value.value past s.homes s.views ⊎ IsAway s.homes s.views

  -- the first pass stands for all callers, and has seen all entries of the value
  abbrev pub first_view : Opening T → View I
  first_view opening = record {
    stage = Between;
    seen = history opening.value.value;
    share = opening.callers;
    made = 0;
    origin = origin opening.value.value;
    start = length (history opening.value.value);
  }

module _ {I : Type 0} where
  -- the view at another stage
  abbrev pub staged : View I → Stage I → View I
  staged v stage = record v { stage = stage }

  -- the longer of two lists, of which the second at equal lengths
  abbrev pub longer : List I → List I → List I
  longer xs ys = cond (ltb (length ys) (length xs)) xs ys

  -- 1 split: the dividing pass keeps the rest of its share
  abbrev pub remaining : ℕ → View I → View I
  remaining portion v = record v { share = v.share - portion }

  -- and the new one has seen the same, and has made nothing
  abbrev pub given : ℕ → View I → View I
  given portion v =
      record { stage = Between; seen = v.seen; share = portion; made = 0; origin = v.origin; start = v.start }

  -- 2 join: shares and what was made add up, and the other view is spent
  abbrev pub merged : View I → View I → View I
  merged v other = record v { stage = Joined other.seen; share = v.share + other.share; made = v.made + other.made }

  -- the view that has seen what is longer
  abbrev pub compared : View I → List I → View I
  compared v told = record v { stage = Between; seen = longer v.seen told }

  -- the view in which the history is another, and has grown
  abbrev pub extended : View I → ℕ → List I → List I → View I
  extended v ticket before after =
      record v { stage = Holding ticket after; made = v.made + (length after - length before) }

  -- the view that has seen this history
  abbrev pub shown : View I → List I → View I
  shown v past = record v { stage = Between; seen = past }

-- the seat of a pass at the table, and a step there
abbrev pub Sat : Type 0 → Type 0 → Type 0
Sat T I = Me (Option T) (View I)

abbrev pub At : Type 0 → Type 0
At T = Step (Option T)

module _ {T I : Type 0} where
  -- its end: the longer of both lists stays, and begins with the other. No share passes the most callers
  abbrev pub compares : At T → Sat T I → ℕ → Sat T I → Type 0
  compares st m found m' = (told : List I) → m.0.stage ≡ Joined told
      → (m' ≡ (compared m.0 told, m.1)) × (m.0.share ≤ MOST_CALLERS)
      × IsPrefix m.0.seen (longer m.0.seen told) × IsPrefix told (longer m.0.seen told)

  -- 3 draw: the number found is the ticket
  abbrev pub draws : At T → Sat T I → ℕ → Sat T I → Type 0
  draws st m found m' = m.0.stage ≡ Between
      → (ticket : ℕ) × (found ≡ ticket % 2 ^ 64) × (m' ≡ (staged m.0 (Waiting ticket), m.1))

  -- 4 read: where the number found is the ticket, the pass has the turn, and knows the history, which begins with all that it has seen
  abbrev pub reads : At T → Sat T I → ℕ → Sat T I → Type 0
  reads st m found m' = (ticket : ℕ) → m.0.stage ≡ Waiting ticket
      → (found ≡ ticket % 2 ^ 64
      → (past : List I) × IsPrefix m.0.seen past × (m' ≡ (staged m.0 (Serving ticket past), m.1)))
      × (found ≢ ticket % 2 ^ 64 → m' ≡ m)

  -- 5 take out: the value is the pass's, with that history and the origin
  abbrev pub takes_out : (T → List I) → (T → List ℕ) → At T → Sat T I → ℕ → Sat T I → Type 0
  takes_out history origin st m found m' = (ticket : ℕ) (past : List I) → m.0.stage ≡ Serving ticket past
      → (value : T) × (history value ≡ past) × (origin value ≡ m.0.origin)
      × (m' ≡ (staged m.0 (Holding ticket past), (0, Some value) ∷ m.1))

  -- 6 length: the history is that of the value to be left, and what it grew by was made
  abbrev pub notes_length : (T → List I) → At T → Sat T I → ℕ → Sat T I → Type 0
  notes_length history st m found m' = (ticket : ℕ) (past : List I) (value : T) → m.0.stage ≡ Holding ticket past
      → m.1 ≡ (0, Some value) ∷ []
      → m' ≡ (extended m.0 ticket past (history value), m.1)

  -- 7 put home: the value is at home
  abbrev pub puts_home : At T → Sat T I → ℕ → Sat T I → Type 0
  puts_home st m found m' = (ticket : ℕ) (past : List I) → m.0.stage ≡ Holding ticket past
      → m' ≡ (staged m.0 (Serving ticket past), rest m.1)

  -- 8 pass on: the history has been seen, and the ticket is given up
  abbrev pub passes_on : At T → Sat T I → ℕ → Sat T I → Type 0
  passes_on st m found m' = (ticket : ℕ) (past : List I) → m.0.stage ≡ Serving ticket past → m' ≡ (shown m.0 past, m.1)
