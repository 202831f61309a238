-- What the calls of a disk in memory that fail, and do some of it or all, leave.
use Rattle.std.proofs.Common.{◌≡◌, inl, ℕ, ◌+◌, ◌-◌, ◌≤◌, ◌==◌, Bool, true, false, min, max, List, length, take, drop, if◌then◌else◌, refl, sym, ◌∙◌, ap, subst, arith, length-take}
use Rattle.std.proofs.lemmas.List.{drop-drop}
use Rattle.law_journal.specs.Disks.{Outlook, Idles, Changes, Elapses, Torn, Cut}
use Rattle.law_journal.specs.MemoryDisks.{HeldBytes, after_write, after_cut, after_sync}
use Rattle.law_journal.specs.Effects.{where_left, front_written, written_by, cut_where_left, cut_by, synced_by}
use Rattle.law_journal.specs.declared.effect.Effect.{Effect}
use Rattle.law_journal.specs.declared.effect.Effect.TheVariants.{Nothing, Front, Whole}
use Rattle.law_journal.proofs.MemorySteps.{outlook, torn_none, cut_none, wrote, was_cut, idles_synced}

-- a file that is torn in a shorter range is torn in a longer one
torn_more : (place n m : ℕ) (old new : List ℕ) → n ≤ m → Torn place n old new → Torn place m old new
torn_more place n m old new le torn = record {
  before = torn.before;
  after = behind new ∙ ap (λ (l : List ℕ). drop (m - n) l) torn.after ∙ sym (behind old);
  no_shorter = torn.no_shorter;
  no_longer = omega (arith, torn.no_longer, le);
}
  where
    behind : (l : List ℕ) → drop (place + m) l ≡ drop (m - n) (drop (place + n) l)
    behind l = ap (λ k. drop k l) (omega (arith, le)) ∙ sym (drop-drop (m - n) (place + n) l)

cut_more : (n m : ℕ) (old new : List ℕ) → n ≤ m → Cut m old new → Cut n old new
cut_more n m old new le cut = record { no_shorter = omega (arith, cut.no_shorter, le); front = cut.front }

-- what changes nothing
same_time : (o : Outlook) → Elapses o o
same_time o = record { later = omega arith; nothing_else = λ t c le left. inl left; keeps = λ t c le left. left }

unchanged : (step : List ℕ → List ℕ → Type 0) → ((c : List ℕ) → step c c) → (o : Outlook) → Changes step o o
unchanged step stays o = record { tells = (λ t. t, λ t. t); crash = λ t c left. (c, left, stays c); time = same_time o }

unmoved : (o : Outlook) → Idles o o
unmoved o = record { tells = (λ t. t, λ t. t); seen = refl; crash = λ c left. left; time = same_time o }

-- a change by one step is one by another that allows as much
weaker : (step other : List ℕ → List ℕ → Type 0) → ((d c : List ℕ) → step d c → other d c) → (old new : Outlook)
    → Changes step old new → Changes other old new
weaker step other wider old new changes = record {
  tells = changes.tells;
  crash = λ t c left. let from = changes.crash t c left in (from.0, from.1, wider from.0 c from.2);
  time = changes.time;
}

-- what holds of what is held, whether or not a step could be made
either : (P : HeldBytes → Type 0) (step : HeldBytes → HeldBytes) (h : HeldBytes) → P h → P (step h) → P (where_left step h)
either P step h none done = by (h.left == 0)
  where
    by : (b : Bool) → P (if b then h else step h)
    by true = none
    by false = done

module _ (old : HeldBytes) where
  front_changes : (most place : ℕ) (bytes : List ℕ) → place ≤ length old.bytes
      → Changes (Torn place (length bytes)) (outlook old) (outlook (front_written most place bytes old))
  front_changes most place bytes within =
      let some = take (min most old.room) bytes in
      let fewer : length some ≤ length bytes = omega (arith, length-take (min most old.room) bytes) in
      either (λ h. Changes (Torn place (length bytes)) (outlook old) (outlook h)) (after_write place some) old
      (unchanged (Torn place (length bytes)) (torn_none place (length bytes)) (outlook old))
      (weaker (Torn place (length some)) (Torn place (length bytes)) (λ d c. torn_more place (length some) (length bytes) d c fewer) (outlook old) (outlook (after_write place some old)) (wrote old old (after_write place some old) refl place some within refl))

  cut_changes : (len least : ℕ) → len ≤ least → Changes (Cut len) (outlook old) (outlook (cut_where_left least old))
  cut_changes len least le =
      either (λ h. Changes (Cut len) (outlook old) (outlook h)) (after_cut least) old
      (unchanged (Cut len) (cut_none len) (outlook old))
      (weaker (Cut least) (Cut len) (λ d c. cut_more len least d c le) (outlook old) (outlook (after_cut least old)) (was_cut old old (after_cut least old) refl least refl))

  written : (effect : Effect) (place : ℕ) (bytes : List ℕ) → place ≤ length old.bytes
      → Changes (Torn place (length bytes)) (outlook old) (outlook (written_by effect place bytes old))
  written Nothing place bytes within = unchanged (Torn place (length bytes)) (torn_none place (length bytes)) (outlook old)
  written (Front most) place bytes within = front_changes most place bytes within
  written Whole place bytes within = front_changes (length bytes) place bytes within

  cut_off : (effect : Effect) (len : ℕ) → Changes (Cut len) (outlook old) (outlook (cut_by effect len old))
  cut_off Nothing len = unchanged (Cut len) (cut_none len) (outlook old)
  cut_off (Front most) len = cut_changes len (max len (length old.bytes - most)) (omega arith)
  cut_off Whole len = cut_changes len len (omega arith)

  synced : (effect : Effect) → Idles (outlook old) (outlook (synced_by effect old))
  synced Nothing = unmoved (outlook old)
  synced (Front most) = unmoved (outlook old)
  synced Whole = either (λ h. Idles (outlook old) (outlook h)) after_sync old (unmoved (outlook old)) (idles_synced old old (after_sync old) refl refl)

-- of calls that failed, and what they did
module _ (old mid new : HeldBytes) (same : mid ≡ old) (effect : Effect) where
  pub failed_write : (place : ℕ) (bytes : List ℕ) → place ≤ length old.bytes → new ≡ written_by effect place bytes mid → Changes (Torn place (length bytes)) (outlook old) (outlook new)
  failed_write place bytes within is =
      subst (λ (h : HeldBytes). Changes (Torn place (length bytes)) (outlook old) (outlook h)) (sym (is ∙ ap (written_by effect place bytes) same)) (written old effect place bytes within)

  pub failed_cut : (len : ℕ) → new ≡ cut_by effect len mid → Changes (Cut len) (outlook old) (outlook new)
  failed_cut len is = subst (λ (h : HeldBytes). Changes (Cut len) (outlook old) (outlook h)) (sym (is ∙ ap (cut_by effect len) same)) (cut_off old effect len)

  pub failed_sync : new ≡ synced_by effect mid → Idles (outlook old) (outlook new)
  failed_sync is = subst (λ (h : HeldBytes). Idles (outlook old) (outlook h)) (sym (is ∙ ap (synced_by effect) same)) (synced old effect)
