-- What is due by its days: one of them changes, and one key takes another place. And the orders of many days.
use Rattle.std.proofs.Common.{◌≡◌, ◌∙◌, sym, ap, refl, ℕ, ◌==◌, ◌&&◌, ◌||◌, Bool, true, false, cond, List, [], ◌∷◌, ◌++◌, length, take, drop, arith, ◌+◌, map, Option, Some, None, option_map}
use Rattle.std.specs.BTreeMap.{is_at}
use Rattle.std.specs.BTreeSet.{insert_key}
use Rattle.std.specs.Cmp.{IsTotalOrder}
use Rattle.std.specs.Cmp.Lexicographic.{slice_cmp, on_texts}
use Rattle.std.specs.List.{list_any}
use Rattle.std.specs.Ordering.{is_eq, nat_cmp, ordering_reverse, ordering_then}
use Rattle.std.specs.Set.{remove_key}
use Rattle.std.specs.declared.cmp.Ordering.{Ordering}
use Rattle.std.specs.declared.cmp.Ordering.TheVariants.{Less, Equal, Greater}
use Rattle.std.proofs.lemmas.Cmp.{alike_right, nat_cmp_total, on_total, tied_itself, then_total}
use Rattle.std.specs.Cmp.{unsigned_tied}
use Rattle.std.proofs.lemmas.List.{append_assoc, take-append-drop}
use Rattle.desk_base.specs.declared.id.Id.{Id}
use Rattle.law_register.specs.declared.answer.due.Due.{Due}
use Rattle.law_register.specs.declared.answer.question.Reading.{Reading}
use Rattle.law_register.specs.declared.law.modification.Destination.TheVariants as to
use Rattle.law_register.specs.declared.law.modification.Modification.{Modification}
use Rattle.law_register.specs.declared.law.modification.Modification.TheVariants.{Textual, Force, Efficacy}
use Rattle.law_register.specs.declared.register.known.Known.{Known}
use Rattle.law_register.specs.declared.register.known.KnownMod.{KnownMod}
use Rattle.law_register.specs.Answer.Bearing.{start_on}
use Rattle.law_register.specs.Answer.Counted.{is_same_id}
use Rattle.law_register.specs.Answer.Order.{due_as, due_cmp, due_from, due_of, due_on, order, with_due}
use Rattle.law_register.specs.Answer.Soundness.{id_twice}
use Rattle.law_register.specs.Answer.Standing.{counts}
use Rattle.law_register.proofs.ApartIds.{none_both, none_left, none_right, same_sym}
use Rattle.law_register.proofs.InsertedKeys.{inserted_any}
use Rattle.replay_core.specs.Starts.{body_due, body_start, due_at, due_by, known_due, known_start, no_start, starts_of, without_due}

module _ {K : Type 0} (cmp : K → K → Ordering) where
  goes_before : (k x : K) (xs : List K) → cmp k x ≡ Less → insert_key cmp (x ∷ xs) k ≡ k ∷ x ∷ xs
  goes_before k x xs e = rw (e) refl

  stays : (k x : K) (xs : List K) → cmp k x ≡ Equal → insert_key cmp (x ∷ xs) k ≡ x ∷ xs
  stays k x xs e = rw (e) refl

  goes_behind : (k x : K) (xs : List K) → cmp k x ≡ Greater → insert_key cmp (x ∷ xs) k ≡ x ∷ insert_key cmp xs k
  goes_behind k x xs e = rw (e) refl

  -- a key that none of these ties with goes in and out again
  in_and_out : IsTotalOrder cmp → (k : K) (ks : List K) → list_any (is_at (cmp k)) ks ≡ false → remove_key (is_at (cmp k)) (insert_key cmp ks k) ≡ ks
  in_and_out total k [] h = rw (tied_itself total k) refl
  in_and_out total k (x ∷ xs) h =
      by (cmp k x) refl (in_and_out total k xs (none_right (is_at (cmp k) x) (list_any (is_at (cmp k)) xs) h))
    where
      by : (r : Ordering) → cmp k x ≡ r → remove_key (is_at (cmp k)) (insert_key cmp xs k) ≡ xs
          → remove_key (is_at (cmp k)) (insert_key cmp (x ∷ xs) k) ≡ x ∷ xs
      by Less e below = ap (remove_key (is_at (cmp k))) (goes_before k x xs e) ∙ ap (λ t. cond t (x ∷ xs) (k ∷ remove_key (is_at (cmp k)) (x ∷ xs))) (ap is_eq (tied_itself total k))
      by Equal e below = absurd (let wrong : true ≡ false = sym (ap is_eq e) ∙ none_left (is_at (cmp k) x) (list_any (is_at (cmp k)) xs) h in cc)
      by Greater e below =
          ap (remove_key (is_at (cmp k))) (goes_behind k x xs e)
          ∙ ap (λ t. cond t (insert_key cmp xs k) (x ∷ remove_key (is_at (cmp k)) (insert_key cmp xs k))) (ap is_eq e) ∙ ap (λ ks. x ∷ ks) below

  module _ (total : IsTotalOrder cmp) (a b : K) (less : cmp a b ≡ Less) where
    more : cmp b a ≡ Greater
    more = total.antisymm b a ∙ ap ordering_reverse less

    -- the lower one stands in front of what it is before
    first_before : (x : K) (xs : List K) → cmp a x ≡ Less → (s : Ordering) → cmp b x ≡ s → insert_key cmp (insert_key cmp (x ∷ xs) b) a ≡ a ∷ insert_key cmp (x ∷ xs) b
    first_before x xs p Less q =
        ap (λ ks. insert_key cmp ks a) (goes_before b x xs q) ∙ goes_before a b (x ∷ xs) less ∙ ap (λ ks. a ∷ ks) (sym (goes_before b x xs q))
    first_before x xs p Equal q =
        ap (λ ks. insert_key cmp ks a) (stays b x xs q) ∙ goes_before a x xs p ∙ ap (λ ks. a ∷ ks) (sym (stays b x xs q))
    first_before x xs p Greater q =
        ap (λ ks. insert_key cmp ks a) (goes_behind b x xs q) ∙ goes_before a x (insert_key cmp xs b) p ∙ ap (λ ks. a ∷ ks) (sym (goes_behind b x xs q))

    behind_too : (x : K) → cmp x b ≡ Less → cmp b x ≡ Greater
    behind_too x h = total.antisymm b x ∙ ap ordering_reverse h

    either_way : (ks : List K) → insert_key cmp (insert_key cmp ks a) b ≡ insert_key cmp (insert_key cmp ks b) a
    either_way [] = goes_behind b a [] more ∙ sym (goes_before a b [] less)
    either_way (x ∷ xs) = by (cmp a x) refl (either_way xs)
      where
        by : (r : Ordering) → cmp a x ≡ r → insert_key cmp (insert_key cmp xs a) b ≡ insert_key cmp (insert_key cmp xs b) a
            → insert_key cmp (insert_key cmp (x ∷ xs) a) b ≡ insert_key cmp (insert_key cmp (x ∷ xs) b) a
        by Less p below =
            ap (λ ks. insert_key cmp ks b) (goes_before a x xs p) ∙ goes_behind b a (x ∷ xs) more ∙ sym (first_before x xs p (cmp b x) refl)
        by Equal p below =
            let q : cmp b x ≡ Greater = behind_too x (sym (total.congr a x b p) ∙ less) in
            ap (λ ks. insert_key cmp ks b) (stays a x xs p) ∙ goes_behind b x xs q
            ∙ sym (ap (λ ks. insert_key cmp ks a) (goes_behind b x xs q) ∙ stays a x (insert_key cmp xs b) p)
        by Greater p below =
            let q : cmp b x ≡ Greater = behind_too x (total.trans x a b (total.antisymm x a ∙ ap ordering_reverse p) less) in
            ap (λ ks. insert_key cmp ks b) (goes_behind a x xs p) ∙ goes_behind b x (insert_key cmp xs a) q ∙ ap (λ ks. x ∷ ks) below
            ∙ sym (ap (λ ks. insert_key cmp ks a) (goes_behind b x xs q) ∙ goes_behind a x (insert_key cmp xs b) p)

  -- two keys that do not tie take their places in either order
  pub commute : IsTotalOrder cmp → (a b : K) → is_eq (cmp a b) ≡ false → (ks : List K) → insert_key cmp (insert_key cmp ks a) b ≡ insert_key cmp (insert_key cmp ks b) a
  commute total a b apart ks = by (cmp a b) refl
    where
      by : (r : Ordering) → cmp a b ≡ r → insert_key cmp (insert_key cmp ks a) b ≡ insert_key cmp (insert_key cmp ks b) a
      by Less e = either_way total a b e ks
      by Equal e = absurd (let wrong : true ≡ false = sym (ap is_eq e) ∙ apart in cc)
      by Greater e = sym (either_way total b a (total.antisymm b a ∙ ap ordering_reverse e) ks)

due_total : IsTotalOrder due_cmp
due_total =
    then_total (on_total (λ d. d.start) nat_cmp_total)
    (then_total (on_total (λ d. d.source_day) nat_cmp_total)
    (then_total (on_texts (λ d. d.href))
    (then_total (on_total (λ d. d.place) nat_cmp_total)
    (then_total (on_total (λ d. d.id.law) nat_cmp_total) (on_total (λ d. d.id.item) nat_cmp_total)))))

both_tied : (r s : Ordering) → is_eq (ordering_then r s) ≡ (is_eq r && is_eq s)
both_tied Less s = refl
both_tied Equal s = refl
both_tied Greater s = refl

not_tied : (r s : Ordering) → is_eq s ≡ false → is_eq (ordering_then r s) ≡ false
not_tied Less s h = refl
not_tied Equal s h = h
not_tied Greater s h = refl

tied_numbers : (a b : ℕ) → is_eq (nat_cmp a b) ≡ (a == b)
tied_numbers a b = unsigned_tied a b

-- keys of two ids do not tie
apart_keys : (x y : Due) → is_same_id x.id y.id ≡ false → is_eq (due_cmp x y) ≡ false
apart_keys x y h =
    let ids : Ordering = ordering_then (nat_cmp x.id.law y.id.law) (nat_cmp x.id.item y.id.item) in
    let placed : Ordering = ordering_then (nat_cmp x.place y.place) ids in
    let named : Ordering = ordering_then (slice_cmp nat_cmp x.href y.href) placed in
    not_tied (nat_cmp x.start y.start) (ordering_then (nat_cmp x.source_day y.source_day) named)
    (not_tied (nat_cmp x.source_day y.source_day) named
    (not_tied (slice_cmp nat_cmp x.href y.href) placed
    (not_tied (nat_cmp x.place y.place) ids
    (both_tied (nat_cmp x.id.law y.id.law) (nat_cmp x.id.item y.id.item)
    ∙ ap (λ b. b && is_eq (nat_cmp x.id.item y.id.item)) (tied_numbers x.id.law y.id.law)
    ∙ ap (λ b. (x.id.law == y.id.law) && b) (tied_numbers x.id.item y.id.item) ∙ h))))

abbrev ids_in : List KnownMod → List Id
ids_in ms = map (λ m. m.id) ms

-- keys do not tie with what is due of modifications with other ids
known_apart : (due : Due) (m : KnownMod) (s : Option ℕ) (dues : List Due) → is_same_id due.id m.id ≡ false → list_any (is_at (due_cmp due)) dues ≡ false
    → list_any (is_at (due_cmp due)) (with_due dues (known_due m s)) ≡ false
known_apart due m None dues apart h = h
known_apart due m (Some start) dues apart h = by m.body
  where
    by : (body : Modification) → list_any (is_at (due_cmp due)) (with_due dues (body_due m.id start body)) ≡ false
    by (Textual source own edit) =
        inserted_any due_cmp (is_at (due_cmp due)) (λ x y e. ap is_eq (alike_right due_total x y due e)) dues (due_from source m.id start)
        ∙ none_both (is_at (due_cmp due) (due_from source m.id start)) (list_any (is_at (due_cmp due)) dues)
        (apart_keys due (due_from source m.id start) apart) h
    by (Force source destination on effect) = h
    by (Efficacy source destination on effect) = h

all_apart : (due : Due) (ms : List KnownMod) (ss : List (Option ℕ)) → list_any (is_same_id due.id) (ids_in ms) ≡ false
    → list_any (is_at (due_cmp due)) (due_by ms ss) ≡ false
all_apart due [] ss h = refl
all_apart due (m ∷ ms) [] h = refl
all_apart due (m ∷ ms) (s ∷ ss) h =
    known_apart due m s (due_by ms ss) (none_left (is_same_id due.id m.id) (list_any (is_same_id due.id) (ids_in ms)) h)
    (all_apart due ms ss (none_right (is_same_id due.id m.id) (list_any (is_same_id due.id) (ids_in ms)) h))

-- one goes in and out again
undone : (m : KnownMod) (s : Option ℕ) (ms : List KnownMod) (ss : List (Option ℕ)) → list_any (is_same_id m.id) (ids_in ms) ≡ false
    → without_due (with_due (due_by ms ss) (known_due m s)) (known_due m s) ≡ due_by ms ss
undone m None ms ss h = refl
undone m (Some start) ms ss h = by m.body
  where
    by : (body : Modification) → without_due (with_due (due_by ms ss) (body_due m.id start body)) (body_due m.id start body) ≡ due_by ms ss
    by (Textual source own edit) =
        in_and_out due_cmp due_total (due_from source m.id start) (due_by ms ss) (all_apart (due_from source m.id start) ms ss h)
    by (Force source destination on effect) = refl
    by (Efficacy source destination on effect) = refl

-- two of two ids take their places in either order
known_commute : (m n : KnownMod) (s o : Option ℕ) (dues : List Due) → is_same_id m.id n.id ≡ false
    → with_due (with_due dues (known_due m s)) (known_due n o) ≡ with_due (with_due dues (known_due n o)) (known_due m s)
known_commute m n None o dues apart = refl
known_commute m n (Some start) None dues apart = refl
known_commute m n (Some start) (Some other) dues apart = by m.body n.body
  where
    by : (b c : Modification) → with_due (with_due dues (body_due m.id start b)) (body_due n.id other c)
        ≡ with_due (with_due dues (body_due n.id other c)) (body_due m.id start b)
    by (Textual source own edit) (Textual source2 own2 edit2) =
        commute due_cmp due_total (due_from source m.id start) (due_from source2 n.id other)
        (apart_keys (due_from source m.id start) (due_from source2 n.id other) apart) dues
    by (Textual source own edit) (Force source2 destination on effect) = refl
    by (Textual source own edit) (Efficacy source2 destination on effect) = refl
    by (Force source destination on effect) c = refl
    by (Efficacy source destination on effect) c = refl

-- one among others takes its place last
pulled : (ms ns : List KnownMod) (m : KnownMod) (p q : List (Option ℕ)) (s : Option ℕ) → length ms ≡ length p → list_any (is_same_id m.id) (ids_in (ms ++ ns)) ≡ false
    → due_by (ms ++ m ∷ ns) (p ++ s ∷ q) ≡ with_due (due_by (ms ++ ns) (p ++ q)) (known_due m s)
pulled [] ns m [] q s len apart = refl
pulled [] ns m (o ∷ p) q s len apart = absurd (omega (arith, len))
pulled (n ∷ ms) ns m [] q s len apart = absurd (omega (arith, len))
pulled (n ∷ ms) ns m (o ∷ p) q s len apart =
    ap (λ d. with_due d (known_due n o))
    (pulled ms ns m p q s (omega (arith, len)) (none_right (is_same_id m.id n.id) (list_any (is_same_id m.id) (ids_in (ms ++ ns))) apart))
    ∙ known_commute m n s o (due_by (ms ++ ns) (p ++ q)) (none_left (is_same_id m.id n.id) (list_any (is_same_id m.id) (ids_in (ms ++ ns))) apart)

not_there : (id : Id) (ms ns : List KnownMod) (m : KnownMod) → list_any (is_same_id id) (ids_in (ms ++ m ∷ ns)) ≡ false → is_same_id id m.id ≡ false
not_there id [] ns m h = none_left (is_same_id id m.id) (list_any (is_same_id id) (ids_in ns)) h
not_there id (x ∷ ms) ns m h = not_there id ms ns m (none_right (is_same_id id x.id) (list_any (is_same_id id) (ids_in (ms ++ m ∷ ns))) h)

-- of modifications whose ids differ, one has none of the ids of the others
others_apart : (ms ns : List KnownMod) (m : KnownMod) → id_twice (ids_in (ms ++ m ∷ ns)) ≡ false → list_any (is_same_id m.id) (ids_in (ms ++ ns)) ≡ false
others_apart [] ns m h = none_left (list_any (is_same_id m.id) (ids_in ns)) (id_twice (ids_in ns)) h
others_apart (x ∷ ms) ns m h =
    none_both (is_same_id m.id x.id) (list_any (is_same_id m.id) (ids_in (ms ++ ns)))
    (same_sym x.id m.id false
    (not_there x.id ms ns m (none_left (list_any (is_same_id x.id) (ids_in (ms ++ m ∷ ns))) (id_twice (ids_in (ms ++ m ∷ ns))) h)))
    (others_apart ms ns m (none_right (list_any (is_same_id x.id) (ids_in (ms ++ m ∷ ns))) (id_twice (ids_in (ms ++ m ∷ ns))) h))

-- one of them is due from another day
changed : (ms ns : List KnownMod) (m : KnownMod) (p q : List (Option ℕ)) (old new : Option ℕ) → length ms ≡ length p → id_twice (ids_in (ms ++ m ∷ ns)) ≡ false
    → with_due (without_due (due_by (ms ++ m ∷ ns) (p ++ old ∷ q)) (known_due m old)) (known_due m new) ≡ due_by (ms ++ m ∷ ns) (p ++ new ∷ q)
changed ms ns m p q old new len once =
    let apart : list_any (is_same_id m.id) (ids_in (ms ++ ns)) ≡ false = others_apart ms ns m once in
    ap (λ d. with_due (without_due d (known_due m old)) (known_due m new)) (pulled ms ns m p q old len apart)
    ∙ ap (λ d. with_due d (known_due m new)) (undone m old (ms ++ ns) (p ++ q) apart)
    ∙ sym (pulled ms ns m p q new len apart)

-- the next one of a list is
pub changed_next : (mods : List KnownMod) (olds news : List (Option ℕ)) (i : ℕ) (m : KnownMod) (old new : Option ℕ) (dues : List Due)
    → drop i mods ≡ m ∷ drop (i + 1) mods → drop i olds ≡ old ∷ drop (i + 1) olds → take (i + 1) news ≡ take i news ++ new ∷ []
    → length (take i mods) ≡ length (take i news) → id_twice (ids_in mods) ≡ false
    → dues ≡ due_by mods (take i news ++ drop i olds)
    → with_due (without_due dues (known_due m old)) (known_due m new) ≡ due_by mods (take (i + 1) news ++ drop (i + 1) olds)
changed_next mods olds news i m old new dues here before after len once is =
    let ms : List KnownMod = take i mods in
    let ns : List KnownMod = drop (i + 1) mods in
    let p : List (Option ℕ) = take i news in
    let q : List (Option ℕ) = drop (i + 1) olds in
    let whole : ms ++ m ∷ ns ≡ mods = ap (λ l. ms ++ l) (sym here) ∙ take-append-drop i mods in
    ap (λ d. with_due (without_due d (known_due m old)) (known_due m new))
    (is ∙ ap (λ l. due_by mods (p ++ l)) before ∙ ap (λ l. due_by l (p ++ old ∷ q)) (sym whole))
    ∙ changed ms ns m p q old new len (ap (λ l. id_twice (ids_in l)) whole ∙ once)
    ∙ ap (λ l. due_by l (p ++ new ∷ q)) whole
    ∙ ap (λ l. due_by mods l) (sym (append_assoc p (new ∷ []) q))
    ∙ ap (λ l. due_by mods (l ++ q)) (sym after)

-- and one that is due from the same day stays
pub kept_next : (mods : List KnownMod) (olds news : List (Option ℕ)) (i : ℕ) (old new : Option ℕ) (dues : List Due)
    → drop i olds ≡ old ∷ drop (i + 1) olds → take (i + 1) news ≡ take i news ++ new ∷ [] → old ≡ new
    → dues ≡ due_by mods (take i news ++ drop i olds) → dues ≡ due_by mods (take (i + 1) news ++ drop (i + 1) olds)
kept_next mods olds news i old new dues before after same is =
    let q : List (Option ℕ) = drop (i + 1) olds in
    is ∙ ap (λ l. due_by mods (take i news ++ l)) (before ∙ ap (λ s. s ∷ q) same)
    ∙ ap (λ l. due_by mods l) (sym (append_assoc (take i news) (new ∷ []) q))
    ∙ ap (λ l. due_by mods (l ++ q)) (sym after)

-- before any day nothing is due
pub none_due : (ms : List KnownMod) → due_by ms (map no_start ms) ≡ []
none_due [] = refl
none_due (m ∷ ms) = none_due ms

module _ (reading : Reading) (day : ℕ) (mods : List KnownMod) where
  body_same : (id : Id) (body : Modification) → due_at id body (body_start reading day mods id body) ≡ due_as reading day mods id body
  body_same id (Force source destination on effect) = refl
  body_same id (Efficacy source destination on effect) = refl
  body_same id (Textual source own edit) = by (start_on reading day mods (to.Modification id) own)
    where
      by : (o : Option ℕ) → due_at id (Textual source own edit) o ≡ option_map (due_from source id) o
      by None = refl
      by (Some start) = refl

  known_same : (m : KnownMod) → known_due m (known_start reading day mods m) ≡ cond (counts reading day m) (due_as reading day mods m.id m.body) None
  known_same m = by (counts reading day m)
    where
      by : (b : Bool) → due_at m.id m.body (cond b (body_start reading day mods m.id m.body) None) ≡ cond b (due_as reading day mods m.id m.body) None
      by true = body_same m.id m.body
      by false = refl

  -- by their days on a day modifications are due as they are on it
  pub due_by_starts : (ms : List KnownMod) → due_by ms (starts_of reading day mods ms) ≡ due_of reading day mods ms
  due_by_starts [] = refl
  due_by_starts (m ∷ ms) =
      ap (λ d. with_due d (known_due m (known_start reading day mods m))) (due_by_starts ms)
      ∙ ap (λ k. with_due (due_of reading day mods ms) k) (known_same m)

-- the ids of what is due on a day are its order, by whatever names the work and the day have
pub same_order : (k known : Known) (r reading : Reading) (d day : ℕ) (dues : List Due) → k ≡ known → r ≡ reading → d ≡ day → dues ≡ due_on k r d
    → map (λ (due : Due). due.id) dues ≡ order known reading day
same_order k known r reading d day dues same_known same_reading same_day is =
    ap (map (λ (due : Due). due.id)) is
    ∙ ap (λ (x : Known). order x r d) same_known
    ∙ ap (λ (x : Reading). order known x d) same_reading
    ∙ ap (λ (x : ℕ). order known reading x) same_day

-- the orders so far, with that of one day more and those of the rest
pub one_order_more : (known : Known) (reading : Reading) (orders : List (List Id)) (ids : List Id) (day : ℕ) (rest left days : List ℕ) → left ≡ day ∷ rest
    → ids ≡ order known reading day → orders ++ map (order known reading) left ≡ map (order known reading) days
    → (orders ++ ids ∷ []) ++ map (order known reading) rest ≡ map (order known reading) days
one_order_more known reading orders ids day rest left days cut ordered so_far =
    append_assoc orders (ids ∷ []) (map (order known reading) rest)
    ∙ ap (λ (x : List Id). orders ++ (x ∷ map (order known reading) rest)) ordered
    ∙ ap (λ (ds : List ℕ). orders ++ map (order known reading) ds) (sym cut)
    ∙ so_far
