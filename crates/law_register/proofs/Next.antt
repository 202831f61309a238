-- What one more entry makes known of a work.
use Rattle.std.proofs.Common.{◌≡◌, ◌∙◌, ap, sym, subst, ℕ, zero, suc, ◌+◌, ◌-◌, ◌<◌, ◌≤◌, ◌==◌, ◌⊎◌, inl, inr, Bool, true, false, cond, List, [], ◌∷◌, ◌++◌, length, map, drop, slice_get, Option, Some, None, option_map, refl, append_assoc, arith}
use Rattle.std.proofs.lemmas.List.{append-nil, length-append}
use Rattle.std.proofs.lemmas.Bool.Decides.{nat_tests}
use Rattle.std.specs.Option.{IfSome, is_none}
use Rattle.std.specs.Str.{bytes_eq}
use Rattle.desk_base.specs.declared.id.Id.{Id}
use Rattle.law_register.specs.declared.law.act.Act.{Act}
use Rattle.law_register.specs.declared.law.command.Command.{Command}
use Rattle.law_register.specs.declared.law.command.Command.TheVariants.{Enact, Record, Correct, Withdraw, Restore, DraftAdd, DraftDrop, File}
use Rattle.law_register.specs.declared.law.modification.Modification.{Modification}
use Rattle.law_register.specs.declared.register.draft.DraftItem.{DraftItem}
use Rattle.law_register.specs.declared.register.entry.Entry.{Entry}
use Rattle.law_register.specs.declared.register.known.Known.{Known}
use Rattle.law_register.specs.declared.register.known.KnownMod.{KnownMod}
use Rattle.law_register.specs.declared.register.rules.Rule.TheVariants.{UnknownWork}
use Rattle.law_register.specs.declared.register.standing.Standing.TheVariants.{Live, Withdrawn}
use Rattle.law_register.specs.Answer.Counted.{is_same_id}
use Rattle.law_register.specs.Answer.Previews.{known_by_law}
use Rattle.law_register.specs.Answer.Soundness.{IsSound}
use Rattle.law_register.specs.Register.Drafts.{draft_of, items_of}
use Rattle.law_register.specs.Register.KnownIds.{IdFacts, corrected, enacted, enacted_by, enacted_or, facts_after, facts_of, first_facts, ids_from, ids_from_item, ids_of, ids_recorded, item_at, known_as, known_by, known_ids, marked}
use Rattle.law_register.specs.Answer.Touched.{work_entered}
use Rattle.law_register.specs.Register.Concerns.{concerns, is_named, is_of}
use Rattle.law_register.specs.Register.Listing.{own_facts}
use Rattle.law_register.specs.Register.KnownNext.{bodies_in, bodies_known, known_by_entry, known_from, known_next, known_now, mod_after, newly_known, saying, standing_as, up_to}
use Rattle.law_register.specs.Register.LawList.{front, law_command, law_of, laws}
use Rattle.law_register.specs.Register.Standings.{is_live}
use Rattle.law_register.specs.Register.Verdicts.{broken_where, is_legal, unknown_in, unknown_work}
use Rattle.law_register.proofs.Legal.{IsNew, kept_rules, legally}
use Rattle.law_register.proofs.Listed.{AreOf, are_of}
use Rattle.law_register.proofs.Owned.{ids_same, own_same}
use Rattle.law_register.proofs.Past.{all_known}
use Rattle.law_register.proofs.Puts.{bytes_same, number_is}
use Rattle.law_register.proofs.Snoc.{enacted_more, facts_more, first_act, ids_more, laws_more}
use Rattle.law_register.proofs.Sound.{known_is_sound}

-- ids of law entries before this one
abbrev AreBelow : ℕ → List Id → Type 0
AreBelow n [] = Unit {0}
AreBelow n (id ∷ ids) = (id.law < n) × AreBelow n ids

both_below : (n : ℕ) (ids more : List Id) → AreBelow n ids → AreBelow n more → AreBelow n (ids ++ more)
both_below n [] more h k = k
both_below n (id ∷ ids) more h k = (h.0, both_below n ids more h.1 k)

items_below : (n number item : ℕ) (ms : List Modification) → number < n → AreBelow n (ids_from_item number item ms)
items_below n number item [] h = tt
items_below n number item (m ∷ ms) h = (h, items_below n number (item + 1) ms h)

recorded_below : (n number : ℕ) (w : List ℕ) (l : Command) → number < n → AreBelow n (ids_recorded number w l)
recorded_below n number w (Record other mods) h = by (bytes_eq other w)
  where
    by : (b : Bool) → AreBelow n (cond b (ids_from_item number 1 mods) [])
    by true = items_below n number 1 mods h
    by false = tt
recorded_below n number w (Enact act) h = tt
recorded_below n number w (Correct id body) h = tt
recorded_below n number w (Withdraw id) h = tt
recorded_below n number w (Restore id) h = tt
recorded_below n number w (DraftAdd work body) h = tt
recorded_below n number w (DraftDrop item) h = tt
recorded_below n number w (File work seen) h = tt

ids_below : (n number : ℕ) (w : List ℕ) (ls : List Command) → number + length ls ≤ n → AreBelow n (ids_from number w ls)
ids_below n number w [] h = tt
ids_below n number w (l ∷ ls) h =
    both_below n (ids_recorded number w l) (ids_from (number + 1) w ls) (recorded_below n number w l (omega (arith, h))) (ids_below n (number + 1) w ls (omega (arith, h)))

differs : (a b : ℕ) → a < b → (a == b) ≡ false
differs a b h = grind (arith, nat_tests)

-- what was known of an id, after one more law entry
abbrev known_mod : Id → IdFacts → KnownMod
known_mod id f = record { id = id; live = is_live f.standing; body = f.body; carried = None }

module _ (id other : Id) (l : Command) (g : IdFacts → IdFacts) (change : KnownMod → KnownMod)
    (same : (f : IdFacts) → known_mod id (g f) ≡ change (known_mod id f))
    (told : (m : KnownMod) → mod_after l m ≡ cond (is_same_id other m.id) (change m) m) where
  at_id : (f : Option IdFacts) → known_as id (cond (is_same_id other id) (option_map g f) f) ≡ map (mod_after l) (known_as id f)
  at_id f = by (is_same_id other id) refl f
    where
      here : (b : Bool) (f : IdFacts) → is_same_id other id ≡ b → mod_after l (known_mod id f) ≡ cond b (change (known_mod id f)) (known_mod id f)
      here b f is = told (known_mod id f) ∙ ap (λ c. cond c (change (known_mod id f)) (known_mod id f)) is

      by : (b : Bool) → is_same_id other id ≡ b → (f : Option IdFacts) → known_as id (cond b (option_map g f) f) ≡ map (mod_after l) (known_as id f)
      by true is None = refl
      by true is (Some f) = ap (λ m. m ∷ []) (same f ∙ sym (here true f is))
      by false is None = refl
      by false is (Some f) = ap (λ m. m ∷ []) (sym (here false f is))

module _ (id : Id) (n : ℕ) (below : id.law < n) where
  still : (l : Command) → ((m : KnownMod) → mod_after l m ≡ m) → (f : Option IdFacts) → known_as id f ≡ map (mod_after l) (known_as id f)
  still l same None = refl
  still l same (Some f) = ap (λ m. m ∷ []) (sym (same (known_mod id f)))

  id_after : (l : Command) (f : Option IdFacts) → known_as id (facts_after id n l f) ≡ map (mod_after l) (known_as id f)
  id_after (Record other ms) f =
      ap (λ b. known_as id (cond b (first_facts other (item_at id.item ms)) f)) (differs id.law n below) ∙ still (Record other ms) (λ m. refl) f
  id_after (Correct other body) f = at_id id other (Correct other body) (corrected body) (saying body) (λ x. refl) (λ m. refl) f
  id_after (Withdraw other) f = at_id id other (Withdraw other) (marked (Withdrawn n)) (standing_as false) (λ x. refl) (λ m. refl) f
  id_after (Restore other) f = at_id id other (Restore other) (marked Live) (standing_as true) (λ x. refl) (λ m. refl) f
  id_after (Enact act) f = still (Enact act) (λ m. refl) f
  id_after (DraftAdd work body) f = still (DraftAdd work body) (λ m. refl) f
  id_after (DraftDrop item) f = still (DraftDrop item) (λ m. refl) f
  id_after (File work seen) f = still (File work seen) (λ m. refl) f

pub map_both : {A B : Type 0} (f : A → B) (xs ys : List A) → map f (xs ++ ys) ≡ map f xs ++ map f ys
map_both f [] ys = refl
map_both f (x ∷ xs) ys = ap (λ l. f x ∷ l) (map_both f xs ys)

old_known : (L : List Command) (l : Command) (ids : List Id) → AreBelow (length L + 1) ids → known_ids (L ++ l ∷ []) ids ≡ map (mod_after l) (known_ids L ids)
old_known L l [] h = refl
old_known L l (id ∷ ids) h =
    ap (λ f. known_as id f ++ known_ids (L ++ l ∷ []) ids) (facts_more id L l)
    ∙ ap (λ ms. ms ++ known_ids (L ++ l ∷ []) ids) (id_after id (length L + 1) h.0 l (facts_of id L))
    ∙ ap (λ ms. map (mod_after l) (known_as id (facts_of id L)) ++ ms) (old_known L l ids h.1)
    ∙ sym (map_both (mod_after l) (known_as id (facts_of id L)) (known_ids L ids))

-- the element at a place, and those behind it
at_place : {X : Type 0} (m : ℕ) (xs : List X) (x : X) (rest : List X) → drop m xs ≡ x ∷ rest → slice_get xs m ≡ Some x
at_place zero [] x rest h = absurd (let no : [] ≡ x ∷ rest = h in cc)
at_place zero (y ∷ ys) x rest h = let same : y ≡ x = cc in ap Some same
at_place (suc m) [] x rest h = absurd (let no : [] ≡ x ∷ rest = h in cc)
at_place (suc m) (y ∷ ys) x rest h = at_place m ys x rest h

behind_place : {X : Type 0} (m : ℕ) (xs : List X) (x : X) (rest : List X) → drop m xs ≡ x ∷ rest → drop (suc m) xs ≡ rest
behind_place zero [] x rest h = absurd (let no : [] ≡ x ∷ rest = h in cc)
behind_place zero (y ∷ ys) x rest h = cc
behind_place (suc m) [] x rest h = absurd (let no : [] ≡ x ∷ rest = h in cc)
behind_place (suc m) (y ∷ ys) x rest h = behind_place m ys x rest h

item_is : (m : ℕ) (ms : List Modification) (body : Modification) → slice_get ms m ≡ Some body → item_at (m + 1) ms ≡ Some body
item_is m ms body h = ap (λ b. cond b None (slice_get ms (m + 1 - 1))) (some m) ∙ ap (slice_get ms) (less m) ∙ h
  where
    some : (n : ℕ) → ((n + 1) == 0) ≡ false
    some n = grind (arith, nat_tests)

    less : (n : ℕ) → n + 1 - 1 ≡ n
    less n = omega arith

-- what a record brings is known as it says it
new_known : (L : List Command) (w : List ℕ) (ms : List Modification) (m : ℕ) (bodies : List Modification) → drop m ms ≡ bodies
    → known_ids (L ++ Record w ms ∷ []) (ids_from_item (length L + 1) (m + 1) bodies) ≡ bodies_known (length L + 1) (m + 1) bodies
new_known L w ms m [] h = refl
new_known L w ms m (body ∷ bodies) h =
    let n : ℕ = length L + 1 in
    let id : Id = record { law = n; item = m + 1 } in
    let rest : List KnownMod = known_ids (L ++ Record w ms ∷ []) (ids_from_item n (m + 1 + 1) bodies) in
    let facts : facts_of id (L ++ Record w ms ∷ []) ≡ Some (record { work = w; body = body; standing = Live }) =
    facts_more id L (Record w ms) ∙ ap (λ b. cond b (first_facts w (item_at (m + 1) ms)) (facts_of id L)) (number_is n n refl)
    ∙ ap (first_facts w) (item_is m ms body (at_place m ms body bodies h)) in
    let behind : drop (m + 1) ms ≡ bodies = ap (λ k. drop k ms) (one_more m) ∙ behind_place m ms body bodies h in
    ap (λ f. known_as id f ++ rest) facts ∙ ap (λ l. record { id = id; live = true; body = body; carried = None } ∷ l) (new_known L w ms (m + 1) bodies behind)
  where
    one_more : (n : ℕ) → n + 1 ≡ suc n
    one_more n = omega arith

recorded_known : (L : List Command) (w : List ℕ) (l : Command) → known_ids (L ++ l ∷ []) (ids_recorded (length L + 1) w l) ≡ bodies_known (length L + 1) 1 (bodies_in w l)
recorded_known L w (Record other ms) = by (bytes_eq other w)
  where
    by : (b : Bool) → known_ids (L ++ Record other ms ∷ []) (cond b (ids_from_item (length L + 1) 1 ms) []) ≡ bodies_known (length L + 1) 1 (cond b ms [])
    by true = new_known L other ms 0 ms refl
    by false = refl
recorded_known L w (Enact act) = refl
recorded_known L w (Correct id body) = refl
recorded_known L w (Withdraw id) = refl
recorded_known L w (Restore id) = refl
recorded_known L w (DraftAdd work body) = refl
recorded_known L w (DraftDrop item) = refl
recorded_known L w (File work seen) = refl

known_both : (L : List Command) (ids more : List Id) → known_ids L (ids ++ more) ≡ known_ids L ids ++ known_ids L more
known_both L [] more = refl
known_both L (id ∷ ids) more =
    ap (λ l. known_as id (facts_of id L) ++ l) (known_both L ids more) ∙ sym (append_assoc (known_as id (facts_of id L)) (known_ids L ids) (known_ids L more))

-- the modifications of a work after one more law entry
mods_next : (L : List Command) (w : List ℕ) (l : Command)
    → known_ids (L ++ l ∷ []) (ids_of w (L ++ l ∷ [])) ≡ map (mod_after l) (known_ids L (ids_of w L)) ++ bodies_known (length L + 1) 1 (bodies_in w l)
mods_next L w l =
    let all : List Command = L ++ l ∷ [] in
    let new : List Id = ids_recorded (length L + 1) w l in
    ap (known_ids all) (ids_more w L l)
    ∙ known_both all (ids_of w L) new
    ∙ ap (λ mods. mods ++ known_ids all new) (old_known L l (ids_of w L) (ids_below (length L + 1) 1 w L (omega arith)))
    ∙ ap (λ mods. map (mod_after l) (known_ids L (ids_of w L)) ++ mods) (recorded_known L w l)

-- what is known of a work after one more law entry, where nothing is recorded in it before its Enact
pub law_next : (L : List Command) (w : List ℕ) (l : Command) → ((act : Act) → enacted_by w l ≡ Some act → enacted w L ≡ None → ids_of w L ≡ []) → known_by_law (L ++ l ∷ []) w ≡ known_from (length L) w l (known_by_law L w)
law_next L w l none =
    ap (λ k. known_by w k k (L ++ l ∷ []) (enacted w (L ++ l ∷ []))) (length-append L (l ∷ []))
    ∙ ap (known_by w n n (L ++ l ∷ [])) (enacted_more w L l)
    ∙ by (enacted w L) none
  where
    n : ℕ
    n = length L + 1

    told : ℕ × Act → List KnownMod → Option Known
    told found mods = Some (record { act = found.1; enacted = found.0; viewpoint = n; front = n; mods = mods; source_days = [] })

    now : List KnownMod
    now = known_ids (L ++ l ∷ []) (ids_of w (L ++ l ∷ []))

    first : (l : Command) (ids : List Id) (mods : List KnownMod) (known : Act → List KnownMod → Option Known) → ids ≡ []
        → mods ≡ map (mod_after l) (known_ids L ids) ++ bodies_known n 1 (bodies_in w l)
        → (act : Act) → enacted_by w l ≡ Some act → known act mods ≡ known act []
    first (Enact act) ids mods known empty is a by = ap (known a) (is ∙ ap (λ i. map (mod_after (Enact act)) (known_ids L i) ++ []) empty)
    first (Record other ms) ids mods known empty is a by = absurd (let no : None ≡ Some a = by in cc)
    first (Correct id body) ids mods known empty is a by = absurd (let no : None ≡ Some a = by in cc)
    first (Withdraw id) ids mods known empty is a by = absurd (let no : None ≡ Some a = by in cc)
    first (Restore id) ids mods known empty is a by = absurd (let no : None ≡ Some a = by in cc)
    first (DraftAdd work body) ids mods known empty is a by = absurd (let no : None ≡ Some a = by in cc)
    first (DraftDrop item) ids mods known empty is a by = absurd (let no : None ≡ Some a = by in cc)
    first (File work seen) ids mods known empty is a by = absurd (let no : None ≡ Some a = by in cc)

    by_act : ((act : Act) → enacted_by w l ≡ Some act → ids_of w L ≡ []) → (act : Option Act) → enacted_by w l ≡ act
        → known_by w n n (L ++ l ∷ []) (enacted_or n act None) ≡ option_map (newly_known n) act
    by_act empty None is = refl
    by_act empty (Some act) is = first l (ids_of w L) now (λ a mods. told (n, a) mods) (empty act is) (mods_next L w l) act is

    by : (found : Option (ℕ × Act)) → ((act : Act) → enacted_by w l ≡ Some act → found ≡ None → ids_of w L ≡ [])
        → known_by w n n (L ++ l ∷ []) (first_act found (enacted_or n (enacted_by w l) None)) ≡ known_from (length L) w l (known_by w (length L) (length L) L found)
    by (Some found) none = ap (told found) (mods_next L w l)
    by None none = by_act (λ act is. none act is refl) (enacted_by w l) refl

-- nothing is recorded in a work before its Enact
abbrev NoneBefore : List ℕ → List Command → Type 0
NoneBefore w ls = enacted w ls ≡ None → ids_of w ls ≡ []

none_more : (w : List ℕ) (L : List Command) (l : Command) → (enacted w L ≡ None → ids_recorded (length L + 1) w l ≡ []) → NoneBefore w L → NoneBefore w (L ++ l ∷ [])
none_more w L l new old is =
    let before : enacted w L ≡ None = first_none (enacted w L) (enacted_or (length L + 1) (enacted_by w l) None) (sym (enacted_more w L l) ∙ is) in
    ids_more w L l ∙ ap (λ ids. ids ++ ids_recorded (length L + 1) w l) (old before) ∙ new before
  where
    first_none : (a b : Option (ℕ × Act)) → first_act a b ≡ None → a ≡ None
    first_none None b h = refl
    first_none (Some found) b h = absurd (let no : Some found ≡ None = h in cc)

none_recorded : (w other : List ℕ) (L : List Command) (ms : List Modification) → unknown_in L other ≡ None → enacted w L ≡ None → ids_recorded (length L + 1) w (Record other ms) ≡ []
none_recorded w other L ms kept none = by (bytes_eq other w) refl
  where
    is_some : (found : Option (ℕ × Act)) → found ≡ None → broken_where (is_none found) (UnknownWork other) ≡ None → ⊥
    is_some None is kept = let no : Some (UnknownWork other) ≡ None = kept in cc
    is_some (Some found) is kept = let no : Some found ≡ None = is in cc

    by : (b : Bool) → bytes_eq other w ≡ b → cond b (ids_from_item (length L + 1) 1 ms) [] ≡ []
    by true own = absurd (is_some (enacted other L) (ap (λ x. enacted x L) (bytes_same other w own) ∙ none) kept)
    by false own = refl

none_step : (w : List ℕ) (L : List Command) (draft : List DraftItem) (c : Command) → unknown_work L c ≡ None → NoneBefore w L → NoneBefore w (L ++ law_command draft c)
none_step w L draft (Enact act) kept h = none_more w L (Enact act) (λ is. refl) h
none_step w L draft (Record other ms) kept h = none_more w L (Record other ms) (none_recorded w other L ms kept) h
none_step w L draft (Correct id body) kept h = none_more w L (Correct id body) (λ is. refl) h
none_step w L draft (Withdraw id) kept h = none_more w L (Withdraw id) (λ is. refl) h
none_step w L draft (Restore id) kept h = none_more w L (Restore id) (λ is. refl) h
none_step w L draft (DraftAdd work body) kept h = subst (NoneBefore w) (sym (append-nil L)) h
none_step w L draft (DraftDrop item) kept h = subst (NoneBefore w) (sym (append-nil L)) h
none_step w L draft (File other seen) kept h =
    let ms : List Modification = map (λ (i : DraftItem). i.body) (items_of other draft) in
    none_more w L (Record other ms) (none_recorded w other L ms kept) h

pub none_before : (w : List ℕ) (es : List Entry) → is_legal es ≡ true → NoneBefore w (laws es)
none_before w es legal = legally (λ xs. NoneBefore w (laws xs)) more (λ is. refl) es legal
  where
    more : (xs : List Entry) (e : Entry) → NoneBefore w (laws xs) → IsNew xs e.drafter e.request e.command e.law → NoneBefore w (laws (xs ++ e ∷ []))
    more xs e h new =
        subst (NoneBefore w) (sym (laws_more xs e))
        (none_step w (laws xs) (draft_of e.drafter xs) e.command ((kept_rules xs e.drafter e.command new.kept).known) h)

-- an entry is one law entry at most
pub one_at_most : (draft : List DraftItem) (c : Command) → (law_command draft c ≡ []) ⊎ ((l : Command) × (law_command draft c ≡ l ∷ []))
one_at_most draft (DraftAdd work body) = inl refl
one_at_most draft (DraftDrop item) = inl refl
one_at_most draft (Enact act) = inr (Enact act, refl)
one_at_most draft (Record work ms) = inr (Record work ms, refl)
one_at_most draft (Correct id body) = inr (Correct id body, refl)
one_at_most draft (Withdraw id) = inr (Withdraw id, refl)
one_at_most draft (Restore id) = inr (Restore id, refl)
one_at_most draft (File work seen) = inr (Record work (map (λ i. i.body) (items_of work draft)), refl)

-- what is known of a work at the front
pub now_known : (es : List Entry) (w : List ℕ) → known_now es w ≡ known_by_law (laws es) w
now_known es w = sym (ap (λ l. known_by w (front es) (front es) l (enacted w l)) (all_known es (front es) (omega arith)))

pub now_sound : (es : List Entry) (w : List ℕ) → is_legal es ≡ true → IfSome (known_now es w) IsSound
now_sound es w legal = subst (λ k. IfSome k IsSound) (sym (now_known es w)) (known_is_sound w (front es) (front es) es legal)

pub entry_next : (es : List Entry) (e : Entry) (w : List ℕ) → is_legal es ≡ true → known_now (es ++ e ∷ []) w ≡ known_next es e w (known_now es w)
entry_next es e w legal =
    now_known (es ++ e ∷ []) w ∙ ap (λ ls. known_by_law ls w) (laws_more es e) ∙ by (one_at_most (draft_of e.drafter es) e.command)
    ∙ ap (known_by_entry (front es) w (law_of es e)) (sym (now_known es w))
  where
    by : (law_of es e ≡ []) ⊎ ((l : Command) × (law_of es e ≡ l ∷ []))
        → known_by_law (laws es ++ law_of es e) w ≡ known_by_entry (front es) w (law_of es e) (known_by_law (laws es) w)
    by (inl none) =
        subst (λ ls. known_by_law (laws es ++ ls) w ≡ known_by_entry (front es) w ls (known_by_law (laws es) w)) (sym none)
        (ap (λ ls. known_by_law ls w) (append-nil (laws es)))
    by (inr (l, one)) =
        subst (λ ls. known_by_law (laws es ++ ls) w ≡ known_by_entry (front es) w ls (known_by_law (laws es) w)) (sym one)
        (law_next (laws es) w l (λ act is. none_before w es legal))

-- what is known of a work counts the law entries
pub now_counts : (es : List Entry) (w : List ℕ) (known : Known) → known_now es w ≡ Some known → up_to (front es) known ≡ known
now_counts es w known is = by (enacted w (laws es)) (sym (now_known es w) ∙ is)
  where
    inner : (a b : Known) → Some a ≡ Some b → a ≡ b
    inner a b h = cc

    by : (found : Option (ℕ × Act)) → known_by w (front es) (front es) (laws es) found ≡ Some known → up_to (front es) known ≡ known
    by None h = absurd (let no : None ≡ Some known = h in cc)
    by (Some found) h =
        let told : Known =
        record { act = found.1; enacted = found.0; viewpoint = front es; front = front es; mods = known_ids (laws es) (ids_of w (laws es)); source_days = [] } in
        subst (λ k. up_to (front es) k ≡ k) (inner told known h) refl

-- an entry that does not concern a work leaves what is known of it
owned_same : (w : List ℕ) (L : List Command) (l : Command) (ids : List Id) → concerns L w l ≡ false → AreOf w L ids → AreOf w (L ++ l ∷ []) ids → known_ids (L ++ l ∷ []) ids ≡ known_ids L ids
owned_same w L l [] apart old new = refl
owned_same w L l (id ∷ ids) apart old new =
    let own : (f : Option IdFacts) → is_of w f ≡ true → own_facts w f ≡ f = λ f is. ap (λ b. cond b f None) is in
    let same : facts_of id (L ++ l ∷ []) ≡ facts_of id L =
    sym (own (facts_of id (L ++ l ∷ [])) new.0) ∙ own_same w id L l apart ∙ own (facts_of id L) old.0 in
    ap (λ f. known_as id f ++ known_ids (L ++ l ∷ []) ids) same ∙ ap (λ ms. known_as id (facts_of id L) ++ ms) (owned_same w L l ids apart old.1 new.1)

law_apart : (L : List Command) (w : List ℕ) (l : Command) → concerns L w l ≡ false → known_by_law (L ++ l ∷ []) w ≡ option_map (up_to (length (L ++ l ∷ []))) (known_by_law L w)
law_apart L w l apart =
    ap (known_by w n n (L ++ l ∷ [])) (enacted_more w L l ∙ ap (λ act. first_act (enacted w L) (enacted_or (length L + 1) act None)) (no_act l apart) ∙ stays (enacted w L))
    ∙ by (enacted w L)
  where
    n : ℕ
    n = length (L ++ l ∷ [])

    no_act : (l : Command) → concerns L w l ≡ false → enacted_by w l ≡ None
    no_act (Enact act) h = ap (λ b. cond b (Some act) None) h
    no_act (Record other mods) h = refl
    no_act (Correct id body) h = refl
    no_act (Withdraw id) h = refl
    no_act (Restore id) h = refl
    no_act (DraftAdd work body) h = refl
    no_act (DraftDrop item) h = refl
    no_act (File work seen) h = refl

    stays : (found : Option (ℕ × Act)) → first_act found None ≡ found
    stays None = refl
    stays (Some found) = refl

    mods : known_ids (L ++ l ∷ []) (ids_of w (L ++ l ∷ [])) ≡ known_ids L (ids_of w L)
    mods =
        ap (known_ids (L ++ l ∷ [])) (ids_same w L l apart)
        ∙ owned_same w L l (ids_of w L) apart (are_of w L) (subst (AreOf w (L ++ l ∷ [])) (ids_same w L l apart) (are_of w (L ++ l ∷ [])))

    by : (found : Option (ℕ × Act)) → known_by w n n (L ++ l ∷ []) found ≡ option_map (up_to n) (known_by w (length L) (length L) L found)
    by None = refl
    by (Some found) = ap (λ (ms : List KnownMod). Some (record { act = found.1; enacted = found.0; viewpoint = n; front = n; mods = ms; source_days = [] })) mods

pub entry_apart : (es : List Entry) (e : Entry) (w : List ℕ) → is_named w (work_entered es (law_of es e)) ≡ false
    → known_now (es ++ e ∷ []) w ≡ option_map (up_to (front (es ++ e ∷ []))) (known_now es w)
entry_apart es e w apart =
    now_known (es ++ e ∷ []) w ∙ ap (λ ls. known_by_law ls w) (laws_more es e)
    ∙ by (one_at_most (draft_of e.drafter es) e.command) ∙ ap (λ ls. option_map (up_to (length ls)) (known_by_law (laws es) w)) (sym (laws_more es e))
    ∙ ap (option_map (up_to (front (es ++ e ∷ [])))) (sym (now_known es w))
  where
    same : (found : Option (ℕ × Act)) → known_by w (front es) (front es) (laws es) found ≡ option_map (up_to (front es)) (known_by w (front es) (front es) (laws es) found)
    same None = refl
    same (Some found) = refl

    by : (law_of es e ≡ []) ⊎ ((l : Command) × (law_of es e ≡ l ∷ []))
        → known_by_law (laws es ++ law_of es e) w ≡ option_map (up_to (length (laws es ++ law_of es e))) (known_by_law (laws es) w)
    by (inl none) =
        subst (λ ls. known_by_law (laws es ++ ls) w ≡ option_map (up_to (length (laws es ++ ls))) (known_by_law (laws es) w)) (sym none)
        (ap (λ ls. known_by_law ls w) (append-nil (laws es)) ∙ same (enacted w (laws es))
        ∙ sym (ap (λ ls. option_map (up_to (length ls)) (known_by_law (laws es) w)) (append-nil (laws es))))
    by (inr (l, one)) =
        subst (λ ls. known_by_law (laws es ++ ls) w ≡ option_map (up_to (length (laws es ++ ls))) (known_by_law (laws es) w)) (sym one)
        (law_apart (laws es) w l (subst (λ ls. is_named w (work_entered es ls) ≡ false) one apart))
