-- What the marks stand for, once an entry stands behind the others.
use Rattle.std.proofs.Common.{◌≡◌, ◌∙◌, sym, ap, subst, ℕ, zero, suc, ◌+◌, ◌-◌, ◌==◌, Bool, true, false, cond, ◌&&◌, ◌||◌, not, List, [], ◌∷◌, ◌++◌, length, filter, Option, Some, None, slice_get, slice_range, refl, arith}
use Rattle.std.proofs.lemmas.List.{length-append}
use Rattle.std.proofs.lemmas.Option.{slice_get_within}
use Rattle.std.specs.List.{list_any}
use Rattle.std.specs.Str.{bytes_eq}
use Rattle.law_register.specs.declared.law.act.Act.{Act}
use Rattle.law_register.specs.declared.law.command.Command.{Command}
use Rattle.law_register.specs.declared.law.command.Command.TheVariants.{Enact, Record, Correct, Withdraw, Restore, DraftAdd, DraftDrop, File}
use Rattle.law_register.specs.declared.register.draft.DraftItem.{DraftItem}
use Rattle.law_register.specs.declared.register.entry.Entry.{Entry}
use Rattle.law_register.specs.declared.register.indexes.DrafterMark.{DrafterMark}
use Rattle.law_register.specs.declared.register.indexes.EnactedMark.{EnactedMark}
use Rattle.law_register.specs.declared.register.indexes.IdMark.{IdMark}
use Rattle.law_register.specs.declared.register.indexes.ItemMark.{ItemMark}
use Rattle.law_register.specs.declared.register.indexes.RequestMark.{RequestMark}
use Rattle.law_register.specs.declared.register.verdict.Reply.{Reply}
use Rattle.law_register.specs.Register.Drafts.{is_by, additions, added, redrafted, draft_of, items_but}
use Rattle.law_register.specs.Register.Indexes.{told, told_at, work_named, act_of, body_of, marks_work, RequestStands, ItemsStand, DraftStands, EnactedStands, IdStands, added_of, items_in, items_after}
use Rattle.law_register.specs.Register.KnownIds.{IdFacts}
use Rattle.law_register.specs.Register.Marks.{IsOfLast}
use Rattle.law_register.specs.Register.Verdicts.{reply_to, request_of, drafters}
use Rattle.std.specs.Option.{option_or}
use Rattle.indexmap.proofs.MapLemmas.{split_last}
use Rattle.law_register.proofs.Lookups.{items_filter, mark_works}
use Rattle.law_register.proofs.Puts.{bytes_are, bytes_same, bytes_either, number_same, left_true, right_true}
use Rattle.law_register.proofs.Snoc.{found_here, added_more, draft_more, request_more, with_drafter, drafters_more}

-- what stands at an index stays there
pub entry_stays : (es : List Entry) (e : Entry) (i : ℕ) (x : Entry) → slice_get es i ≡ Some x → slice_get (es ++ e ∷ []) i ≡ Some x
entry_stays [] e i x h = absurd (let no : None ≡ Some x = h in cc)
entry_stays (y ∷ es) e zero x h = h
entry_stays (y ∷ es) e (suc i) x h = entry_stays es e i x h

pub entry_last : (es : List Entry) (e : Entry) → slice_get (es ++ e ∷ []) (length es) ≡ Some e
entry_last [] e = refl
entry_last (y ∷ es) e = entry_last es e

module _ {X : Type 0} (tells : Command → Option X) where
  told_by : (es : List Entry) (e : Entry) (i : ℕ) (x : X) (found : Option Entry) → slice_get es i ≡ found → told tells found ≡ Some x → told_at (es ++ e ∷ []) i tells ≡ Some x
  told_by es e i x None is h = absurd (let no : None ≡ Some x = h in cc)
  told_by es e i x (Some y) is h = ap (told tells) (entry_stays es e i y is) ∙ h

  pub told_stays : (es : List Entry) (e : Entry) (i : ℕ) (x : X) → told_at es i tells ≡ Some x → told_at (es ++ e ∷ []) i tells ≡ Some x
  told_stays es e i x h = told_by es e i x (slice_get es i) refl h

  pub told_last : (es : List Entry) (e : Entry) → told_at (es ++ e ∷ []) (length es) tells ≡ tells e.command
  told_last es e = ap (told tells) (entry_last es e)

-- marks still stand for what they stood for
pub items_stay : (es : List Entry) (e : Entry) (ms : List ItemMark) (items : List DraftItem) → ItemsStand es ms items → ItemsStand (es ++ e ∷ []) ms items
items_stay es e [] [] h = tt
items_stay es e (m ∷ ms) (i ∷ items) h =
    (h.0, told_stays work_named es e m.entry i.work h.1, told_stays (body_of 0) es e m.entry i.body h.2, items_stay es e ms items h.3)
items_stay es e [] (i ∷ items) h = h
items_stay es e (m ∷ ms) [] h = h

pub enacted_stays : (es : List Entry) (e : Entry) (m : Option EnactedMark) (found : Option (ℕ × Act)) → EnactedStands es m found → EnactedStands (es ++ e ∷ []) m found
enacted_stays es e None None h = tt
enacted_stays es e (Some m) (Some found) h = (h.0, told_stays act_of es e m.entry found.1 h.1)
enacted_stays es e None (Some found) h = h
enacted_stays es e (Some m) None h = h

pub id_stays : (es : List Entry) (e : Entry) (m : Option IdMark) (f : Option IdFacts) → IdStands es m f → IdStands (es ++ e ∷ []) m f
id_stays es e None None h = tt
id_stays es e (Some m) (Some f) h =
    (told_stays work_named es e m.recorded f.work h.0, told_stays (body_of m.place) es e m.entry f.body h.1, h.2)
id_stays es e None (Some f) h = h
id_stays es e (Some m) None h = h

-- a request
request_stays : (es : List Entry) (e : Entry) (m : Option RequestMark) (found : Option (Entry × Reply)) → RequestStands es m found
    → RequestStands (es ++ e ∷ []) m (option_or found None)
request_stays es e None None h = tt
request_stays es e (Some m) (Some found) h = (entry_stays es e m.entry found.0 h.0, h.1)
request_stays es e None (Some found) h = h
request_stays es e (Some m) None h = h

request_case : (es : List Entry) (e : Entry) (mine : Bool) (m : RequestMark) (old : Option RequestMark) (found : Option (Entry × Reply)) (reply : Reply)
    → RequestStands es old found → (mine ≡ true → found ≡ None) → m.entry ≡ length es → (mine ≡ true → m.reply ≡ reply)
    → RequestStands (es ++ e ∷ []) (cond mine (Some m) old) (option_or found (found_here mine e reply))
request_case es e false m old found reply h new at is = request_stays es e old found h
request_case es e true m old found reply h new at is =
    let P : Option (Entry × Reply) → Type 0 = λ f. RequestStands (es ++ e ∷ []) (Some m) (option_or f (Some (e, reply))) in
    subst P (sym (new refl)) (ap (slice_get (es ++ e ∷ [])) at ∙ entry_last es e, is refl)

pub request_step : (es : List Entry) (e : Entry) (m : RequestMark) (old new : List ℕ → ℕ → Option RequestMark)
    → ((d : List ℕ) (r : ℕ) → RequestStands es (old d r) (request_of es d r))
    → request_of es e.drafter e.request ≡ None → m.entry ≡ length es → m.reply ≡ reply_to es e.drafter e.command
    → ((d : List ℕ) (r : ℕ) → new d r ≡ cond (bytes_eq e.drafter d && (e.request == r)) (Some m) (old d r))
    → (d : List ℕ) (r : ℕ) → RequestStands (es ++ e ∷ []) (new d r) (request_of (es ++ e ∷ []) d r)
request_step es e m old new stands none at reply put d r =
    let mine : Bool = is_by d e && (e.request == r) in
    let drafter : mine ≡ true → e.drafter ≡ d = λ h. bytes_same e.drafter d (left_true (bytes_eq e.drafter d) (e.request == r) h) in
    let number : mine ≡ true → e.request ≡ r = λ h. number_same e.request r (right_true (bytes_eq e.drafter d) (e.request == r) h) in
    let fresh : mine ≡ true → request_of es d r ≡ None = λ h.
    ap (λ x. request_of es x r) (sym (drafter h)) ∙ ap (request_of es e.drafter) (sym (number h)) ∙ none in
    let P : Option RequestMark → Type 0 = λ k. RequestStands (es ++ e ∷ []) k (request_of (es ++ e ∷ []) d r) in
    let Q : Option (Entry × Reply) → Type 0 = λ f. RequestStands (es ++ e ∷ []) (cond mine (Some m) (old d r)) f in
    subst P (sym (put d r))
    (subst Q (sym (request_more d r es e))
    (request_case es e mine m (old d r) (request_of es d r) (reply_to es d e.command) (stands d r) fresh at (λ h. reply ∙ ap (λ x. reply_to es x e.command) (drafter h))))

-- a draft
items_push : (es : List Entry) (ms : List ItemMark) (items : List DraftItem) (m : ItemMark) (i : DraftItem)
    → ItemsStand es ms items → m.item ≡ i.item → told_at es m.entry work_named ≡ Some i.work → told_at es m.entry (body_of 0) ≡ Some i.body
    → ItemsStand es (ms ++ m ∷ []) (items ++ i ∷ [])
items_push es [] [] m i h number work body = (number, work, body, tt)
items_push es (k ∷ ms) (j ∷ items) m i h number work body = (h.0, h.1, h.2, items_push es ms items m i h.3 number work body)
items_push es [] (j ∷ items) m i h number work body = absurd h
items_push es (k ∷ ms) [] m i h number work body = absurd h

items_but_stand : (w : List ℕ) (es : List Entry) (ms : List ItemMark) (items : List DraftItem) → ItemsStand es ms items
    → ItemsStand es (filter (λ m. not (marks_work es w m)) ms) (items_but w items)
items_but_stand w es ms items h = items_filter (λ m. not (marks_work es w m)) (λ i. not (bytes_eq i.work w)) es ms items (λ m i number work. ap not (mark_works w es m i work)) h

items_step : (es : List Entry) (e : Entry) (number : ℕ) (c : Command) (ms : List ItemMark) (items : List DraftItem) → e.command ≡ c → ItemsStand es ms items
    → ItemsStand (es ++ e ∷ []) (items_after es (length es) number c ms) (redrafted number c items)
items_step es e number (DraftAdd work body) ms items is h =
    items_push (es ++ e ∷ []) ms items (record { item = number; entry = length es }) (record { item = number; work = work; body = body })
    (items_stay es e ms items h) refl (told_last work_named es e ∙ ap work_named is) (told_last (body_of 0) es e ∙ ap (body_of 0) is)
items_step es e number (DraftDrop item) ms items is h =
    items_stay es e (filter (λ m. not (m.item == item)) ms) (filter (λ i. not (i.item == item)) items)
    (items_filter (λ m. not (m.item == item)) (λ i. not (i.item == item)) es ms items (λ m i same work. ap (λ n. not (n == item)) same) h)
items_step es e number (File work seen) ms items is h =
    items_stay es e (filter (λ m. not (marks_work es work m)) ms) (items_but work items) (items_but_stand work es ms items h)
items_step es e number (Enact act) ms items is h = items_stay es e ms items h
items_step es e number (Record work mods) ms items is h = items_stay es e ms items h
items_step es e number (Correct id body) ms items is h = items_stay es e ms items h
items_step es e number (Withdraw id) ms items is h = items_stay es e ms items h
items_step es e number (Restore id) ms items is h = items_stay es e ms items h

draft_case : (es : List Entry) (e : Entry) (own : Bool) (old new : Option DrafterMark) (count : ℕ) (items : List DraftItem) → DraftStands es old count items
    → added_of new ≡ cond own (added_of old + additions e.command) (added_of old)
    → items_in new ≡ cond own (items_after es (length es) (added_of old + 1) e.command (items_in old)) (items_in old)
    → DraftStands (es ++ e ∷ []) new (count + cond own (additions e.command) 0) (cond own (redrafted (count + 1) e.command items) items)
draft_case es e true old new count items h added put =
    let P : List ItemMark → Type 0 = λ ms. ItemsStand (es ++ e ∷ []) ms (redrafted (count + 1) e.command items) in
    let Q : ℕ → Type 0 = λ n. ItemsStand (es ++ e ∷ []) (items_after es (length es) (n + 1) e.command (items_in old)) (redrafted (count + 1) e.command items) in
    record {
      added = added ∙ ap (λ n. n + additions e.command) h.added;
      items = subst P (sym put) (subst Q (sym h.added) (items_step es e (count + 1) e.command (items_in old) items refl h.items));
    }
draft_case es e false old new count items h added put =
    let P : List ItemMark → Type 0 = λ ms. ItemsStand (es ++ e ∷ []) ms items in
    record {
      added = added ∙ h.added ∙ plus_nothing count;
      items = subst P (sym put) (items_stay es e (items_in old) items h.items);
    }
  where
    plus_nothing : (n : ℕ) → n ≡ n + 0
    plus_nothing n = omega arith

pub draft_step : (es : List Entry) (e : Entry) (d : List ℕ) (old new : Option DrafterMark)
    → DraftStands es old (added d es) (draft_of d es)
    → added_of new ≡ cond (bytes_eq e.drafter d) (added_of old + additions e.command) (added_of old)
    → items_in new ≡ cond (bytes_eq e.drafter d) (items_after es (length es) (added_of old + 1) e.command (items_in old)) (items_in old)
    → DraftStands (es ++ e ∷ []) new (added d (es ++ e ∷ [])) (draft_of d (es ++ e ∷ []))
draft_step es e d old new h count put =
    let P : ℕ → Type 0 = λ n. DraftStands (es ++ e ∷ []) new n (draft_of d (es ++ e ∷ [])) in
    let Q : List DraftItem → Type 0 = λ items. DraftStands (es ++ e ∷ []) new (added d es + cond (is_by d e) (additions e.command) 0) items in
    subst P (sym (added_more d es e)) (subst Q (sym (draft_more d es e)) (draft_case es e (bytes_eq e.drafter d) old new (added d es) (draft_of d es) h count put))

-- the drafters
any_last : (p : List ℕ → Bool) (xs : List (List ℕ)) (x : List ℕ) → list_any p (xs ++ x ∷ []) ≡ list_any p xs || p x
any_last p [] x = either (p x)
  where
    either : (b : Bool) → b || false ≡ b
    either true = refl
    either false = refl
any_last p (y ∷ xs) x = ap (λ b. p y || b) (any_last p xs x) ∙ assoc (p y) (list_any p xs) (p x)
  where
    assoc : (a b c : Bool) → a || (b || c) ≡ (a || b) || c
    assoc true b c = refl
    assoc false b c = refl

any_same : (a b : List ℕ) (xs : List (List ℕ)) → a ≡ b → list_any (bytes_eq a) xs ≡ list_any (bytes_eq b) xs
any_same a b xs e = ap (λ x. list_any (bytes_eq x) xs) e

pub drafters_step : (es : List Entry) (e : Entry) (d : List ℕ) (old new : Bool)
    → old ≡ list_any (bytes_eq d) (drafters es) → new ≡ bytes_eq e.drafter d || old
    → new ≡ list_any (bytes_eq d) (drafters (es ++ e ∷ []))
drafters_step es e d old new h put =
    put ∙ ap (λ b. bytes_eq e.drafter d || b) h
    ∙ by (list_any (bytes_eq e.drafter) (drafters es)) refl (bytes_eq e.drafter d) refl
    ∙ sym (ap (list_any (bytes_eq d)) (drafters_more es e))
  where
    swap : (a b : Bool) → a || b ≡ b || a
    swap true true = refl
    swap true false = refl
    swap false true = refl
    swap false false = refl

    by : (seen : Bool) → list_any (bytes_eq e.drafter) (drafters es) ≡ seen → (own : Bool) → bytes_eq e.drafter d ≡ own
        → own || list_any (bytes_eq d) (drafters es) ≡ list_any (bytes_eq d) (cond seen (drafters es) (drafters es ++ e.drafter ∷ []))
    by true is true mine = sym (any_same d e.drafter (drafters es) (sym (bytes_same e.drafter d mine)) ∙ is)
    by true is false mine = refl
    by false is own mine =
        swap own (list_any (bytes_eq d) (drafters es))
        ∙ ap (λ b. list_any (bytes_eq d) (drafters es) || b) (sym mine ∙ bytes_either e.drafter d)
        ∙ sym (any_last (bytes_eq d) (drafters es) e.drafter)

with_drafter_has : (d : List ℕ) (seen : List (List ℕ)) → list_any (bytes_eq d) (with_drafter d seen) ≡ true
with_drafter_has d seen = by (list_any (bytes_eq d) seen) refl
  where
    with_true : (b : Bool) → b || true ≡ true
    with_true true = refl
    with_true false = refl

    by : (b : Bool) → list_any (bytes_eq d) seen ≡ b → list_any (bytes_eq d) (cond b seen (seen ++ d ∷ [])) ≡ true
    by true has = has
    by false none = any_last (bytes_eq d) seen d ∙ ap (λ b. list_any (bytes_eq d) seen || b) (bytes_are d d refl) ∙ with_true (list_any (bytes_eq d) seen)

-- who sent the last entry is one of the drafters
pub last_is_drafter : (es : List Entry) (d : List ℕ) → IsOfLast es d → list_any (bytes_eq d) (drafters es) ≡ true
last_is_drafter es d (e, is, of) =
    let front = slice_range es 0 (length es - 1) in
    let split = split_last es e is (omega (arith, slice_get_within es (length es - 1) e is)) in
    ap (λ (l : List Entry). list_any (bytes_eq d) (drafters l)) split ∙ ap (list_any (bytes_eq d)) (drafters_more front e)
    ∙ ap (λ (w : List ℕ). list_any (bytes_eq d) (with_drafter w (drafters front))) of ∙ with_drafter_has d (drafters front)

pub count_step : (es : List Entry) (e : Entry) (old new : ℕ) (had : Bool) → old ≡ length (drafters es) → had ≡ list_any (bytes_eq e.drafter) (drafters es)
    → new ≡ old + cond had 0 1 → new ≡ length (drafters (es ++ e ∷ []))
count_step es e old new had h is put =
    put ∙ ap (λ n. n + cond had 0 1) h ∙ ap (λ b. length (drafters es) + cond b 0 1) is
    ∙ by (list_any (bytes_eq e.drafter) (drafters es)) ∙ sym (ap length (drafters_more es e))
  where
    by : (seen : Bool) → length (drafters es) + cond seen 0 1 ≡ length (cond seen (drafters es) (drafters es ++ e.drafter ∷ []))
    by true = omega arith
    by false = omega (arith, length-append (drafters es) (e.drafter ∷ []))
