-- The limits that a legal register keeps, and the numbers of an entry that is accepted.
use Rattle.std.proofs.Common.{◌≡◌, ◌∙◌, sym, ap, subst, ℕ, ◌+◌, ◌≤◌, ◌<◌, ◌==◌, nat_le, nat_lt, Bool, true, false, cond, ◌&&◌, ◌||◌, not, List, [], ◌∷◌, ◌++◌, length, filter, map, None, refl, arith}
use Rattle.std.proofs.lemmas.List.{append-nil, length-append, length-map}
use Rattle.std.proofs.lemmas.Bool.Decides.{nat_tests}
use Rattle.std.specs.Str.{bytes_eq}
use Rattle.law_register.specs.declared.law.command.Command.{Command}
use Rattle.law_register.specs.declared.law.command.Command.TheVariants.{Enact, Record, Correct, Withdraw, Restore, DraftAdd, DraftDrop, File}
use Rattle.law_register.specs.declared.register.draft.DraftItem.{DraftItem}
use Rattle.law_register.specs.declared.register.entry.Entry.{Entry}
use Rattle.law_register.specs.declared.register.limits.TheConstants.{MOST_DRAFT_ITEMS, MOST_IDS, MOST_ENTRY_BYTES, MOST_REGISTER_BYTES}
use Rattle.law_register.specs.declared.register.indexes.Indexes.{Indexes}
use Rattle.law_register.specs.declared.law.modification.Modification.{Modification}
use Rattle.law_register.specs.declared.register.rules.Rule.TheVariants.{BadModification, DraftFull, WorkFull}
use Rattle.textual_mods.specs.declared.fitting.TheConstants.{MAX_ITEMS}
use Rattle.law_register.specs.Register.Drafts.{is_by, additions, added, redrafted, draft_of, items_of}
use Rattle.law_register.specs.Register.Indexes.{items_in, drafter_mark}
use Rattle.law_register.specs.Register.KnownIds.{ids_of, ids_recorded}
use Rattle.law_register.specs.Register.LawList.{law_command, laws}
use Rattle.law_register.specs.Register.Marks.{mods_of, CanNote}
use Rattle.law_register.specs.Register.Registers.{IsKept}
use Rattle.law_register.specs.Law.Sizes.{size_of, entries_size}
use Rattle.law_register.specs.Register.Verdicts as v
use Rattle.law_register.specs.Register.Verdicts.{broken_where, is_legal}
use Rattle.law_register.proofs.IdSteps.{recorded_count}
use Rattle.law_register.proofs.Legal.{first_kept, not_broken, IsNew, kept_rules, legally, legal_size, legal_front, legal_added}
use Rattle.law_register.proofs.Lookups.{items_length}
use Rattle.law_register.proofs.Puts.{bytes_same}
use Rattle.law_register.proofs.Snoc.{draft_more, laws_more, ids_more}
use Rattle.law_register.proofs.Steps.{last_is_drafter}

at_most : (m n : ℕ) → nat_lt m n ≡ false → n ≤ m
at_most m n h = grind (arith, nat_tests)

less_than : (m n : ℕ) → nat_le m n ≡ false → n < m
less_than m n h = grind (arith, nat_tests)

-- a draft
pub filter_few : {X : Type 0} (p : X → Bool) (xs : List X) → length (filter p xs) ≤ length xs
filter_few p [] = omega arith
filter_few p (x ∷ xs) = by (p x) (filter_few p xs)
  where
    by : (b : Bool) → length (filter p xs) ≤ length xs → length (cond b (x ∷ filter p xs) (filter p xs)) ≤ length (x ∷ xs)
    by true h = omega arith
    by false h = omega arith

draft_fits : (number : ℕ) (c : Command) (items : List DraftItem) → v.draft_full items c ≡ None → length items ≤ 64 → length items + additions c ≤ 64
draft_fits number (DraftAdd work body) items kept h =
    let less = less_than 64 (length items) (not_broken (nat_le 64 (length items)) (DraftFull MOST_DRAFT_ITEMS) kept) in
    omega (arith, less)
draft_fits number (DraftDrop item) items kept h = omega arith
draft_fits number (File work seen) items kept h = omega arith
draft_fits number (Enact act) items kept h = omega arith
draft_fits number (Record work mods) items kept h = omega arith
draft_fits number (Correct id body) items kept h = omega arith
draft_fits number (Withdraw id) items kept h = omega arith
draft_fits number (Restore id) items kept h = omega arith

redrafted_few : (number : ℕ) (c : Command) (items : List DraftItem) → length (redrafted number c items) ≤ length items + additions c
redrafted_few number (DraftAdd work body) items = omega (arith, length-append items (record { item = number; work = work; body = body } ∷ []))
redrafted_few number (DraftDrop item) items = omega (arith, filter_few (λ (i : DraftItem). not (i.item == item)) items)
redrafted_few number (File work seen) items = omega (arith, filter_few (λ (i : DraftItem). not (bytes_eq i.work work)) items)
redrafted_few number (Enact act) items = omega arith
redrafted_few number (Record work mods) items = omega arith
redrafted_few number (Correct id body) items = omega arith
redrafted_few number (Withdraw id) items = omega arith
redrafted_few number (Restore id) items = omega arith

abbrev pub DraftFits : List ℕ → List Entry → Type 0
DraftFits d es = length (draft_of d es) ≤ 64

pub draft_step : (d : List ℕ) (es : List Entry) (e : Entry) → DraftFits d es → IsNew es e.drafter e.request e.command e.law → DraftFits d (es ++ e ∷ [])
draft_step d es e h new = subst (λ items. length items ≤ 64) (sym (draft_more d es e)) (by (is_by d e) refl)
  where
    by : (own : Bool) → is_by d e ≡ own → length (cond own (redrafted (added d es + 1) e.command (draft_of d es)) (draft_of d es)) ≤ 64
    by false is = h
    by true is =
        let mine : e.drafter ≡ d = bytes_same e.drafter d is in
        let kept : v.draft_full (draft_of d es) e.command ≡ None =
        subst (λ x. v.draft_full (draft_of x es) e.command ≡ None) mine (kept_rules es e.drafter e.command new.kept).draft in
        omega (arith, draft_fits 0 e.command (draft_of d es) kept h, redrafted_few (added d es + 1) e.command (draft_of d es))

pub legal_draft : (d : List ℕ) (es : List Entry) → is_legal es ≡ true → length (draft_of d es) ≤ 64
legal_draft d es h = legally (DraftFits d) (draft_step d) (omega arith) es h

-- the ids of a work
abbrev IdsFit : List ℕ → List Entry → Type 0
IdsFit w es = length (ids_of w (laws es)) ≤ 512

one_more : (w : List ℕ) (ls : List Command) (l : Command) (n : ℕ) → length (ids_of w ls) + n ≤ 512 → length (ids_recorded (length ls + 1) w l) ≤ n → length (ids_of w (ls ++ l ∷ [])) ≤ 512
one_more w ls l n h few = omega (arith, ap length (ids_more w ls l), length-append (ids_of w ls) (ids_recorded (length ls + 1) w l))

record_fits : (w other : List ℕ) (ls : List Command) (mods : List Modification) → v.full_with ls other (length mods) ≡ None → length (ids_of w ls) ≤ 512
    → length (ids_of w (ls ++ Record other mods ∷ [])) ≤ 512
record_fits w other ls mods kept h = by (bytes_eq other w) refl
  where
    by : (own : Bool) → bytes_eq other w ≡ own → length (ids_of w (ls ++ Record other mods ∷ [])) ≤ 512
    by true is =
        let same : other ≡ w = bytes_same other w is in
        let room = at_most 512 (length (ids_of other ls) + length mods) (not_broken (nat_lt 512 (length (ids_of other ls) + length mods)) (WorkFull MOST_IDS) kept) in
        let here : length (ids_of w ls) + length mods ≤ 512 = subst (λ x. length (ids_of x ls) + length mods ≤ 512) same room in
        one_more w ls (Record other mods) (length mods) here (omega (arith, recorded_count (length ls + 1) w other mods ∙ ap (λ b. cond b (length mods) 0) is))
    by false is =
        one_more w ls (Record other mods) 0 (omega arith) (omega (arith, recorded_count (length ls + 1) w other mods ∙ ap (λ b. cond b (length mods) 0) is))

law_fits : (w : List ℕ) (ls : List Command) (draft : List DraftItem) (c : Command) → v.work_full ls draft c ≡ None → length (ids_of w ls) ≤ 512
    → length (ids_of w (ls ++ law_command draft c)) ≤ 512
law_fits w ls draft (DraftAdd work body) kept h = subst (λ l. length (ids_of w l) ≤ 512) (sym (append-nil ls)) h
law_fits w ls draft (DraftDrop item) kept h = subst (λ l. length (ids_of w l) ≤ 512) (sym (append-nil ls)) h
law_fits w ls draft (Record other mods) kept h = record_fits w other ls mods kept h
law_fits w ls draft (File other seen) kept h =
    let bodies = map (λ (i : DraftItem). i.body) (items_of other draft) in
    record_fits w other ls bodies (ap (v.full_with ls other) (length-map (items_of other draft) (λ (i : DraftItem). i.body)) ∙ kept) h
law_fits w ls draft (Enact act) kept h = one_more w ls (Enact act) 0 (omega arith) (omega arith)
law_fits w ls draft (Correct id body) kept h = one_more w ls (Correct id body) 0 (omega arith) (omega arith)
law_fits w ls draft (Withdraw id) kept h = one_more w ls (Withdraw id) 0 (omega arith) (omega arith)
law_fits w ls draft (Restore id) kept h = one_more w ls (Restore id) 0 (omega arith) (omega arith)

ids_step : (w : List ℕ) (es : List Entry) (e : Entry) → IdsFit w es → IsNew es e.drafter e.request e.command e.law → IdsFit w (es ++ e ∷ [])
ids_step w es e h new =
    subst (λ l. length (ids_of w l) ≤ 512) (sym (laws_more es e))
    (law_fits w (laws es) (draft_of e.drafter es) e.command (kept_rules es e.drafter e.command new.kept).work h)

pub legal_ids : (w : List ℕ) (es : List Entry) → is_legal es ≡ true → length (ids_of w (laws es)) ≤ 512
legal_ids w es h = legally (IdsFit w) (ids_step w) (omega arith) es h

-- a record that is accepted
pub few_mods : (c : Command) → v.bad_modification c ≡ None → length (mods_of c) ≤ 64
few_mods (Record work mods) kept = by (nat_lt 0 (length mods)) (nat_le (length mods) 64) refl (not_broken _ (BadModification 0) (first_kept (broken_where (not (nat_lt 0 (length mods) && nat_le (length mods) MAX_ITEMS)) (BadModification 0)) _ kept))
  where
    by : (a b : Bool) → nat_le (length mods) 64 ≡ b → not (a && b) ≡ false → length mods ≤ 64
    by a true is h = grind (arith, nat_tests)
    by true false is h = absurd (let never : true ≡ false = h in cc)
    by false false is h = absurd (let never : true ≡ false = h in cc)
few_mods (Enact act) kept = omega arith
few_mods (Correct id body) kept = omega arith
few_mods (Withdraw id) kept = omega arith
few_mods (Restore id) kept = omega arith
few_mods (DraftAdd work body) kept = omega arith
few_mods (DraftDrop item) kept = omega arith
few_mods (File work seen) kept = omega arith

-- the size of an entry that is accepted
first_false : (a b : Bool) → a || b ≡ false → a ≡ false
first_false true b h = h
first_false false b h = refl

pub small_entry : (es : List Entry) (d : List ℕ) (c : Command) → v.register_full es d c ≡ None → size_of d c ≤ 16777216
small_entry es d c kept =
    at_most MOST_ENTRY_BYTES (size_of d c)
    (first_false (nat_lt MOST_ENTRY_BYTES (size_of d c)) (nat_lt MOST_REGISTER_BYTES (entries_size es + size_of d c))
    (not_broken (nat_lt MOST_ENTRY_BYTES (size_of d c) || nat_lt MOST_REGISTER_BYTES (entries_size es + size_of d c)) _ kept))

-- whoever sent the last entry has a mark, and all numbers of an accepted entry stay within their types
pub can_note : (ix : Indexes) (es : List Entry) (e : Entry) → IsKept ix es → IsNew es e.drafter e.request e.command e.law → CanNote ix es e
can_note ix es e kept new =
    let rules = kept_rules es e.drafter e.command new.kept in
    let draft = kept.stands.drafts e.drafter in
    let size = small_entry es e.drafter e.command rules.register in
    record {
      last = λ d last. kept.stands.present d ∙ last_is_drafter es d last;
      front = omega (arith, kept.stands.front, legal_front es kept.legal);
      size = omega (arith, kept.stands.size, legal_size es kept.legal, size);
      ids = λ w. omega (arith, (kept.stands.works w).ids, legal_ids w es kept.legal);
      items = omega (
        arith,
        items_length es (items_in (drafter_mark ix e.drafter)) (draft_of e.drafter es) draft.items,
        draft_fits 0 e.command (draft_of e.drafter es) rules.draft (legal_draft e.drafter es kept.legal),
      );
      added = omega (arith, draft.added, legal_added e.drafter es kept.legal);
      mods = few_mods e.command rules.modification;
    }
