-- What is listed of the ids of a work is what is known of them.
use Rattle.std.proofs.Common.{◌≡◌, ◌∙◌, sym, ap, subst, ℕ, zero, suc, ◌+◌, ◌≤◌, ◌==◌, Bool, true, false, cond, List, [], ◌∷◌, ◌++◌, length, map, slice_get, Option, Some, None, option_map, refl, arith}
use Rattle.std.proofs.lemmas.List.{length-map}
use Rattle.std.specs.Str.{bytes_eq}
use Rattle.desk_base.specs.declared.id.Id.{Id}
use Rattle.law_register.specs.declared.law.command.Command.{Command}
use Rattle.law_register.specs.declared.law.command.Command.TheVariants.{Enact, Record, Correct, Withdraw, Restore, DraftAdd, DraftDrop, File}
use Rattle.law_register.specs.declared.register.draft.DraftItem.{DraftItem}
use Rattle.law_register.specs.declared.register.entry.Entry.{Entry}
use Rattle.law_register.specs.declared.register.indexes.IdMark.{IdMark}
use Rattle.law_register.specs.declared.register.standing.Standing.TheVariants.{Live, Withdrawn}
use Rattle.law_register.specs.declared.law.modification.Modification.{Modification}
use Rattle.law_register.specs.Answer.Counted.{is_same_id}
use Rattle.law_register.specs.Register.Drafts.{draft_of, items_of}
use Rattle.law_register.specs.Register.Indexes.{IdStands}
use Rattle.law_register.specs.Register.KnownIds.{IdFacts, item_at, first_facts, facts_after, facts_of, ids_from_item, ids_recorded, ids_of, known_as, known_ids}
use Rattle.law_register.specs.Register.LawList.{law_command, law_of, laws}
use Rattle.law_register.specs.Register.Listing.{own_facts, known_told, known_mark, known_marks}
use Rattle.law_register.specs.Register.Verdicts.{bad_modification, is_legal}
use Rattle.law_register.specs.Register.Concerns.{is_of}
use Rattle.law_register.proofs.IdSteps.{fresh, item_at_suc}
use Rattle.law_register.proofs.Legal.{IsNew, kept_rules, legally}
use Rattle.law_register.proofs.Limits.{DraftFits, few_mods, filter_few, draft_step}
use Rattle.law_register.proofs.Lists.{by_last}
use Rattle.law_register.proofs.Puts.{number_is, number_same}
use Rattle.law_register.proofs.Snoc.{laws_more, facts_more, ids_more}

-- each of these ids is recorded in a work
abbrev pub AreOf : List ℕ → List Command → List Id → Type 0
AreOf w L [] = Unit {0}
AreOf w L (id ∷ ids) = (is_of w (facts_of id L) ≡ true) × AreOf w L ids

all_of : (w : List ℕ) (L : List Command) (a b : List Id) → AreOf w L a → AreOf w L b → AreOf w L (a ++ b)
all_of w L [] b h i = i
all_of w L (id ∷ a) b h i = (h.0, all_of w L a b h.1 i)

-- later law entries leave it so
changed_still : (w : List ℕ) (b : Bool) (f : Option IdFacts) (g : IdFacts → IdFacts) → ((x : IdFacts) → (g x).work ≡ x.work) → is_of w f ≡ true → is_of w (cond b (option_map g f) f) ≡ true
changed_still w false f g same h = h
changed_still w true None g same h = h
changed_still w true (Some x) g same h = ap (λ k. bytes_eq k w) (same x) ∙ h

still_of : (w : List ℕ) (ls : List Command) (l : Command) (id : Id) → is_of w (facts_of id ls) ≡ true → is_of w (facts_after id (length ls + 1) l (facts_of id ls)) ≡ true
still_of w ls (Record other mods) id h = by (id.law == length ls + 1) refl
  where
    by : (b : Bool) → (id.law == length ls + 1) ≡ b → is_of w (cond b (first_facts other (item_at id.item mods)) (facts_of id ls)) ≡ true
    by false is = h
    by true is =
        let none : is_of w (facts_of id ls) ≡ false = ap (is_of w) (fresh id ls (number_same id.law (length ls + 1) is)) in
        absurd (let no : false ≡ true = sym none ∙ h in cc)
still_of w ls (Correct other body) id h = changed_still w (is_same_id other id) (facts_of id ls) (λ x. record x { body = body }) (λ x. refl) h
still_of w ls (Withdraw other) id h = changed_still w (is_same_id other id) (facts_of id ls) (λ x. record x { standing = Withdrawn (length ls + 1) }) (λ x. refl) h
still_of w ls (Restore other) id h = changed_still w (is_same_id other id) (facts_of id ls) (λ x. record x { standing = Live }) (λ x. refl) h
still_of w ls (Enact act) id h = h
still_of w ls (DraftAdd work body) id h = h
still_of w ls (DraftDrop item) id h = h
still_of w ls (File work seen) id h = h

all_still : (w : List ℕ) (ls : List Command) (l : Command) (ids : List Id) → AreOf w ls ids → AreOf w (ls ++ l ∷ []) ids
all_still w ls l [] h = tt
all_still w ls l (id ∷ ids) h = (ap (is_of w) (facts_more id ls l) ∙ still_of w ls l id h.0, all_still w ls l ids h.1)

-- and so are those of a new one
item_here : (w other : List ℕ) (mods : List Modification) (ls : List Command) (k : ℕ) (m : Modification) → bytes_eq other w ≡ true → slice_get mods k ≡ Some m
    → is_of w (facts_of (record { law = length ls + 1; item = k + 1 }) (ls ++ Record other mods ∷ [])) ≡ true
item_here w other mods ls k m own at =
    let id : Id = record { law = length ls + 1; item = k + 1 } in
    ap (is_of w) (facts_more id ls (Record other mods)
    ∙ ap (λ b. cond b (first_facts other (item_at (k + 1) mods)) (facts_of id ls)) (number_is (length ls + 1) (length ls + 1) refl)
    ∙ ap (first_facts other) (ap (λ n. item_at n mods) (later k) ∙ item_at_suc k mods ∙ at))
    ∙ own
  where
    later : (n : ℕ) → n + 1 ≡ suc n
    later n = omega arith

items_here : (w other : List ℕ) (mods : List Modification) (ls : List Command) (k : ℕ) (ms : List Modification) → bytes_eq other w ≡ true
    → ((j : ℕ) → slice_get mods (k + j) ≡ slice_get ms j) → AreOf w (ls ++ Record other mods ∷ []) (ids_from_item (length ls + 1) (k + 1) ms)
items_here w other mods ls k [] own same = tt
items_here w other mods ls k (m ∷ ms) own same = (
  item_here w other mods ls k m own (ap (slice_get mods) (here k) ∙ same 0),
  items_here w other mods ls (k + 1) ms own (λ j. ap (slice_get mods) (later k j) ∙ same (suc j)),
)
  where
    here : (n : ℕ) → n ≡ n + 0
    here n = omega arith

    later : (n j : ℕ) → n + 1 + j ≡ n + suc j
    later n j = omega arith

new_of : (w : List ℕ) (ls : List Command) (l : Command) → AreOf w (ls ++ l ∷ []) (ids_recorded (length ls + 1) w l)
new_of w ls (Record other mods) = by (bytes_eq other w) refl
  where
    nothing_plus : (n : ℕ) → 0 + n ≡ n
    nothing_plus n = omega arith

    by : (b : Bool) → bytes_eq other w ≡ b → AreOf w (ls ++ Record other mods ∷ []) (cond b (ids_from_item (length ls + 1) 1 mods) [])
    by false is = tt
    by true is = items_here w other mods ls 0 mods is (λ j. ap (slice_get mods) (nothing_plus j))
new_of w ls (Enact act) = tt
new_of w ls (Correct id body) = tt
new_of w ls (Withdraw id) = tt
new_of w ls (Restore id) = tt
new_of w ls (DraftAdd work body) = tt
new_of w ls (DraftDrop item) = tt
new_of w ls (File work seen) = tt

are_of_more : (w : List ℕ) (ls : List Command) (l : Command) → AreOf w ls (ids_of w ls) → AreOf w (ls ++ l ∷ []) (ids_of w (ls ++ l ∷ []))
are_of_more w ls l h =
    subst (AreOf w (ls ++ l ∷ [])) (sym (ids_more w ls l))
    (all_of w (ls ++ l ∷ []) (ids_of w ls) (ids_recorded (length ls + 1) w l) (all_still w ls l (ids_of w ls) h) (new_of w ls l))

pub are_of : (w : List ℕ) (L : List Command) → AreOf w L (ids_of w L)
are_of w L = by_last (λ ls. AreOf w ls (ids_of w ls)) (are_of_more w) tt L

-- what marks list
mark_known : (es : List Entry) (id : Id) (m : Option IdMark) (f : Option IdFacts) → IdStands es m f → known_mark es id m ≡ known_as id f
mark_known es id None None h = refl
mark_known es id (Some m) (Some f) h = ap (known_told id m.standing) h.1 ∙ ap (λ standing. known_told id standing (Some f.body)) h.2
mark_known es id None (Some f) h = absurd h
mark_known es id (Some m) None h = absurd h

marks_known : (es : List Entry) (w : List ℕ) (L : List Command) (mark : Id → Option IdMark) (ids : List Id) → ((i : Id) → IdStands es (mark i) (own_facts w (facts_of i L))) → AreOf w L ids
    → known_marks es mark ids ≡ known_ids L ids
marks_known es w L mark [] stand h = refl
marks_known es w L mark (id ∷ ids) stand h =
    ap (λ a. a ++ known_marks es mark ids)
    (mark_known es id (mark id) (own_facts w (facts_of id L)) (stand id) ∙ ap (λ b. known_as id (cond b (facts_of id L) None)) h.0)
    ∙ ap (λ b. known_as id (facts_of id L) ++ b) (marks_known es w L mark ids stand h.1)

pub work_known : (es : List Entry) (w : List ℕ) (L : List Command) (mark : Id → Option IdMark) → ((i : Id) → IdStands es (mark i) (own_facts w (facts_of i L)))
    → known_marks es mark (ids_of w L) ≡ known_ids L (ids_of w L)
work_known es w L mark stand = marks_known es w L mark (ids_of w L) stand (are_of w L)

-- records have no more than 64 modifications
abbrev pub FewRecords : List Command → Type 0
FewRecords ls = (k : ℕ) (w : List ℕ) (mods : List Modification) → slice_get ls k ≡ Some (Record w mods) → length mods ≤ 64

-- the records of a legal register
few_append : (a b : List Command) → FewRecords a → FewRecords b → FewRecords (a ++ b)
few_append [] b h i k w mods at = i k w mods at
few_append (x ∷ a) b h i zero w mods at = h 0 w mods at
few_append (x ∷ a) b h i (suc k) w mods at = few_append a b (λ j u ms there. h (suc j) u ms there) i k w mods at

few_one : (l : Command) → ((w : List ℕ) (mods : List Modification) → l ≡ Record w mods → length mods ≤ 64) → FewRecords (l ∷ [])
few_one l h zero w mods at = h w mods (let same : l ≡ Record w mods = cc in same)
few_one l h (suc k) w mods at = absurd (let no : None ≡ Some (Record w mods) = at in cc)

no_laws : FewRecords []
no_laws k w mods at = absurd (let no : None ≡ Some (Record w mods) = at in cc)

law_few : (draft : List DraftItem) (c : Command) → length draft ≤ 64 → bad_modification c ≡ None → FewRecords (law_command draft c)
law_few draft (DraftAdd work body) fits kept = no_laws
law_few draft (DraftDrop item) fits kept = no_laws
law_few draft (Record work mods) fits kept = few_one (Record work mods) (λ w ms is.
    let same : mods ≡ ms = cc in
    omega (arith, few_mods (Record work mods) kept, ap length same))
law_few draft (File work seen) fits kept =
    let bodies = map (λ (i : DraftItem). i.body) (items_of work draft) in
    few_one (Record work bodies) (λ w ms is.
    let same : bodies ≡ ms = cc in
    omega (arith, ap length same, length-map (items_of work draft) (λ (i : DraftItem). i.body), filter_few (λ (i : DraftItem). bytes_eq i.work work) draft))
law_few draft (Enact act) fits kept = few_one (Enact act) (λ w ms is. absurd (let no : Enact act ≡ Record w ms = is in cc))
law_few draft (Correct id body) fits kept = few_one (Correct id body) (λ w ms is. absurd (let no : Correct id body ≡ Record w ms = is in cc))
law_few draft (Withdraw id) fits kept = few_one (Withdraw id) (λ w ms is. absurd (let no : Withdraw id ≡ Record w ms = is in cc))
law_few draft (Restore id) fits kept = few_one (Restore id) (λ w ms is. absurd (let no : Restore id ≡ Record w ms = is in cc))

record AreFew (es : List Entry) : Type 0 where
  records : FewRecords (laws es)
  drafts : (d : List ℕ) → DraftFits d es

few_step : (es : List Entry) (e : Entry) → AreFew es → IsNew es e.drafter e.request e.command e.law → AreFew (es ++ e ∷ [])
few_step es e h new = record {
  records = subst FewRecords (sym (laws_more es e))
      (few_append (laws es) (law_of es e) h.records (law_few (draft_of e.drafter es) e.command (h.drafts e.drafter) (kept_rules es e.drafter e.command new.kept).modification));
  drafts = λ d. draft_step d es e (h.drafts d) new;
}

pub legal_records : (es : List Entry) → is_legal es ≡ true → FewRecords (laws es)
legal_records es h = (legally AreFew few_step (record { records = no_laws; drafts = λ d. omega arith }) es h).records
