-- What the modifications of a legal register are directed at is recorded, so none is directed at one that is yet to come.
use Rattle.std.proofs.Common.{◌≡◌, ◌∙◌, sym, ap, subst, ℕ, zero, suc, ◌+◌, ◌-◌, ◌==◌, Bool, true, false, cond, not, List, [], ◌∷◌, ◌++◌, length, map, Option, Some, None, is_some, option_map, refl}
use Rattle.std.proofs.lemmas.List.{append-nil}
use Rattle.std.specs.List.{AllByRecursion, filter}
use Rattle.std.specs.Prelude.{slice_get}
use Rattle.std.specs.Str.{bytes_eq}
use Rattle.desk_base.specs.declared.id.Id.{Id}
use Rattle.law_register.specs.declared.law.command.Command.{Command}
use Rattle.law_register.specs.declared.law.command.Command.TheVariants.{Enact, Record, Correct, Withdraw, Restore, DraftAdd, DraftDrop, File}
use Rattle.law_register.specs.declared.law.modification.Destination.{Destination}
use Rattle.law_register.specs.declared.law.modification.Destination.TheVariants as to
use Rattle.law_register.specs.declared.law.modification.Modification.{Modification}
use Rattle.law_register.specs.declared.law.modification.Modification.TheVariants.{Textual, Force, Efficacy}
use Rattle.law_register.specs.declared.register.draft.DraftItem.{DraftItem}
use Rattle.law_register.specs.declared.register.entry.Entry.{Entry}
use Rattle.law_register.specs.declared.register.known.KnownMod.{KnownMod}
use Rattle.law_register.specs.declared.register.standing.Standing.{Standing}
use Rattle.law_register.specs.declared.register.standing.Standing.TheVariants.{Live, Withdrawn}
use Rattle.law_register.specs.Answer.Counted.{is_same_id}
use Rattle.law_register.specs.Answer.Touched.{day_on, first_on, sooner}
use Rattle.law_register.specs.Register.Concerns.{is_of}
use Rattle.law_register.specs.Register.Drafts.{added, draft_of, is_by, items_of, redrafted}
use Rattle.law_register.specs.Register.KnownIds.{IdFacts, facts_after, facts_of, first_facts, item_at, known_as, known_ids}
use Rattle.law_register.specs.Register.LawList.{law_command, laws}
use Rattle.law_register.specs.Register.Rulebook.{first_item, unknown_destination, unknown_for, unknown_modification, unknown_thing}
use Rattle.law_register.specs.Register.Verdicts as v
use Rattle.law_register.specs.Register.Verdicts.{first_rule, is_legal}
use Rattle.law_register.proofs.IdSteps.{fresh}
use Rattle.law_register.proofs.Legal.{IsNew, first_kept, legally, not_broken, second_kept}
use Rattle.law_register.proofs.Puts.{id_same, number_same}
use Rattle.law_register.proofs.Snoc.{draft_more, facts_more, laws_more}

-- what a modification is directed at is recorded
abbrev IsThere : List Command → Destination → Type 0
IsThere ls (to.Node wid) = Unit {0}
IsThere ls (to.Modification id) = is_some (facts_of id ls) ≡ true

abbrev pub IsDirected : List Command → Modification → Type 0
IsDirected ls (Textual source force edit) = Unit {0}
IsDirected ls (Force source destination on effect) = IsThere ls destination
IsDirected ls (Efficacy source destination on effect) = IsThere ls destination

-- what is recorded stays so
some_after : (b : Bool) (g : IdFacts → IdFacts) (f : Option IdFacts) → is_some f ≡ true → is_some (cond b (option_map g f) f) ≡ true
some_after true g None h = absurd (let wrong : false ≡ true = h in cc)
some_after true g (Some f) h = refl
some_after false g f h = h

stays_after : (id : Id) (ls : List Command) (l : Command) → is_some (facts_of id ls) ≡ true → is_some (facts_after id (length ls + 1) l (facts_of id ls)) ≡ true
stays_after id ls (Record w ms) h = by (id.law == length ls + 1) refl
  where
    by : (b : Bool) → (id.law == length ls + 1) ≡ b → is_some (cond b (first_facts w (item_at id.item ms)) (facts_of id ls)) ≡ true
    by true is = absurd (let wrong : false ≡ true = sym (ap is_some (fresh id ls (number_same id.law (length ls + 1) is))) ∙ h in cc)
    by false is = h
stays_after id ls (Correct other body) h = some_after (is_same_id other id) (λ f. record f { body = body }) (facts_of id ls) h
stays_after id ls (Withdraw other) h = some_after (is_same_id other id) (λ f. record f { standing = Withdrawn (length ls + 1) }) (facts_of id ls) h
stays_after id ls (Restore other) h = some_after (is_same_id other id) (λ f. record f { standing = Live }) (facts_of id ls) h
stays_after id ls (Enact act) h = h
stays_after id ls (DraftAdd work body) h = h
stays_after id ls (DraftDrop item) h = h
stays_after id ls (File work seen) h = h

there_still : (ls : List Command) (l : Command) (d : Destination) → IsThere ls d → IsThere (ls ++ l ∷ []) d
there_still ls l (to.Node wid) h = tt
there_still ls l (to.Modification id) h = ap is_some (facts_more id ls l) ∙ stays_after id ls l h

directed_still : (ls : List Command) (l : Command) (m : Modification) → IsDirected ls m → IsDirected (ls ++ l ∷ []) m
directed_still ls l (Textual source force edit) h = tt
directed_still ls l (Force source destination on effect) h = there_still ls l destination h
directed_still ls l (Efficacy source destination on effect) h = there_still ls l destination h

-- the rule
named_some : (w : List ℕ) (f : Option IdFacts) → is_of w f ≡ true → is_some f ≡ true
named_some w None h = absurd (let wrong : false ≡ true = h in cc)
named_some w (Some f) h = refl

is_true : (b : Bool) → not b ≡ false → b ≡ true
is_true true h = refl
is_true false h = absurd (let wrong : true ≡ false = h in cc)

thing_there : (ls : List Command) (w : List ℕ) (d : Destination) → unknown_thing ls w d ≡ None → IsThere ls d
thing_there ls w (to.Node wid) h = tt
thing_there ls w (to.Modification id) h = named_some w (facts_of id ls) (is_true (is_of w (facts_of id ls)) (not_broken (not (is_of w (facts_of id ls))) _ h))

body_directed : (ls : List Command) (w : List ℕ) (m : Modification) → unknown_destination ls w m ≡ None → IsDirected ls m
body_directed ls w (Textual source force edit) h = tt
body_directed ls w (Force source destination on effect) h = thing_there ls w destination h
body_directed ls w (Efficacy source destination on effect) h = thing_there ls w destination h

mods_directed : (ls : List Command) (w : List ℕ) (n : ℕ) (ms : List Modification) → first_item (λ number m. unknown_destination ls w m) n ms ≡ None
    → AllByRecursion (IsDirected ls) ms
mods_directed ls w n [] h = tt
mods_directed ls w n (m ∷ ms) h = (
  body_directed ls w m (first_kept (unknown_destination ls w m) (first_item (λ number m. unknown_destination ls w m) (n + 1) ms) h),
  mods_directed ls w (n + 1) ms (second_kept (unknown_destination ls w m) (first_item (λ number m. unknown_destination ls w m) (n + 1) ms) h),
)

-- drafts
abbrev ItemsDirected : List Command → List DraftItem → Type 0
ItemsDirected ls items = AllByRecursion (λ i. IsDirected ls i.body) items

items_still : (ls : List Command) (l : Command) (items : List DraftItem) → ItemsDirected ls items → ItemsDirected (ls ++ l ∷ []) items
items_still ls l [] h = tt
items_still ls l (i ∷ items) h = (directed_still ls l i.body h.0, items_still ls l items h.1)

item_bodies : (ls : List Command) (items : List DraftItem) → ItemsDirected ls items → AllByRecursion (IsDirected ls) (map (λ (i : DraftItem). i.body) items)
item_bodies ls [] h = tt
item_bodies ls (i ∷ items) h = (h.0, item_bodies ls items h.1)

items_filtered : (ls : List Command) (p : DraftItem → Bool) (items : List DraftItem) → ItemsDirected ls items → ItemsDirected ls (filter p items)
items_filtered ls p [] h = tt
items_filtered ls p (i ∷ items) h = by (p i) (items_filtered ls p items h.1)
  where
    by : (b : Bool) → ItemsDirected ls (filter p items) → ItemsDirected ls (cond b (i ∷ filter p items) (filter p items))
    by true rest = (h.0, rest)
    by false rest = rest

items_pushed : (ls : List Command) (items : List DraftItem) (i : DraftItem) → ItemsDirected ls items → IsDirected ls i.body → ItemsDirected ls (items ++ i ∷ [])
items_pushed ls [] i h k = (k, tt)
items_pushed ls (x ∷ items) i h k = (h.0, items_pushed ls items i h.1 k)

redrafted_directed : (ls : List Command) (draft : List DraftItem) (number : ℕ) (c : Command) (items : List DraftItem) → unknown_modification ls draft c ≡ None
    → ItemsDirected ls items → ItemsDirected ls (redrafted number c items)
redrafted_directed ls draft number (DraftAdd work body) items kept h =
    items_pushed ls items (record { item = number; work = work; body = body }) h (body_directed ls work body kept)
redrafted_directed ls draft number (DraftDrop item) items kept h = items_filtered ls (λ i. not (i.item == item)) items h
redrafted_directed ls draft number (File work seen) items kept h = items_filtered ls (λ i. not (bytes_eq i.work work)) items h
redrafted_directed ls draft number (Enact act) items kept h = h
redrafted_directed ls draft number (Record work mods) items kept h = h
redrafted_directed ls draft number (Correct id body) items kept h = h
redrafted_directed ls draft number (Withdraw id) items kept h = h
redrafted_directed ls draft number (Restore id) items kept h = h

-- what is known of an id
abbrev FactsDirected : List Command → Option IdFacts → Type 0
FactsDirected ls None = Unit {0}
FactsDirected ls (Some f) = IsDirected ls f.body

facts_still : (ls : List Command) (l : Command) (f : Option IdFacts) → FactsDirected ls f → FactsDirected (ls ++ l ∷ []) f
facts_still ls l None h = tt
facts_still ls l (Some f) h = directed_still ls l f.body h

picked : (ls : List Command) (w : List ℕ) (ms : List Modification) (n : ℕ) → AllByRecursion (IsDirected ls) ms → FactsDirected ls (first_facts w (slice_get ms n))
picked ls w [] n h = tt
picked ls w (m ∷ ms) zero h = h.0
picked ls w (m ∷ ms) (suc n) h = picked ls w ms n h.1

recorded : (ls : List Command) (id : Id) (number : ℕ) (w : List ℕ) (ms : List Modification) (f : Option IdFacts) → AllByRecursion (IsDirected ls) ms → FactsDirected ls f
    → FactsDirected ls (facts_after id number (Record w ms) f)
recorded ls id number w ms f all h = by (id.law == number)
  where
    item : (b : Bool) → FactsDirected ls (first_facts w (cond b None (slice_get ms (id.item - 1))))
    item true = tt
    item false = picked ls w ms (id.item - 1) all

    by : (b : Bool) → FactsDirected ls (cond b (first_facts w (item_at id.item ms)) f)
    by true = item (id.item == 0)
    by false = h

said : (ls : List Command) (b : Bool) (f : Option IdFacts) (body : Modification) → FactsDirected ls f → ((x : IdFacts) → b ≡ true → f ≡ Some x → IsDirected ls body)
    → FactsDirected ls (cond b (option_map (λ (x : IdFacts). record x { body = body }) f) f)
said ls true None body h new = tt
said ls true (Some f) body h new = new f refl refl
said ls false f body h new = h

standing : (ls : List Command) (b : Bool) (f : Option IdFacts) (s : Standing) → FactsDirected ls f → FactsDirected ls (cond b (option_map (λ (x : IdFacts). record x { standing = s }) f) f)
standing ls true None s h = tt
standing ls true (Some f) s h = h
standing ls false f s h = h

law_directed : (id : Id) (ls : List Command) (draft : List DraftItem) (c : Command) → unknown_modification ls draft c ≡ None → ItemsDirected ls draft
    → FactsDirected ls (facts_of id ls) → FactsDirected (ls ++ law_command draft c) (facts_of id (ls ++ law_command draft c))
law_directed id ls draft (DraftAdd work body) kept items h = subst (λ l. FactsDirected l (facts_of id l)) (sym (append-nil ls)) h
law_directed id ls draft (DraftDrop item) kept items h = subst (λ l. FactsDirected l (facts_of id l)) (sym (append-nil ls)) h
law_directed id ls draft (Enact act) kept items h =
    let l : Command = Enact act in
    subst (FactsDirected (ls ++ l ∷ [])) (sym (facts_more id ls l)) (facts_still ls l (facts_of id ls) h)
law_directed id ls draft (Record w ms) kept items h =
    let l : Command = Record w ms in
    subst (FactsDirected (ls ++ l ∷ [])) (sym (facts_more id ls l))
    (facts_still ls l (facts_after id (length ls + 1) l (facts_of id ls)) (recorded ls id (length ls + 1) w ms (facts_of id ls) (mods_directed ls w 1 ms kept) h))
law_directed id ls draft (Correct other body) kept items h =
    let l : Command = Correct other body in
    subst (FactsDirected (ls ++ l ∷ [])) (sym (facts_more id ls l))
    (facts_still ls l (facts_after id (length ls + 1) l (facts_of id ls))
    (said ls (is_same_id other id) (facts_of id ls) body h (λ x same is.
    let of_other : facts_of other ls ≡ Some x = ap (λ i. facts_of i ls) (id_same other id same) ∙ is in
    body_directed ls x.work body
    (sym (ap (λ f. unknown_for ls f body) of_other) ∙ second_kept (v.unknown_id ls other) (unknown_for ls (facts_of other ls) body) kept))))
law_directed id ls draft (Withdraw other) kept items h =
    let l : Command = Withdraw other in
    subst (FactsDirected (ls ++ l ∷ [])) (sym (facts_more id ls l))
    (facts_still ls l (facts_after id (length ls + 1) l (facts_of id ls)) (standing ls (is_same_id other id) (facts_of id ls) (Withdrawn (length ls + 1)) h))
law_directed id ls draft (Restore other) kept items h =
    let l : Command = Restore other in
    subst (FactsDirected (ls ++ l ∷ [])) (sym (facts_more id ls l))
    (facts_still ls l (facts_after id (length ls + 1) l (facts_of id ls)) (standing ls (is_same_id other id) (facts_of id ls) Live h))
law_directed id ls draft (File w seen) kept items h =
    let bodies : List Modification = map (λ (i : DraftItem). i.body) (items_of w draft) in
    let l : Command = Record w bodies in
    subst (FactsDirected (ls ++ l ∷ [])) (sym (facts_more id ls l))
    (facts_still ls l (facts_after id (length ls + 1) l (facts_of id ls))
    (recorded ls id (length ls + 1) w bodies (facts_of id ls) (item_bodies ls (items_of w draft) (items_filtered ls (λ i. bytes_eq i.work w) draft items)) h))

drafts_still : (ls : List Command) (draft : List DraftItem) (c : Command) (items : List DraftItem) → ItemsDirected ls items → ItemsDirected (ls ++ law_command draft c) items
drafts_still ls draft (DraftAdd work body) items h = subst (λ l. ItemsDirected l items) (sym (append-nil ls)) h
drafts_still ls draft (DraftDrop item) items h = subst (λ l. ItemsDirected l items) (sym (append-nil ls)) h
drafts_still ls draft (Enact act) items h = items_still ls (Enact act) items h
drafts_still ls draft (Record w ms) items h = items_still ls (Record w ms) items h
drafts_still ls draft (Correct id body) items h = items_still ls (Correct id body) items h
drafts_still ls draft (Withdraw id) items h = items_still ls (Withdraw id) items h
drafts_still ls draft (Restore id) items h = items_still ls (Restore id) items h
drafts_still ls draft (File w seen) items h = items_still ls (Record w (map (λ (i : DraftItem). i.body) (items_of w draft))) items h

-- a command that breaks no rule knows what it speaks of
unknown_kept : (es : List Entry) (d : List ℕ) (c : Command) → first_rule es d c ≡ None → unknown_modification (laws es) (draft_of d es) c ≡ None
unknown_kept es d c h =
    let h2 = second_kept (v.drafters_full es d) _ h in
    let h3 = second_kept (v.unknown_work (laws es) c) _ h2 in
    let h4 = second_kept (v.work_exists (laws es) c) _ h3 in
    let h5 = second_kept (v.bad_tree c) _ h4 in
    let h6 = second_kept (v.bad_modification c) _ h5 in
    let h7 = second_kept (v.bad_period c) _ h6 in
    first_kept (v.unknown_modification (laws es) (draft_of d es) c) _ h7

pub record EntriesDirected (es : List Entry) : Type 0 where
  pub facts : (id : Id) → FactsDirected (laws es) (facts_of id (laws es))
  pub drafts : (d : List ℕ) → ItemsDirected (laws es) (draft_of d es)

directed_step : (es : List Entry) (e : Entry) → EntriesDirected es → IsNew es e.drafter e.request e.command e.law → EntriesDirected (es ++ e ∷ [])
directed_step es e h new =
    let kept : unknown_modification (laws es) (draft_of e.drafter es) e.command ≡ None = unknown_kept es e.drafter e.command new.kept in
    record {
      facts = λ id.
          subst (λ l. FactsDirected l (facts_of id l)) (sym (laws_more es e))
          (law_directed id (laws es) (draft_of e.drafter es) e.command kept (h.drafts e.drafter) (h.facts id));
      drafts = λ d.
          subst (λ l. ItemsDirected l (draft_of d (es ++ e ∷ []))) (sym (laws_more es e))
          (drafts_still (laws es) (draft_of e.drafter es) e.command (draft_of d (es ++ e ∷ [])) (subst (ItemsDirected (laws es)) (sym (draft_more d es e)) (by kept d (is_by d e))));
    }
  where
    by : unknown_modification (laws es) (draft_of e.drafter es) e.command ≡ None → (d : List ℕ) (own : Bool)
        → ItemsDirected (laws es) (cond own (redrafted (added d es + 1) e.command (draft_of d es)) (draft_of d es))
    by kept d true = redrafted_directed (laws es) (draft_of e.drafter es) (added d es + 1) e.command (draft_of d es) kept (h.drafts d)
    by kept d false = h.drafts d

pub legal_directed : (es : List Entry) → is_legal es ≡ true → EntriesDirected es
legal_directed es h = legally EntriesDirected directed_step (record { facts = λ id. tt; drafts = λ d. tt }) es h

-- of modifications directed at what is recorded, none is directed at an id that is not
pub not_at_new : (ls : List Command) (id : Id) (m : Modification) → facts_of id ls ≡ None → IsDirected ls m → day_on id m ≡ None
not_at_new ls id (Textual source force edit) new h = refl
not_at_new ls id (Force source (to.Node wid) on effect) new h = refl
not_at_new ls id (Force source (to.Modification k) on effect) new h = by (is_same_id k id) refl
  where
    by : (b : Bool) → is_same_id k id ≡ b → cond b (Some on) None ≡ None
    by true is = absurd (let wrong : true ≡ false = sym h ∙ ap (λ i. is_some (facts_of i ls)) (id_same k id is) ∙ ap is_some new in cc)
    by false is = refl
not_at_new ls id (Efficacy source (to.Node wid) on effect) new h = refl
not_at_new ls id (Efficacy source (to.Modification k) on effect) new h = by (is_same_id k id) refl
  where
    by : (b : Bool) → is_same_id k id ≡ b → cond b (Some on) None ≡ None
    by true is = absurd (let wrong : true ≡ false = sym h ∙ ap (λ i. is_some (facts_of i ls)) (id_same k id is) ∙ ap is_some new in cc)
    by false is = refl

pub none_at_new : (ls : List Command) (id : Id) (ms : List KnownMod) → facts_of id ls ≡ None → AllByRecursion (λ m. IsDirected ls m.body) ms → first_on id ms ≡ None
none_at_new ls id [] new h = refl
none_at_new ls id (m ∷ ms) new h =
    ap (λ d. sooner d (first_on id ms)) (not_at_new ls id m.body new h.0) ∙ none_at_new ls id ms new h.1

pub known_directed : (ls : List Command) (ids : List Id) → ((id : Id) → FactsDirected ls (facts_of id ls)) → AllByRecursion (λ m. IsDirected ls m.body) (known_ids ls ids)
known_directed ls [] all = tt
known_directed ls (id ∷ ids) all = by (facts_of id ls) (all id) (known_directed ls ids all)
  where
    by : (f : Option IdFacts) → FactsDirected ls f → AllByRecursion (λ m. IsDirected ls m.body) (known_ids ls ids)
        → AllByRecursion (λ m. IsDirected ls m.body) (known_as id f ++ known_ids ls ids)
    by None h rest = rest
    by (Some f) h rest = (h, rest)
