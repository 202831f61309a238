-- What is known of a work by a legal register can be replayed.
use Rattle.std.proofs.Common.{◌≡◌, sym, subst, ℕ, zero, suc, ◌+◌, ◌-◌, ◌==◌, Bool, true, false, cond, not, List, [], ◌∷◌, ◌++◌, length, filter, map, slice_get, Option, Some, None, option_map, refl, arith}
use Rattle.std.proofs.lemmas.List.{append-nil}
use Rattle.std.specs.List.{All}
use Rattle.std.specs.Option.{IfSome}
use Rattle.std.specs.Str.{bytes_eq}
use Rattle.act_tree.specs.Branches.{branches_of}
use Rattle.act_tree.specs.Faults.{first_fault}
use Rattle.act_tree.specs.declared.build_fault.BuildFault.{BuildFault}
use Rattle.textual_mods.specs.declared.edit.TextualMod.{TextualMod}
use Rattle.textual_mods.specs.declared.edit.TextualMod.TheVariants.{Repeal, SubstituteNodes, SubstituteText, InsertNodes, InsertText, Renumber, Split, Join}
use Rattle.textual_mods.specs.Edits as edits
use Rattle.desk_base.specs.declared.id.Id.{Id}
use Rattle.law_register.specs.declared.law.act.Act.{Act}
use Rattle.law_register.specs.declared.law.command.Command.{Command}
use Rattle.law_register.specs.declared.law.command.Command.TheVariants.{Enact, Record, Correct, Withdraw, Restore, DraftAdd, DraftDrop, File}
use Rattle.law_register.specs.declared.register.draft.DraftItem.{DraftItem}
use Rattle.law_register.specs.declared.register.entry.Entry.{Entry}
use Rattle.law_register.specs.declared.register.known.KnownMod.{KnownMod}
use Rattle.law_register.specs.declared.register.standing.Standing.{Standing}
use Rattle.law_register.specs.declared.register.standing.Standing.TheVariants.{Live, Withdrawn}
use Rattle.law_register.specs.declared.law.modification.Modification.{Modification}
use Rattle.law_register.specs.declared.law.modification.Modification.TheVariants.{Textual, Force, Efficacy}
use Rattle.textual_mods.specs.EditLimits.{payload_fault}
use Rattle.law_register.specs.Law.Bounds.{brought_fault}
use Rattle.law_register.specs.Answer.Counted.{is_same_id}
use Rattle.law_register.specs.Register.Drafts.{is_by, added, redrafted, draft_of, items_of}
use Rattle.law_register.specs.Register.KnownIds.{IdFacts, item_at, first_facts, facts_after, facts_of, enacted, enacted_by, enacted_or, ids_of, known_as, known_ids, known_by}
use Rattle.law_register.specs.Register.LawList.{law_command, laws}
use Rattle.law_register.specs.Answer.Soundness.{IsSoundBody, IsSound, IsSteady}
use Rattle.law_register.specs.Register.Verdicts.{tree_rule, bad_tree, first_item, is_legal}
use Rattle.law_register.proofs.Ascending.{known_once}
use Rattle.law_register.proofs.Legal.{first_kept, second_kept, IsNew, kept_rules, legally}
use Rattle.law_register.proofs.Snoc.{first_act, laws_more, draft_more, facts_more, enacted_more}

no_fault : (fault : Option BuildFault) → tree_rule fault ≡ None → fault ≡ None
no_fault None h = refl
no_fault (Some fault) h = cc

sound_edit : (edit : TextualMod) → tree_rule (payload_fault edit) ≡ None → edits.IsSound edit
sound_edit (Repeal wid) h = tt
sound_edit (SubstituteNodes wid new) h = no_fault _ h
sound_edit (SubstituteText wid spot new) h = tt
sound_edit (InsertNodes wid pos new) h = no_fault _ h
sound_edit (InsertText wid at new) h = tt
sound_edit (Renumber pairs) h = tt
sound_edit (Split wid at num heading) h = tt
sound_edit (Join wid second separator) h = tt

sound_body : (m : Modification) → tree_rule (brought_fault m) ≡ None → IsSoundBody m
sound_body (Textual source force edit) h = sound_edit edit h
sound_body (Force source destination on effect) h = tt
sound_body (Efficacy source destination on effect) h = tt

-- modifications, and items of a draft, that are sound
abbrev AreSound : List Modification → Type 0
AreSound [] = Unit {0}
AreSound (m ∷ ms) = IsSoundBody m × AreSound ms

abbrev ItemsSound : List DraftItem → Type 0
ItemsSound [] = Unit {0}
ItemsSound (i ∷ items) = IsSoundBody i.body × ItemsSound items

sound_mods : (n : ℕ) (ms : List Modification) → first_item (λ number m. tree_rule (brought_fault m)) n ms ≡ None → AreSound ms
sound_mods n [] h = tt
sound_mods n (m ∷ ms) h = (
  sound_body m (first_kept (tree_rule (brought_fault m)) (first_item (λ number k. tree_rule (brought_fault k)) (n + 1) ms) h),
  sound_mods (n + 1) ms (second_kept (tree_rule (brought_fault m)) (first_item (λ number k. tree_rule (brought_fault k)) (n + 1) ms) h),
)

sound_items : (items : List DraftItem) → ItemsSound items → AreSound (map (λ (i : DraftItem). i.body) items)
sound_items [] h = tt
sound_items (i ∷ items) h = (h.0, sound_items items h.1)

sound_filter : (p : DraftItem → Bool) (items : List DraftItem) → ItemsSound items → ItemsSound (filter p items)
sound_filter p [] h = tt
sound_filter p (i ∷ items) h = by (p i) (sound_filter p items h.1)
  where
    by : (b : Bool) → ItemsSound (filter p items) → ItemsSound (cond b (i ∷ filter p items) (filter p items))
    by true rest = (h.0, rest)
    by false rest = rest

sound_push : (items : List DraftItem) (i : DraftItem) → ItemsSound items → IsSoundBody i.body → ItemsSound (items ++ i ∷ [])
sound_push [] i h sound = (sound, tt)
sound_push (k ∷ items) i h sound = (h.0, sound_push items i h.1 sound)

-- drafts
redrafted_sound : (number : ℕ) (c : Command) (items : List DraftItem) → bad_tree c ≡ None → ItemsSound items → ItemsSound (redrafted number c items)
redrafted_sound number (DraftAdd work body) items kept h = sound_push items (record { item = number; work = work; body = body }) h ((sound_mods 1 (body ∷ []) kept).0)
redrafted_sound number (DraftDrop item) items kept h = sound_filter (λ i. not (i.item == item)) items h
redrafted_sound number (File work seen) items kept h = sound_filter (λ i. not (bytes_eq i.work work)) items h
redrafted_sound number (Enact act) items kept h = h
redrafted_sound number (Record work mods) items kept h = h
redrafted_sound number (Correct id body) items kept h = h
redrafted_sound number (Withdraw id) items kept h = h
redrafted_sound number (Restore id) items kept h = h

-- what is known of an id
abbrev FactsSound : Option IdFacts → Type 0
FactsSound None = Unit {0}
FactsSound (Some f) = IsSoundBody f.body

picked_sound : (w : List ℕ) (ms : List Modification) (n : ℕ) → AreSound ms → FactsSound (first_facts w (slice_get ms n))
picked_sound w [] n h = tt
picked_sound w (m ∷ ms) zero h = h.0
picked_sound w (m ∷ ms) (suc n) h = picked_sound w ms n h.1

item_sound : (w : List ℕ) (ms : List Modification) (item : ℕ) → AreSound ms → FactsSound (first_facts w (item_at item ms))
item_sound w ms item h = by (item == 0)
  where
    by : (b : Bool) → FactsSound (first_facts w (cond b None (slice_get ms (item - 1))))
    by true = tt
    by false = picked_sound w ms (item - 1) h

corrected_sound : (b : Bool) (f : Option IdFacts) (body : Modification) → FactsSound f → IsSoundBody body → FactsSound (cond b (option_map (λ (x : IdFacts). record x { body = body }) f) f)
corrected_sound true None body h sound = tt
corrected_sound true (Some f) body h sound = sound
corrected_sound false f body h sound = h

marked_sound : (b : Bool) (f : Option IdFacts) (standing : Standing) → FactsSound f → FactsSound (cond b (option_map (λ (x : IdFacts). record x { standing = standing }) f) f)
marked_sound true None standing h = tt
marked_sound true (Some f) standing h = h
marked_sound false f standing h = h

recorded_sound : (id : Id) (number : ℕ) (w : List ℕ) (ms : List Modification) (f : Option IdFacts) → AreSound ms → FactsSound f → FactsSound (facts_after id number (Record w ms) f)
recorded_sound id number w ms f sound h = by (id.law == number)
  where
    by : (b : Bool) → FactsSound (cond b (first_facts w (item_at id.item ms)) f)
    by true = item_sound w ms id.item sound
    by false = h

law_sound : (id : Id) (ls : List Command) (draft : List DraftItem) (c : Command) → bad_tree c ≡ None → ItemsSound draft → FactsSound (facts_of id ls) → FactsSound (facts_of id (ls ++ law_command draft c))
law_sound id ls draft (DraftAdd work body) kept items h = subst (λ l. FactsSound (facts_of id l)) (sym (append-nil ls)) h
law_sound id ls draft (DraftDrop item) kept items h = subst (λ l. FactsSound (facts_of id l)) (sym (append-nil ls)) h
law_sound id ls draft (Enact act) kept items h = subst FactsSound (sym (facts_more id ls (Enact act))) h
law_sound id ls draft (Record w ms) kept items h = subst FactsSound (sym (facts_more id ls (Record w ms))) (recorded_sound id (length ls + 1) w ms (facts_of id ls) (sound_mods 1 ms kept) h)
law_sound id ls draft (Correct other body) kept items h =
    subst FactsSound (sym (facts_more id ls (Correct other body))) (corrected_sound (is_same_id other id) (facts_of id ls) body h ((sound_mods 1 (body ∷ []) kept).0))
law_sound id ls draft (Withdraw other) kept items h =
    subst FactsSound (sym (facts_more id ls (Withdraw other))) (marked_sound (is_same_id other id) (facts_of id ls) (Withdrawn (length ls + 1)) h)
law_sound id ls draft (Restore other) kept items h =
    subst FactsSound (sym (facts_more id ls (Restore other))) (marked_sound (is_same_id other id) (facts_of id ls) Live h)
law_sound id ls draft (File w seen) kept items h =
    let bodies = map (λ (i : DraftItem). i.body) (items_of w draft) in
    subst FactsSound (sym (facts_more id ls (Record w bodies)))
    (recorded_sound id (length ls + 1) w bodies (facts_of id ls) (sound_items (items_of w draft) (sound_filter (λ i. bytes_eq i.work w) draft items)) h)

-- the act of a work
abbrev ActSound : Option (ℕ × Act) → Type 0
ActSound None = Unit {0}
ActSound (Some found) = first_fault found.1.numbering found.1.limit (branches_of found.1.body) ≡ None

first_sound : (a b : Option (ℕ × Act)) → ActSound a → ActSound b → ActSound (first_act a b)
first_sound None b h i = i
first_sound (Some found) b h i = h

new_sound : (number : ℕ) (w : List ℕ) (l : Command) → bad_tree l ≡ None → ActSound (enacted_or number (enacted_by w l) None)
new_sound number w (Enact act) kept = by (bytes_eq act.work w)
  where
    by : (b : Bool) → ActSound (enacted_or number (cond b (Some act) None) None)
    by true = no_fault _ kept
    by false = tt
new_sound number w (Record other mods) kept = tt
new_sound number w (Correct id body) kept = tt
new_sound number w (Withdraw id) kept = tt
new_sound number w (Restore id) kept = tt
new_sound number w (DraftAdd work body) kept = tt
new_sound number w (DraftDrop item) kept = tt
new_sound number w (File work seen) kept = tt

more_sound : (w : List ℕ) (ls : List Command) (l : Command) → ActSound (enacted w ls) → ActSound (enacted_or (length ls + 1) (enacted_by w l) None) → ActSound (enacted w (ls ++ l ∷ []))
more_sound w ls l h new = subst ActSound (sym (enacted_more w ls l)) (first_sound (enacted w ls) (enacted_or (length ls + 1) (enacted_by w l) None) h new)

act_sound : (w : List ℕ) (ls : List Command) (draft : List DraftItem) (c : Command) → bad_tree c ≡ None → ActSound (enacted w ls) → ActSound (enacted w (ls ++ law_command draft c))
act_sound w ls draft (DraftAdd work body) kept h = subst (λ l. ActSound (enacted w l)) (sym (append-nil ls)) h
act_sound w ls draft (DraftDrop item) kept h = subst (λ l. ActSound (enacted w l)) (sym (append-nil ls)) h
act_sound w ls draft (Enact act) kept h = more_sound w ls (Enact act) h (new_sound (length ls + 1) w (Enact act) kept)
act_sound w ls draft (Record other mods) kept h = more_sound w ls (Record other mods) h tt
act_sound w ls draft (Correct id body) kept h = more_sound w ls (Correct id body) h tt
act_sound w ls draft (Withdraw id) kept h = more_sound w ls (Withdraw id) h tt
act_sound w ls draft (Restore id) kept h = more_sound w ls (Restore id) h tt
act_sound w ls draft (File other seen) kept h = more_sound w ls (Record other (map (λ (i : DraftItem). i.body) (items_of other draft))) h tt

-- all of a legal register
pub record EntriesSound (es : List Entry) : Type 0 where
  acts : (w : List ℕ) → ActSound (enacted w (laws es))
  facts : (id : Id) → FactsSound (facts_of id (laws es))
  drafts : (d : List ℕ) → ItemsSound (draft_of d es)

sound_step : (es : List Entry) (e : Entry) → EntriesSound es → IsNew es e.drafter e.request e.command e.law → EntriesSound (es ++ e ∷ [])
sound_step es e h new =
    let kept = (kept_rules es e.drafter e.command new.kept).tree in
    record {
      acts = λ w. subst (λ l. ActSound (enacted w l)) (sym (laws_more es e)) (act_sound w (laws es) (draft_of e.drafter es) e.command kept (h.acts w));
      facts = λ id. subst (λ l. FactsSound (facts_of id l)) (sym (laws_more es e)) (law_sound id (laws es) (draft_of e.drafter es) e.command kept (h.drafts e.drafter) (h.facts id));
      drafts = λ d. subst ItemsSound (sym (draft_more d es e)) (by d (is_by d e));
    }
  where
    by : (d : List ℕ) (own : Bool) → ItemsSound (cond own (redrafted (added d es + 1) e.command (draft_of d es)) (draft_of d es))
    by d true = redrafted_sound (added d es + 1) e.command (draft_of d es) ((kept_rules es e.drafter e.command new.kept).tree) (h.drafts d)
    by d false = h.drafts d

pub legal_sound : (es : List Entry) → is_legal es ≡ true → EntriesSound es
legal_sound es h = legally EntriesSound sound_step (record { acts = λ w. tt; facts = λ id. tt; drafts = λ d. tt }) es h

-- what is known of ids
abbrev KnownSound : List KnownMod → Type 0
KnownSound [] = Unit {0}
KnownSound (m ∷ ms) = IsSoundBody m.body × KnownSound ms

known_sound : (L : List Command) (ids : List Id) → ((id : Id) → FactsSound (facts_of id L)) → KnownSound (known_ids L ids)
known_sound L [] h = tt
known_sound L (id ∷ ids) h = by (facts_of id L) (h id) (known_sound L ids h)
  where
    by : (f : Option IdFacts) → FactsSound f → KnownSound (known_ids L ids) → KnownSound (known_as id f ++ known_ids L ids)
    by None sound rest = rest
    by (Some f) sound rest = (sound, rest)

each_sound : (ms : List KnownMod) → KnownSound ms → All (λ m. IsSoundBody m.body) ms
each_sound [] h k d less = absurd (omega arith)
each_sound (m ∷ ms) h zero d less = h.0
each_sound (m ∷ ms) h (suc k) d less = each_sound ms h.1 k d (omega arith)

-- nothing is carried of what is known of ids
abbrev CarryNothing : List KnownMod → Type 0
CarryNothing [] = Unit {0}
CarryNothing (m ∷ ms) = (m.carried ≡ None) × CarryNothing ms

nothing_carried : (L : List Command) (ids : List Id) → CarryNothing (known_ids L ids)
nothing_carried L [] = tt
nothing_carried L (id ∷ ids) = by (facts_of id L) (nothing_carried L ids)
  where
    by : (f : Option IdFacts) → CarryNothing (known_ids L ids) → CarryNothing (known_as id f ++ known_ids L ids)
    by None rest = rest
    by (Some f) rest = (refl, rest)

nothing_steady : (days : List ℕ) (ms : List KnownMod) → CarryNothing ms → All (λ m. IsSteady days m.carried) ms
nothing_steady days [] h k d less = absurd (omega arith)
nothing_steady days (m ∷ ms) h zero d less = subst (IsSteady days) (sym h.0) tt
nothing_steady days (m ∷ ms) h (suc k) d less = nothing_steady days ms h.1 k d (omega arith)

known_by_sound : (w : List ℕ) (v front : ℕ) (L : List Command) (found : Option (ℕ × Act)) → ActSound found → ((id : Id) → FactsSound (facts_of id L))
    → IfSome (known_by w v front L found) IsSound
known_by_sound w v front L None act facts = tt
known_by_sound w v front L (Some found) act facts = record {
  fits = act;
  ids = known_once L w;
  bodies = each_sound (known_ids L (ids_of w L)) (known_sound L (ids_of w L) facts);
  steady = nothing_steady [] (known_ids L (ids_of w L)) (nothing_carried L (ids_of w L));
}

pub known_is_sound : (w : List ℕ) (v front : ℕ) (es : List Entry) → is_legal es ≡ true → IfSome (known_by w v front (laws es) (enacted w (laws es))) IsSound
known_is_sound w v front es h =
    let sound = legal_sound es h in
    known_by_sound w v front (laws es) (enacted w (laws es)) (sound.acts w) sound.facts

-- what is known of a work once one more law entry records a drafter's items in it
pub drafted_is_sound : (w d : List ℕ) (v front : ℕ) (es : List Entry) → is_legal es ≡ true
    → IfSome (known_by w v front (laws es ++ Record w (map (λ (i : DraftItem). i.body) (items_of w (draft_of d es))) ∷ [])
    (enacted w (laws es ++ Record w (map (λ (i : DraftItem). i.body) (items_of w (draft_of d es))) ∷ []))) IsSound
drafted_is_sound w d v front es h =
    let sound = legal_sound es h in
    let items = items_of w (draft_of d es) in
    let bodies : List Modification = map (λ (i : DraftItem). i.body) items in
    let new : AreSound bodies = sound_items items (sound_filter (λ i. bytes_eq i.work w) (draft_of d es) (sound.drafts d)) in
    known_by_sound w v front (laws es ++ Record w bodies ∷ []) (enacted w (laws es ++ Record w bodies ∷ []))
    (more_sound w (laws es) (Record w bodies) (sound.acts w) tt)
    (λ id. subst FactsSound (sym (facts_more id (laws es) (Record w bodies))) (recorded_sound id (length (laws es) + 1) w bodies (facts_of id (laws es)) new (sound.facts id)))
