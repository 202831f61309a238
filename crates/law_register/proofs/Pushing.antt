-- The indexes stand for the entries, once an accepted entry is noted and stands behind the others.
use Rattle.std.proofs.Common.{◌≡◌, ◌∙◌, sym, ap, subst, ℕ, suc, ◌+◌, Bool, true, cond, List, [], ◌∷◌, ◌++◌, length, filter, map, Option, Some, is_some, slice_get, refl, arith}
use Rattle.std.proofs.lemmas.List.{append-nil, length-append, length-map}
use Rattle.std.proofs.lemmas.List.Folds.{list_all-append}
use Rattle.std.specs.List.{list_all}
use Rattle.std.specs.Str.{bytes_eq}
use Rattle.desk_base.specs.declared.id.Id.{Id}
use Rattle.law_register.specs.declared.law.command.Command.{Command}
use Rattle.law_register.specs.declared.law.command.Command.TheVariants.{Enact, Record, Correct, Withdraw, Restore, DraftAdd, DraftDrop, File}
use Rattle.law_register.specs.declared.register.draft.DraftItem.{DraftItem}
use Rattle.law_register.specs.declared.register.entry.Entry.{Entry}
use Rattle.law_register.specs.declared.register.indexes.BodyMark.{BodyMark}
use Rattle.law_register.specs.declared.register.indexes.IdMark.{IdMark}
use Rattle.law_register.specs.declared.register.indexes.Indexes.{Indexes}
use Rattle.law_register.specs.declared.register.indexes.ItemMark.{ItemMark}
use Rattle.law_register.specs.declared.register.indexes.StepMark.{StepMark}
use Rattle.law_register.specs.declared.register.indexes.WorkMark.{WorkMark}
use Rattle.law_register.specs.declared.register.standing.Standing.TheVariants.{Live, Withdrawn}
use Rattle.law_register.specs.declared.law.modification.Modification.{Modification}
use Rattle.law_register.specs.declared.register.verdict.Reply.{Reply}
use Rattle.law_register.specs.Answer.Counted.{is_same_id}
use Rattle.law_register.specs.Register.Drafts.{draft_of, items_of}
use Rattle.law_register.specs.Register.Indexes.{told_at, work_named, body_of, marks_work, request_mark, drafter_mark, work_mark, id_mark, items_in, enacted_in, last_in, id_after, concerned_by, work_after, enacted_after, recorded_for, ItemsStand, IdStands, WorkStands, ActsStand, BodiesStand, StepsStand}
use Rattle.law_register.specs.Register.Concerns.{is_named}
use Rattle.law_register.specs.Register.KnownIds.{facts_of, enacted, ids_of}
use Rattle.law_register.specs.Register.LawList.{acts_of, law_command, law_of, laws, front}
use Rattle.law_register.specs.Register.Marks.{law_count, places, item_body, bodies_of, new_bodies, last_before, with_step, new_step, IsNoted}
use Rattle.law_register.specs.Register.Registers.{IsKept, are_well_spelled}
use Rattle.law_register.specs.Law.Spelling.{is_well_spelled}
use Rattle.law_register.specs.Law.Sizes.{entry_size}
use Rattle.law_register.specs.Register.Verdicts.{reply_to, last_on, is_accepted, verdict, is_legal}
use Rattle.law_register.proofs.Enacting.{act_case}
use Rattle.law_register.proofs.IdSteps.{fresh, record_stands, correct_stands, withdraw_stands, of_work, enact_step, keep_step, not_enacting, recorded_count, work_case, either}
use Rattle.law_register.proofs.Legal.{accepted_new}
use Rattle.law_register.proofs.Lookups.{items_filed, items_counted}
use Rattle.law_register.proofs.Puts.{and_true}
use Rattle.law_register.proofs.Snoc.{laws_more, size_more, legal_more, facts_more}
use Rattle.law_register.proofs.Marking.{steps_stay, new_step_stands}
use Rattle.law_register.proofs.Steps.{id_stays, enacted_stays, told_stays, told_last, request_step, draft_step, drafters_step, count_step}

-- the marks of a record's modifications lead to them
places_stand : (es : List Entry) (at place : ℕ) (all ms : List Modification) → ((k : ℕ) → told_at es at (body_of k) ≡ slice_get all k)
    → ((j : ℕ) → slice_get all (place + j) ≡ slice_get ms j) → BodiesStand es (places at place ms) ms
places_stand es at place all [] tells rest = tt
places_stand es at place all (m ∷ ms) tells rest = (
  tells place ∙ ap (slice_get all) (plus_nothing place) ∙ rest 0,
  places_stand es at (place + 1) all ms tells (λ j. ap (slice_get all) (one_later place j) ∙ rest (suc j)),
)
  where
    plus_nothing : (n : ℕ) → n ≡ n + 0
    plus_nothing n = omega arith

    one_later : (n j : ℕ) → n + 1 + j ≡ n + suc j
    one_later n j = omega arith

record_places : (es : List Entry) (e : Entry) (work : List ℕ) (mods : List Modification) → e.command ≡ Record work mods → BodiesStand (es ++ e ∷ []) (places (length es) 0 mods) mods
record_places es e work mods is =
    places_stand (es ++ e ∷ []) (length es) 0 mods mods (λ k. told_last (body_of k) es e ∙ ap (body_of k) is) (λ j. ap (slice_get mods) (nothing_plus j))
  where
    nothing_plus : (n : ℕ) → 0 + n ≡ n
    nothing_plus n = omega arith

places_count : (at place : ℕ) (ms : List Modification) → length (places at place ms) ≡ length ms
places_count at place [] = refl
places_count at place (m ∷ ms) = ap suc (places_count at (place + 1) ms)

-- and so do those of the items that are filed
filed_stand : (es : List Entry) (e : Entry) (ms : List ItemMark) (items : List DraftItem) → ItemsStand es ms items
    → BodiesStand (es ++ e ∷ []) (map item_body ms) (map (λ (i : DraftItem). i.body) items)
filed_stand es e [] [] h = tt
filed_stand es e (m ∷ ms) (i ∷ items) h = (told_stays (body_of 0) es e m.entry i.body h.2, filed_stand es e ms items h.3)
filed_stand es e [] (i ∷ items) h = h
filed_stand es e (m ∷ ms) [] h = h

-- an id
id_case : (es : List Entry) (e : Entry) (ls : List Command) (draft : List ItemMark) (items : List DraftItem) (id : Id) (m : Option IdMark) (c : Command)
    → e.command ≡ c → ItemsStand es draft items → IdStands es m (facts_of id ls)
    → IdStands (es ++ e ∷ []) (id_after (length ls + 1) (length es) c (bodies_of es (length es) draft c) id m) (facts_of id (ls ++ law_command items c))
id_case es e ls draft items id m (DraftAdd work body) is drafted h =
    subst (λ l. IdStands (es ++ e ∷ []) m (facts_of id l)) (sym (append-nil ls)) (id_stays es e m (facts_of id ls) h)
id_case es e ls draft items id m (DraftDrop item) is drafted h =
    subst (λ l. IdStands (es ++ e ∷ []) m (facts_of id l)) (sym (append-nil ls)) (id_stays es e m (facts_of id ls) h)
id_case es e ls draft items id m (Enact act) is drafted h =
    subst (IdStands (es ++ e ∷ []) m) (sym (facts_more id ls (Enact act))) (id_stays es e m (facts_of id ls) h)
id_case es e ls draft items id m (Record work mods) is drafted h =
    subst (IdStands (es ++ e ∷ []) (id_after (length ls + 1) (length es) (Record work mods) (places (length es) 0 mods) id m)) (sym (facts_more id ls (Record work mods)))
    (record_stands (es ++ e ∷ []) work mods (places (length es) 0 mods) (length ls + 1) (length es) id m (facts_of id ls) (id_stays es e m (facts_of id ls) h) (fresh id ls)
    (record_places es e work mods is)
    (told_last work_named es e ∙ ap work_named is))
id_case es e ls draft items id m (Correct other body) is drafted h =
    subst (IdStands (es ++ e ∷ []) (id_after (length ls + 1) (length es) (Correct other body) [] id m)) (sym (facts_more id ls (Correct other body)))
    (correct_stands (es ++ e ∷ []) body (length es) (is_same_id other id) m (facts_of id ls) (id_stays es e m (facts_of id ls) h) (told_last (body_of 0) es e ∙ ap (body_of 0) is))
id_case es e ls draft items id m (Withdraw other) is drafted h =
    subst (IdStands (es ++ e ∷ []) (id_after (length ls + 1) (length es) (Withdraw other) [] id m)) (sym (facts_more id ls (Withdraw other)))
    (withdraw_stands (es ++ e ∷ []) (Withdrawn (length ls + 1)) (is_same_id other id) m (facts_of id ls) (id_stays es e m (facts_of id ls) h))
id_case es e ls draft items id m (Restore other) is drafted h =
    subst (IdStands (es ++ e ∷ []) (id_after (length ls + 1) (length es) (Restore other) [] id m)) (sym (facts_more id ls (Restore other)))
    (withdraw_stands (es ++ e ∷ []) Live (is_same_id other id) m (facts_of id ls) (id_stays es e m (facts_of id ls) h))
id_case es e ls draft items id m (File work seen) is drafted h =
    let bodies = map (λ (i : DraftItem). i.body) (items_of work items) in
    let marks = map item_body (filter (marks_work es work) draft) in
    subst (IdStands (es ++ e ∷ []) (id_after (length ls + 1) (length es) (File work seen) marks id m)) (sym (facts_more id ls (Record work bodies)))
    (record_stands (es ++ e ∷ []) work bodies marks (length ls + 1) (length es) id m (facts_of id ls) (id_stays es e m (facts_of id ls) h) (fresh id ls)
    (filed_stand es e (filter (marks_work es work) draft) (items_of work items) (items_filed work es draft items drafted))
    (told_last work_named es e ∙ ap work_named is))

-- a work
work_stays : (es : List Entry) (e : Entry) (w : List ℕ) (ls : List Command) (old new : Option WorkMark) → new ≡ old
    → WorkStands es old (enacted w ls) (last_on w ls) (length (ids_of w ls))
    → WorkStands (es ++ e ∷ []) new (enacted w (ls ++ [])) (last_on w (ls ++ [])) (length (ids_of w (ls ++ [])))
work_stays es e w ls old new put h =
    let P : List Command → Type 0 = λ l. WorkStands (es ++ e ∷ []) new (enacted w l) (last_on w l) (length (ids_of w l)) in
    let Q : Option WorkMark → Type 0 = λ m. WorkStands (es ++ e ∷ []) m (enacted w ls) (last_on w ls) (length (ids_of w ls)) in
    subst P (sym (append-nil ls)) (subst Q (sym put) (record { act = enacted_stays es e (enacted_in old) (enacted w ls) h.act; last = h.last; ids = h.ids }))

work_step : (es : List Entry) (e : Entry) (w : List ℕ) (ls : List Command) (draft : List ItemMark) (items : List DraftItem) (marks : Id → Option IdMark) (old new : Option WorkMark) (c : Command)
    → e.command ≡ c → ItemsStand es draft items → ((id : Id) → IdStands es (marks id) (facts_of id ls))
    → WorkStands es old (enacted w ls) (last_on w ls) (length (ids_of w ls))
    → new ≡ cond (is_named w (concerned_by es marks c)) (Some (work_after (length ls + 1) (length es) c (length (bodies_of es (length es) draft c)) old)) old
    → WorkStands (es ++ e ∷ []) new (enacted w (ls ++ law_command items c)) (last_on w (ls ++ law_command items c)) (length (ids_of w (ls ++ law_command items c)))
work_step es e w ls draft items marks old new (DraftAdd work body) is drafted stand h put = work_stays es e w ls old new put h
work_step es e w ls draft items marks old new (DraftDrop item) is drafted stand h put = work_stays es e w ls old new put h
work_step es e w ls draft items marks old new (Enact act) is drafted stand h put =
    work_case es e w ls (Enact act) (Enact act) 0 (bytes_eq act.work w) old new h refl
    (enact_step es e act (length ls + 1) (bytes_eq act.work w) (enacted_in old) (enacted w ls) h.act is) (sym (either (bytes_eq act.work w) 0)) put
work_step es e w ls draft items marks old new (Record work mods) is drafted stand h put =
    work_case es e w ls (Record work mods) (Record work mods) (length (places (length es) 0 mods)) (bytes_eq work w) old new h refl
    (keep_step es e (bytes_eq work w) (enacted_in old) (enacted_after (length ls + 1) (length es) (Record work mods) (enacted_in old)) (enacted w ls) h.act
    (not_enacting (length ls + 1) (length es) (Record work mods) (enacted_in old) refl))
    (recorded_count (length ls + 1) w work mods ∙ ap (λ n. cond (bytes_eq work w) n 0) (sym (places_count (length es) 0 mods))) put
work_step es e w ls draft items marks old new (File work seen) is drafted stand h put =
    let bodies = map (λ (i : DraftItem). i.body) (items_of work items) in
    let filed = filter (marks_work es work) draft in
    work_case es e w ls (Record work bodies) (File work seen) (length (map item_body filed)) (bytes_eq work w) old new h refl
    (keep_step es e (bytes_eq work w) (enacted_in old) (enacted_after (length ls + 1) (length es) (File work seen) (enacted_in old)) (enacted w ls) h.act
    (not_enacting (length ls + 1) (length es) (File work seen) (enacted_in old) refl))
    (recorded_count (length ls + 1) w work bodies
    ∙ ap (λ n. cond (bytes_eq work w) n 0) (length-map (items_of work items) (λ (i : DraftItem). i.body) ∙ sym (items_counted work es draft items drafted) ∙ sym (length-map filed item_body))) put
work_step es e w ls draft items marks old new (Correct id body) is drafted stand h put =
    let own : Bool = is_named w (concerned_by es marks (Correct id body)) in
    work_case es e w ls (Correct id body) (Correct id body) 0 own old new h (of_work es w (marks id) (facts_of id ls) (stand id))
    (keep_step es e own (enacted_in old) (enacted_after (length ls + 1) (length es) (Correct id body) (enacted_in old)) (enacted w ls) h.act
    (not_enacting (length ls + 1) (length es) (Correct id body) (enacted_in old) refl)) (sym (either own 0)) put
work_step es e w ls draft items marks old new (Withdraw id) is drafted stand h put =
    let own : Bool = is_named w (concerned_by es marks (Withdraw id)) in
    work_case es e w ls (Withdraw id) (Withdraw id) 0 own old new h (of_work es w (marks id) (facts_of id ls) (stand id))
    (keep_step es e own (enacted_in old) (enacted_after (length ls + 1) (length es) (Withdraw id) (enacted_in old)) (enacted w ls) h.act
    (not_enacting (length ls + 1) (length es) (Withdraw id) (enacted_in old) refl)) (sym (either own 0)) put
work_step es e w ls draft items marks old new (Restore id) is drafted stand h put =
    let own : Bool = is_named w (concerned_by es marks (Restore id)) in
    work_case es e w ls (Restore id) (Restore id) 0 own old new h (of_work es w (marks id) (facts_of id ls) (stand id))
    (keep_step es e own (enacted_in old) (enacted_after (length ls + 1) (length es) (Restore id) (enacted_in old)) (enacted w ls) h.act
    (not_enacting (length ls + 1) (length es) (Restore id) (enacted_in old) refl)) (sym (either own 0)) put

-- how many law entries there are
counted : (items : List DraftItem) (c : Command) → length (law_command items c) ≡ law_count c
counted items (DraftAdd work body) = refl
counted items (DraftDrop item) = refl
counted items (Enact act) = refl
counted items (Record work mods) = refl
counted items (Correct id body) = refl
counted items (Withdraw id) = refl
counted items (Restore id) = refl
counted items (File work seen) = refl

pub front_is : (es : List Entry) (e : Entry) → front (es ++ e ∷ []) ≡ front es + law_count e.command
front_is es e =
    ap length (laws_more es e) ∙ length-append (laws es) (law_of es e) ∙ ap (λ n. front es + n) (counted (draft_of e.drafter es) e.command)

-- the step of a law entry
pub step_case : (es : List Entry) (e : Entry) (ls : List Command) (draft : List ItemMark) (items : List DraftItem) (marks : Id → Option IdMark) (works : List ℕ → Option WorkMark)
    (bodies : List BodyMark) (steps : List StepMark) (s : StepMark) (c : Command) → e.command ≡ c → ItemsStand es draft items
    → ((id : Id) → IdStands es (marks id) (facts_of id ls)) → ((w : List ℕ) → last_in (works w) ≡ last_on w ls)
    → s.entry ≡ length es → s.first ≡ length bodies → s.until ≡ length bodies + length (bodies_of es (length es) draft c) → s.before ≡ last_before works (concerned_by es marks c)
    → StepsStand es bodies [] steps ls
    → StepsStand (es ++ e ∷ []) (bodies ++ bodies_of es (length es) draft c) [] (with_step c s steps) (ls ++ law_command items c)
step_case es e ls draft items marks works bodies steps s (DraftAdd work body) is drafted stand last at first until before h =
    subst (StepsStand (es ++ e ∷ []) (bodies ++ []) [] steps) (sym (append-nil ls)) (steps_stay es e bodies [] [] steps ls h)
step_case es e ls draft items marks works bodies steps s (DraftDrop item) is drafted stand last at first until before h =
    subst (StepsStand (es ++ e ∷ []) (bodies ++ []) [] steps) (sym (append-nil ls)) (steps_stay es e bodies [] [] steps ls h)
step_case es e ls draft items marks works bodies steps s (Enact act) is drafted stand last at first until before h =
    new_step_stands es e bodies [] steps ls s (Enact act) (concerned_by es marks (Enact act)) works (λ w. refl) last at first until before
    (told_last (λ c. Some c) es e ∙ ap Some is, refl) h
step_case es e ls draft items marks works bodies steps s (Record work mods) is drafted stand last at first until before h =
    new_step_stands es e bodies (places (length es) 0 mods) steps ls s (Record work mods) (concerned_by es marks (Record work mods)) works (λ w. refl) last at first until before
    (told_last recorded_for es e ∙ ap recorded_for is, record_places es e work mods is) h
step_case es e ls draft items marks works bodies steps s (File work seen) is drafted stand last at first until before h =
    let filed = filter (marks_work es work) draft in
    let mods = map (λ (i : DraftItem). i.body) (items_of work items) in
    new_step_stands es e bodies (map item_body filed) steps ls s (Record work mods) (concerned_by es marks (File work seen)) works (λ w. refl) last at first until before
    (told_last recorded_for es e ∙ ap recorded_for is, filed_stand es e filed (items_of work items) (items_filed work es draft items drafted)) h
step_case es e ls draft items marks works bodies steps s (Correct id body) is drafted stand last at first until before h =
    new_step_stands es e bodies [] steps ls s (Correct id body) (concerned_by es marks (Correct id body)) works (λ w. of_work es w (marks id) (facts_of id ls) (stand id)) last at first until before
    (told_last (λ c. Some c) es e ∙ ap Some is, refl) h
step_case es e ls draft items marks works bodies steps s (Withdraw id) is drafted stand last at first until before h =
    new_step_stands es e bodies [] steps ls s (Withdraw id) (concerned_by es marks (Withdraw id)) works (λ w. of_work es w (marks id) (facts_of id ls) (stand id)) last at first until before
    (told_last (λ c. Some c) es e ∙ ap Some is, refl) h
step_case es e ls draft items marks works bodies steps s (Restore id) is drafted stand last at first until before h =
    new_step_stands es e bodies [] steps ls s (Restore id) (concerned_by es marks (Restore id)) works (λ w. of_work es w (marks id) (facts_of id ls) (stand id)) last at first until before
    (told_last (λ c. Some c) es e ∙ ap Some is, refl) h

-- all indexes
pub noted : (old new : Indexes) (es : List Entry) (e : Entry) (reply : Reply) → IsKept old es → is_accepted e.law (verdict es e.drafter e.request e.command) ≡ true
    → is_well_spelled e.command ≡ true
    → reply ≡ reply_to es e.drafter e.command → IsNoted old new es e reply → IsKept new (es ++ e ∷ [])
noted old new es e reply kept accepted spelled replied note =
    let entry = accepted_new es e.drafter e.request e.command e.law accepted in
    let draft = (kept.stands.drafts e.drafter).items in
    let items = draft_of e.drafter es in
    let marks = items_in (drafter_mark old e.drafter) in
    let W : List ℕ → List Command → Type 0 = λ w l. WorkStands (es ++ e ∷ []) (work_mark new w) (enacted w l) (last_on w l) (length (ids_of w l)) in
    let I : Id → List Command → Type 0 = λ i l. IdStands (es ++ e ∷ []) (id_mark new i) (facts_of i l) in
    record {
      legal = legal_more es e ∙ and_true (is_legal es) (is_accepted e.law (verdict es e.drafter e.request e.command)) kept.legal accepted;
      spelled = list_all-append (λ x. is_well_spelled x.command) es (e ∷ [])
          ∙ and_true (are_well_spelled es) (list_all (λ x. is_well_spelled x.command) (e ∷ [])) kept.spelled (and_true (is_well_spelled e.command) true spelled refl);
      stands = record {
        requests = request_step es e (record { entry = length es; reply = reply }) (request_mark old) (request_mark new) kept.stands.requests entry.new refl replied note.requests;
        drafts = λ d. draft_step es e d (drafter_mark old d) (drafter_mark new d) (kept.stands.drafts d) (note.added d) (note.items d);
        present = λ d. drafters_step es e d (is_some (drafter_mark old d)) (is_some (drafter_mark new d)) (kept.stands.present d) (note.present d);
        drafter_count = count_step es e _ _ (is_some (drafter_mark old e.drafter)) kept.stands.drafter_count (kept.stands.present e.drafter) note.count;
        works = λ w.
            subst (W w) (sym (laws_more es e))
            (work_step es e w (laws es) marks items (id_mark old) (work_mark old w) (work_mark new w) e.command refl draft kept.stands.ids (kept.stands.works w)
            (note.works w ∙ ap (λ n. cond (is_named w (concerned_by es (id_mark old) e.command)) (Some (work_after (n + 1) (length es) e.command (length (new_bodies old es e)) (work_mark old w))) (work_mark old w)) kept.stands.front));
        ids = λ i.
            subst (I i) (sym (laws_more es e))
            (subst (λ m. IdStands (es ++ e ∷ []) m (facts_of i (laws es ++ law_of es e)))
            (sym (note.ids i ∙ ap (λ n. id_after (n + 1) (length es) e.command (new_bodies old es e) i (id_mark old i)) kept.stands.front))
            (id_case es e (laws es) marks items i (id_mark old i) e.command refl draft (kept.stands.ids i)));
        steps =
            let S : List StepMark → List BodyMark → List Command → Type 0 = λ steps bodies l. StepsStand (es ++ e ∷ []) bodies [] steps l in
            subst (S new.steps.items new.bodies.items) (sym (laws_more es e))
            (subst (λ bodies. S new.steps.items bodies (laws es ++ law_of es e)) (sym note.bodies)
            (subst (λ steps. S steps (old.bodies.items ++ new_bodies old es e) (laws es ++ law_of es e)) (sym note.steps)
            (step_case es e (laws es) marks items (id_mark old) (work_mark old) old.bodies.items old.steps.items (new_step old es e) e.command refl draft kept.stands.ids
            (λ w. (kept.stands.works w).last) refl refl refl refl kept.stands.steps)));
        acts =
            let P : List ℕ → List Command → Type 0 = λ ats l. ActsStand (es ++ e ∷ []) ats (acts_of l) in
            subst (P new.acts.items) (sym (laws_more es e))
            (subst (λ ats. P ats (laws es ++ law_of es e)) (sym note.acts) (act_case es e (laws es) items old.acts.items e.command refl kept.stands.acts));
        front = note.front ∙ ap (λ n. n + law_count e.command) kept.stands.front ∙ sym (front_is es e);
        size = note.size ∙ ap (λ n. n + entry_size e) kept.stands.size ∙ sym (size_more es e);
      };
    }
