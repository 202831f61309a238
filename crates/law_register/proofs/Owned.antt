-- What is known of the ids of a work, after each law entry that concerns it, and between them.
use Rattle.std.proofs.Common.{◌≡◌, ◌∙◌, sym, ap, subst, ℕ, zero, suc, ◌+◌, ◌≤◌, ◌<◌, ◌==◌, Bool, true, false, cond, List, [], ◌∷◌, ◌++◌, length, drop, Option, Some, None, option_map, slice_get, refl, arith}
use Rattle.std.proofs.lemmas.List.{append-nil}
use Rattle.std.specs.Str.{bytes_eq}
use Rattle.desk_base.specs.declared.id.Id.{Id}
use Rattle.law_register.specs.declared.law.command.Command.{Command}
use Rattle.law_register.specs.declared.law.command.Command.TheVariants.{Enact, Record, Correct, Withdraw, Restore, DraftAdd, DraftDrop, File}
use Rattle.law_register.specs.declared.register.entry.Entry.{Entry}
use Rattle.law_register.specs.declared.register.indexes.BodyMark.{BodyMark}
use Rattle.law_register.specs.declared.register.indexes.IdMark.{IdMark}
use Rattle.law_register.specs.declared.register.standing.Standing.TheVariants.{Live, Withdrawn}
use Rattle.law_register.specs.declared.law.modification.Modification.{Modification}
use Rattle.law_register.specs.Answer.Counted.{is_same_id}
use Rattle.law_register.specs.Register.Indexes.{told, told_at, work_named, body_of, recorded_for, recorded_from, id_after, BodiesStand, IdStands, LawStands}
use Rattle.law_register.specs.Register.KnownIds.{IdFacts, item_at, first_facts, facts_after, facts_of, ids_from_item, ids_recorded, ids_of}
use Rattle.law_register.specs.Register.Listing.{own_facts, id_told, ids_marked}
use Rattle.law_register.specs.Register.Concerns.{is_of, concerns}
use Rattle.law_register.proofs.IdSteps.{fresh, record_stands, correct_stands, withdraw_stands}
use Rattle.law_register.proofs.Puts.{number_same, id_same}
use Rattle.law_register.proofs.Snoc.{facts_more, ids_more}

-- the work of an id stays
changed_of : (w : List ℕ) (f : Option IdFacts) (g : IdFacts → IdFacts) → ((x : IdFacts) → (g x).work ≡ x.work) → is_of w (option_map g f) ≡ is_of w f
changed_of w None g same = refl
changed_of w (Some x) g same = ap (λ k. bytes_eq k w) (same x)

-- a law entry that does not concern a work leaves what is known of its ids
not_own : (w : List ℕ) (f : Option IdFacts) → is_of w f ≡ false → own_facts w f ≡ None
not_own w f h = ap (λ b. cond b f None) h

first_not_own : (w other : List ℕ) (m : Option Modification) → bytes_eq other w ≡ false → own_facts w (first_facts other m) ≡ None
first_not_own w other None h = refl
first_not_own w other (Some m) h = ap (λ b. cond b (first_facts other (Some m)) None) h

changed_same : (w : List ℕ) (id other : Id) (ls : List Command) (g : IdFacts → IdFacts) → ((x : IdFacts) → (g x).work ≡ x.work) → is_of w (facts_of other ls) ≡ false
    → own_facts w (cond (is_same_id other id) (option_map g (facts_of id ls)) (facts_of id ls)) ≡ own_facts w (facts_of id ls)
changed_same w id other ls g same h = by (is_same_id other id) refl
  where
    by : (b : Bool) → is_same_id other id ≡ b → own_facts w (cond b (option_map g (facts_of id ls)) (facts_of id ls)) ≡ own_facts w (facts_of id ls)
    by false is = refl
    by true is =
        let out : is_of w (facts_of id ls) ≡ false = ap (λ i. is_of w (facts_of i ls)) (sym (id_same other id is)) ∙ h in
        not_own w (option_map g (facts_of id ls)) (changed_of w (facts_of id ls) g same ∙ out) ∙ sym (not_own w (facts_of id ls) out)

own_after : (w : List ℕ) (id : Id) (ls : List Command) (l : Command) → concerns ls w l ≡ false
    → own_facts w (facts_after id (length ls + 1) l (facts_of id ls)) ≡ own_facts w (facts_of id ls)
own_after w id ls (Record other mods) h = by (id.law == length ls + 1) refl
  where
    by : (b : Bool) → (id.law == length ls + 1) ≡ b → own_facts w (cond b (first_facts other (item_at id.item mods)) (facts_of id ls)) ≡ own_facts w (facts_of id ls)
    by false is = refl
    by true is =
        first_not_own w other (item_at id.item mods) h ∙ sym (ap (own_facts w) (fresh id ls (number_same id.law (length ls + 1) is)))
own_after w id ls (Correct other body) h = changed_same w id other ls (λ x. record x { body = body }) (λ x. refl) h
own_after w id ls (Withdraw other) h = changed_same w id other ls (λ x. record x { standing = Withdrawn (length ls + 1) }) (λ x. refl) h
own_after w id ls (Restore other) h = changed_same w id other ls (λ x. record x { standing = Live }) (λ x. refl) h
own_after w id ls (Enact act) h = refl
own_after w id ls (DraftAdd work body) h = refl
own_after w id ls (DraftDrop item) h = refl
own_after w id ls (File work seen) h = refl

pub own_same : (w : List ℕ) (id : Id) (ls : List Command) (l : Command) → concerns ls w l ≡ false → own_facts w (facts_of id (ls ++ l ∷ [])) ≡ own_facts w (facts_of id ls)
own_same w id ls l h = ap (own_facts w) (facts_more id ls l) ∙ own_after w id ls l h

none_recorded : (w : List ℕ) (ls : List Command) (number : ℕ) (l : Command) → concerns ls w l ≡ false → ids_recorded number w l ≡ []
none_recorded w ls number (Record other mods) h = ap (λ b. cond b (ids_from_item number 1 mods) []) h
none_recorded w ls number (Enact act) h = refl
none_recorded w ls number (Correct id body) h = refl
none_recorded w ls number (Withdraw id) h = refl
none_recorded w ls number (Restore id) h = refl
none_recorded w ls number (DraftAdd work body) h = refl
none_recorded w ls number (DraftDrop item) h = refl
none_recorded w ls number (File work seen) h = refl

pub ids_same : (w : List ℕ) (ls : List Command) (l : Command) → concerns ls w l ≡ false → ids_of w (ls ++ l ∷ []) ≡ ids_of w ls
ids_same w ls l h = ids_more w ls l ∙ ap (λ ids. ids_of w ls ++ ids) (none_recorded w ls (length ls + 1) l h) ∙ append-nil (ids_of w ls)

-- what a law entry of the work makes of what is known of an id
own_first : (w other : List ℕ) (m : Option Modification) → bytes_eq other w ≡ true → own_facts w (first_facts other m) ≡ first_facts other m
own_first w other None h = refl
own_first w other (Some m) h = ap (λ b. cond b (first_facts other (Some m)) None) h

own_recorded : (w other : List ℕ) (b : Bool) (m : Option Modification) (f : Option IdFacts) → bytes_eq other w ≡ true
    → cond b (first_facts other m) (own_facts w f) ≡ own_facts w (cond b (first_facts other m) f)
own_recorded w other true m f h = sym (own_first w other m h)
own_recorded w other false m f h = refl

own_changed : (w : List ℕ) (b : Bool) (g : IdFacts → IdFacts) (f : Option IdFacts) → ((x : IdFacts) → (g x).work ≡ x.work)
    → cond b (option_map g (own_facts w f)) (own_facts w f) ≡ own_facts w (cond b (option_map g f) f)
own_changed w false g f same = refl
own_changed w true g None same = refl
own_changed w true g (Some x) same = by (bytes_eq x.work w) ∙ sym (ap (λ k. cond (bytes_eq k w) (Some (g x)) None) (same x))
  where
    by : (b : Bool) → option_map g (cond b (Some x) None) ≡ cond b (Some (g x)) None
    by true = refl
    by false = refl

not_yet : (w : List ℕ) (id : Id) (number : ℕ) (f : Option IdFacts) → (id.law ≡ number → f ≡ None) → id.law ≡ number → own_facts w f ≡ None
not_yet w id number f new is = ap (own_facts w) (new is)

-- the entry of a step
recorded_told : (number at : ℕ) (bodies : List BodyMark) (id : Id) (m : Option IdMark) (w : List ℕ) (c : Command) → recorded_for c ≡ Some w
    → id_after number at c bodies id m ≡ recorded_from number at 1 bodies id m
recorded_told number at bodies id m w (Record work mods) h = refl
recorded_told number at bodies id m w (File work seen) h = refl
recorded_told number at bodies id m w (Enact act) h = absurd (let no : None ≡ Some w = h in cc)
recorded_told number at bodies id m w (Correct other body) h = absurd (let no : None ≡ Some w = h in cc)
recorded_told number at bodies id m w (Withdraw other) h = absurd (let no : None ≡ Some w = h in cc)
recorded_told number at bodies id m w (Restore other) h = absurd (let no : None ≡ Some w = h in cc)
recorded_told number at bodies id m w (DraftAdd work body) h = absurd (let no : None ≡ Some w = h in cc)
recorded_told number at bodies id m w (DraftDrop item) h = absurd (let no : None ≡ Some w = h in cc)

recorded_names : (w : List ℕ) (c : Command) → recorded_for c ≡ Some w → work_named c ≡ Some w
recorded_names w (Record work mods) h = h
recorded_names w (File work seen) h = h
recorded_names w (Enact act) h = absurd (let no : None ≡ Some w = h in cc)
recorded_names w (Correct other body) h = absurd (let no : None ≡ Some w = h in cc)
recorded_names w (Withdraw other) h = absurd (let no : None ≡ Some w = h in cc)
recorded_names w (Restore other) h = absurd (let no : None ≡ Some w = h in cc)
recorded_names w (DraftAdd work body) h = absurd (let no : None ≡ Some w = h in cc)
recorded_names w (DraftDrop item) h = absurd (let no : None ≡ Some w = h in cc)

-- a law entry of the work, with the entry at its index
module _ (es : List Entry) (w : List ℕ) (number at : ℕ) (bodies : List BodyMark) (id : Id) (m : Option IdMark) (f : Option IdFacts)
    (h : IdStands es m (own_facts w f)) (new : id.law ≡ number → f ≡ None) where
  abbrev After : Command → Option Entry → Type 0
  After l found = IdStands es (id_told number at bodies id m found) (own_facts w (facts_after id number l f))

  record_after : (other : List ℕ) (mods : List Modification) (found : Option Entry) → slice_get es at ≡ found → told recorded_for found ≡ Some other → BodiesStand es bodies mods
      → bytes_eq other w ≡ true → After (Record other mods) found
  record_after other mods None is tells stand own = absurd (let no : None ≡ Some other = tells in cc)
  record_after other mods (Some e) is tells stand own =
      let named : told_at es at work_named ≡ Some other = ap (told work_named) is ∙ recorded_names other e.command tells in
      let K : Option IdMark → Type 0 = λ k. IdStands es k (own_facts w (facts_after id number (Record other mods) f)) in
      let F : Option IdFacts → Type 0 = λ x. IdStands es (recorded_from number at 1 bodies id m) x in
      subst K (sym (recorded_told number at bodies id m other e.command tells))
      (subst F (own_recorded w other (id.law == number) (item_at id.item mods) f own)
      (record_stands es other mods bodies number at id m (own_facts w f) h (not_yet w id number f new) stand named))

  other_after : (l : Command) (found : Option Entry) → told (λ c. Some c) found ≡ Some l
      → IdStands es (id_after number at l bodies id m) (own_facts w (facts_after id number l f)) → After l found
  other_after l None tells stand = absurd (let no : None ≡ Some l = tells in cc)
  other_after l (Some e) tells stand =
      let same : e.command ≡ l = cc in
      let K : Command → Type 0 = λ c. IdStands es (id_after number at c bodies id m) (own_facts w (facts_after id number l f)) in
      subst K (sym same) stand

  correct_after : (other : Id) (body : Modification) → told_at es at (λ c. Some c) ≡ Some (Correct other body) → After (Correct other body) (slice_get es at)
  correct_after other body tells =
      let brings : told_at es at (body_of 0) ≡ Some body = by (slice_get es at) tells in
      let F : Option IdFacts → Type 0 = λ x. IdStands es (id_after number at (Correct other body) bodies id m) x in
      other_after (Correct other body) (slice_get es at) tells
      (subst F (own_changed w (is_same_id other id) (λ x. record x { body = body }) f (λ x. refl))
      (correct_stands es body at (is_same_id other id) m (own_facts w f) h brings))
    where
      by : (found : Option Entry) → told (λ c. Some c) found ≡ Some (Correct other body) → told (body_of 0) found ≡ Some body
      by None is = absurd (let no : None ≡ Some (Correct other body) = is in cc)
      by (Some e) is =
          let same : e.command ≡ Correct other body = cc in
          ap (body_of 0) same

  pub own_step : (ls : List Command) (l : Command) → LawStands es at bodies l → concerns ls w l ≡ true → After l (slice_get es at)
  own_step ls (Record other mods) stand own = record_after other mods (slice_get es at) refl stand.0 stand.1 own
  own_step ls (Enact act) stand own = other_after (Enact act) (slice_get es at) stand.0 h
  own_step ls (Correct other body) stand own = correct_after other body stand.0
  own_step ls (Withdraw other) stand own =
      let F : Option IdFacts → Type 0 = λ x. IdStands es (id_after number at (Withdraw other) bodies id m) x in
      other_after (Withdraw other) (slice_get es at) stand.0
      (subst F (own_changed w (is_same_id other id) (λ x. record x { standing = Withdrawn number }) f (λ x. refl))
      (withdraw_stands es (Withdrawn number) (is_same_id other id) m (own_facts w f) h))
  own_step ls (Restore other) stand own =
      let F : Option IdFacts → Type 0 = λ x. IdStands es (id_after number at (Restore other) bodies id m) x in
      other_after (Restore other) (slice_get es at) stand.0
      (subst F (own_changed w (is_same_id other id) (λ x. record x { standing = Live }) f (λ x. refl))
      (withdraw_stands es Live (is_same_id other id) m (own_facts w f) h))
  own_step ls (File work seen) stand own = absurd stand
  own_step ls (DraftAdd work body) stand own = absurd stand
  own_step ls (DraftDrop item) stand own = absurd stand

-- the ids that it records
marked_ids : (es : List Entry) (number item : ℕ) (bodies : List BodyMark) (mods : List Modification) → BodiesStand es bodies mods → ids_marked number item bodies ≡ ids_from_item number item mods
marked_ids es number item [] [] h = refl
marked_ids es number item (b ∷ bodies) (m ∷ mods) h = ap (λ ids. record { law = number; item = item } ∷ ids) (marked_ids es number (item + 1) bodies mods h.1)
marked_ids es number item [] (m ∷ mods) h = absurd h
marked_ids es number item (b ∷ bodies) [] h = absurd h

pub ids_step : (es : List Entry) (w : List ℕ) (number at : ℕ) (bodies : List BodyMark) (ls : List Command) (l : Command) → LawStands es at bodies l → concerns ls w l ≡ true
    → ids_marked number 1 bodies ≡ ids_recorded number w l
ids_step es w number at bodies ls (Record other mods) stand own =
    marked_ids es number 1 bodies mods stand.1 ∙ sym (ap (λ b. cond b (ids_from_item number 1 mods) []) own)
ids_step es w number at bodies ls (Enact act) stand own = ap (ids_marked number 1) stand.1
ids_step es w number at bodies ls (Correct id body) stand own = ap (ids_marked number 1) stand.1
ids_step es w number at bodies ls (Withdraw id) stand own = ap (ids_marked number 1) stand.1
ids_step es w number at bodies ls (Restore id) stand own = ap (ids_marked number 1) stand.1
ids_step es w number at bodies ls (File work seen) stand own = absurd stand
ids_step es w number at bodies ls (DraftAdd work body) stand own = absurd stand
ids_step es w number at bodies ls (DraftDrop item) stand own = absurd stand

-- the first of them
first_marked : (number item place : ℕ) (bodies : List BodyMark) → place < length bodies
    → ids_marked number item (drop place bodies) ≡ record { law = number; item = item } ∷ ids_marked number (item + 1) (drop (suc place) bodies)
first_marked number item place [] h = absurd (omega (arith, h))
first_marked number item zero (b ∷ bodies) h = refl
first_marked number item (suc place) (b ∷ bodies) h = first_marked number item place bodies (omega (arith, h))

pub next_marked : (number place : ℕ) (bodies : List BodyMark) → place < length bodies
    → ids_marked number (place + 1) (drop place bodies) ≡ record { law = number; item = place + 1 } ∷ ids_marked number (place + 1 + 1) (drop (place + 1) bodies)
next_marked number place bodies h =
    first_marked number (place + 1) place bodies h
    ∙ ap (λ n. record { law = number; item = place + 1 } ∷ ids_marked number (place + 1 + 1) (drop n bodies)) (later place)
  where
    later : (n : ℕ) → suc n ≡ n + 1
    later n = omega arith

bodies_count : (es : List Entry) (bodies : List BodyMark) (mods : List Modification) → BodiesStand es bodies mods → length bodies ≡ length mods
bodies_count es [] [] h = refl
bodies_count es (b ∷ bodies) (m ∷ mods) h = ap suc (bodies_count es bodies mods h.1)
bodies_count es [] (m ∷ mods) h = absurd h
bodies_count es (b ∷ bodies) [] h = absurd h

pub few_bodies : (es : List Entry) (at : ℕ) (bodies : List BodyMark) (l : Command) → LawStands es at bodies l
    → ((w : List ℕ) (mods : List Modification) → l ≡ Record w mods → length mods ≤ 64) → length bodies ≤ 64
few_bodies es at bodies (Record other mods) stand few = omega (arith, bodies_count es bodies mods stand.1, few other mods refl)
few_bodies es at bodies (Enact act) stand few = omega (arith, ap length stand.1)
few_bodies es at bodies (Correct id body) stand few = omega (arith, ap length stand.1)
few_bodies es at bodies (Withdraw id) stand few = omega (arith, ap length stand.1)
few_bodies es at bodies (Restore id) stand few = omega (arith, ap length stand.1)
few_bodies es at bodies (File work seen) stand few = absurd stand
few_bodies es at bodies (DraftAdd work body) stand few = absurd stand
few_bodies es at bodies (DraftDrop item) stand few = absurd stand
