-- What the marks of ids and works stand for, once a law entry stands behind the others.
use Rattle.std.proofs.Common.{◌≡◌, ◌∙◌, sym, ap, subst, ℕ, zero, suc, ◌+◌, ◌-◌, ◌≤◌, ◌<◌, ◌==◌, Bool, true, false, cond, ◌&&◌, List, [], ◌∷◌, ◌++◌, length, Option, Some, None, option_map, slice_get, refl, arith}
use Rattle.std.proofs.lemmas.List.{length-append}
use Rattle.std.proofs.lemmas.Bool.Decides.{nat_tests}
use Rattle.std.specs.Str.{bytes_eq}
use Rattle.desk_base.specs.declared.id.Id.{Id}
use Rattle.law_register.specs.declared.law.act.Act.{Act}
use Rattle.law_register.specs.declared.law.command.Command.{Command}
use Rattle.law_register.specs.declared.law.command.Command.TheVariants.{Enact, Record, Correct, Withdraw, Restore, DraftAdd, DraftDrop, File}
use Rattle.law_register.specs.declared.register.entry.Entry.{Entry}
use Rattle.law_register.specs.declared.register.indexes.BodyMark.{BodyMark}
use Rattle.law_register.specs.declared.register.indexes.EnactedMark.{EnactedMark}
use Rattle.law_register.specs.declared.register.indexes.IdMark.{IdMark}
use Rattle.law_register.specs.declared.register.indexes.WorkMark.{WorkMark}
use Rattle.law_register.specs.declared.register.standing.Standing.{Standing}
use Rattle.law_register.specs.declared.law.modification.Modification.{Modification}
use Rattle.law_register.specs.Answer.Counted.{is_same_id}
use Rattle.law_register.specs.Register.Indexes.{told_at, work_named, act_of, body_of, EnactedStands, WorkStands, IdStands, enacted_in, last_in, ids_in, recorded_from, recorded_mark, corrected, with_standing, work_of_mark, work_after, enacted_after, newly_enacted, BodiesStand}
use Rattle.law_register.specs.Register.Concerns.{is_named}
use Rattle.law_register.specs.Register.KnownIds.{IdFacts, item_at, first_facts, facts_after, facts_from, facts_of, enacted, enacted_by, enacted_or, ids_of, ids_recorded, ids_from_item}
use Rattle.law_register.specs.Register.Verdicts.{last_on}
use Rattle.law_register.specs.Register.Concerns.{is_of, concerns}
use Rattle.law_register.proofs.Puts.{number_either, number_same, number_is}
use Rattle.law_register.proofs.Snoc.{first_act, enacted_more, ids_more, last_more}
use Rattle.law_register.proofs.Steps.{enacted_stays, told_last}

-- an id of a later law entry is not recorded yet
pub differ : (a b : ℕ) → b < a → (a == b) ≡ false
differ a b h = grind (arith, nat_tests)

pub either : {X : Type 0} (b : Bool) (x : X) → cond b x x ≡ x
either true x = refl
either false x = refl

none_yet : (id : Id) (number : ℕ) (l : Command) → number < id.law → facts_after id number l None ≡ None
none_yet id number (Record work mods) h = ap (λ b. cond b (first_facts work (item_at id.item mods)) None) (differ id.law number h)
none_yet id number (Correct other body) h = either (is_same_id other id) None
none_yet id number (Withdraw other) h = either (is_same_id other id) None
none_yet id number (Restore other) h = either (is_same_id other id) None
none_yet id number (Enact act) h = refl
none_yet id number (DraftAdd work body) h = refl
none_yet id number (DraftDrop item) h = refl
none_yet id number (File work seen) h = refl

pub fresh_from : (id : Id) (number : ℕ) (ls : List Command) → number + length ls ≤ id.law → facts_from id number None ls ≡ None
fresh_from id number [] h = refl
fresh_from id number (l ∷ ls) h =
    ap (λ f. facts_from id (number + 1) f ls) (none_yet id number l (omega arith)) ∙ fresh_from id (number + 1) ls (omega arith)

pub fresh : (id : Id) (ls : List Command) → id.law ≡ length ls + 1 → facts_of id ls ≡ None
fresh id ls h = fresh_from id 1 ls (omega arith)

no_mark : (es : List Entry) (m : Option IdMark) (f : Option IdFacts) → IdStands es m f → f ≡ None → m ≡ None
no_mark es None f h is = refl
no_mark es (Some m) None h is = absurd h
no_mark es (Some m) (Some f) h is = absurd (let no : Some f ≡ None = is in cc)

-- what is recorded as the items of a law entry
module _ (number at : ℕ) (id : Id) where
  not_recorded : (item : ℕ) (bs : List BodyMark) (m : Option IdMark) → (number == id.law) ≡ false → recorded_from number at item bs id m ≡ m
  not_recorded item [] m other = refl
  not_recorded item (b ∷ bs) m other =
      ap (λ t. recorded_from number at (item + 1) bs id (cond (t && (item == id.item)) (Some (recorded_mark at b)) m)) other
      ∙ not_recorded (item + 1) bs m other

  passed : (item : ℕ) (bs : List BodyMark) (m : Option IdMark) → id.item < item → recorded_from number at item bs id m ≡ m
  passed item [] m h = refl
  passed item (b ∷ bs) m h =
      ap (λ t. recorded_from number at (item + 1) bs id (cond t (Some (recorded_mark at b)) m)) (no (number == id.law) (item == id.item) (differ item id.item h))
      ∙ passed (item + 1) bs m (omega arith)
    where
      no : (a b : Bool) → b ≡ false → a && b ≡ false
      no true b e = e
      no false b e = refl

  picked : (item : ℕ) (bs : List BodyMark) (n : ℕ) → (number == id.law) ≡ true → id.item ≡ item + n
      → recorded_from number at item bs id None ≡ option_map (recorded_mark at) (slice_get bs n)
  picked item [] n mine is = refl
  picked item (b ∷ bs) zero mine is =
      ap (λ t. recorded_from number at (item + 1) bs id (cond (t && (item == id.item)) (Some (recorded_mark at b)) None)) mine
      ∙ ap (λ t. recorded_from number at (item + 1) bs id (cond t (Some (recorded_mark at b)) None)) (number_is item id.item (omega arith))
      ∙ passed (item + 1) bs (Some (recorded_mark at b)) (omega arith)
  picked item (b ∷ bs) (suc n) mine is =
      ap (λ t. recorded_from number at (item + 1) bs id (cond (t && (item == id.item)) (Some (recorded_mark at b)) None)) mine
      ∙ ap (λ t. recorded_from number at (item + 1) bs id (cond t (Some (recorded_mark at b)) None)) (number_either item id.item ∙ differ id.item item (omega arith))
      ∙ picked (item + 1) bs n mine (omega arith)

picked_stands : (es : List Entry) (at : ℕ) (w : List ℕ) (bs : List BodyMark) (ms : List Modification) (n : ℕ) → BodiesStand es bs ms → told_at es at work_named ≡ Some w
    → IdStands es (option_map (recorded_mark at) (slice_get bs n)) (first_facts w (slice_get ms n))
picked_stands es at w [] [] n h named = tt
picked_stands es at w (b ∷ bs) (m ∷ ms) zero h named = (named, h.0, refl)
picked_stands es at w (b ∷ bs) (m ∷ ms) (suc n) h named = picked_stands es at w bs ms n h.1 named
picked_stands es at w [] (m ∷ ms) n h named = absurd h
picked_stands es at w (b ∷ bs) [] n h named = absurd h

pub item_at_suc : (n : ℕ) (mods : List Modification) → item_at (suc n) mods ≡ slice_get mods n
item_at_suc n mods = ap (λ b. cond b None (slice_get mods (suc n - 1))) (differ (suc n) 0 (omega arith)) ∙ ap (slice_get mods) (less n)
  where
    less : (n : ℕ) → suc n - 1 ≡ n
    less n = omega arith

-- what a Record or a File makes of an id
pub record_stands : (es : List Entry) (w : List ℕ) (mods : List Modification) (bodies : List BodyMark) (number at : ℕ) (id : Id) (m : Option IdMark) (f : Option IdFacts)
    → IdStands es m f → (id.law ≡ number → f ≡ None) → BodiesStand es bodies mods → told_at es at work_named ≡ Some w
    → IdStands es (recorded_from number at 1 bodies id m) (cond (id.law == number) (first_facts w (item_at id.item mods)) f)
record_stands es w mods bodies number at id m f h new bodies_stand named = by (id.law == number) refl
  where
    here : (id.law == number) ≡ true → (n : ℕ) → id.item ≡ n → IdStands es (recorded_from number at 1 bodies id None) (first_facts w (item_at n mods))
    here mine zero is =
        let P : Option IdMark → Type 0 = λ k. IdStands es k None in
        subst P (sym (passed number at id 1 bodies None (omega arith))) tt
    here mine (suc n) is =
        let P : Option IdMark → Type 0 = λ k. IdStands es k (first_facts w (item_at (suc n) mods)) in
        let Q : Option Modification → Type 0 = λ k. IdStands es (option_map (recorded_mark at) (slice_get bodies n)) (first_facts w k) in
        subst P (sym (picked number at id 1 bodies n (number_either number id.law ∙ mine) (omega arith)))
        (subst Q (sym (item_at_suc n mods)) (picked_stands es at w bodies mods n bodies_stand named))

    by : (b : Bool) → (id.law == number) ≡ b → IdStands es (recorded_from number at 1 bodies id m) (cond b (first_facts w (item_at id.item mods)) f)
    by true mine =
        let P : Option IdMark → Type 0 = λ k. IdStands es (recorded_from number at 1 bodies id k) (first_facts w (item_at id.item mods)) in
        subst P (sym (no_mark es m f h (new (number_same id.law number mine)))) (here mine id.item refl)
    by false other =
        let P : Option IdMark → Type 0 = λ k. IdStands es k f in
        subst P (sym (not_recorded number at id 1 bodies m (number_either number id.law ∙ other))) h

-- what a Correct makes of an id
pub correct_stands : (es : List Entry) (body : Modification) (at : ℕ) (own : Bool) (m : Option IdMark) (f : Option IdFacts)
    → IdStands es m f → told_at es at (body_of 0) ≡ Some body
    → IdStands es (cond own (option_map (corrected at) m) m) (cond own (option_map (λ (x : IdFacts). record x { body = body }) f) f)
correct_stands es body at false m f h brings = h
correct_stands es body at true None None h brings = tt
correct_stands es body at true (Some m) (Some f) h brings = (h.0, brings, h.2)
correct_stands es body at true None (Some f) h brings = h
correct_stands es body at true (Some m) None h brings = h

-- what a Withdraw or a Restore makes of an id
pub withdraw_stands : (es : List Entry) (standing : Standing) (own : Bool) (m : Option IdMark) (f : Option IdFacts) → IdStands es m f
    → IdStands es (cond own (option_map (with_standing standing) m) m) (cond own (option_map (λ (x : IdFacts). record x { standing = standing }) f) f)
withdraw_stands es standing false m f h = h
withdraw_stands es standing true None None h = tt
withdraw_stands es standing true (Some m) (Some f) h = (h.0, h.1, refl)
withdraw_stands es standing true None (Some f) h = h
withdraw_stands es standing true (Some m) None h = h

-- the work of an id
pub of_work : (es : List Entry) (w : List ℕ) (m : Option IdMark) (f : Option IdFacts) → IdStands es m f → is_of w f ≡ is_named w (work_of_mark es m)
of_work es w None None h = refl
of_work es w (Some m) (Some f) h = sym (ap (is_named w) h.0)
of_work es w None (Some f) h = absurd h
of_work es w (Some m) None h = absurd h

-- a work's act
pub enact_step : (es : List Entry) (e : Entry) (act : Act) (number : ℕ) (own : Bool) (m : Option EnactedMark) (found : Option (ℕ × Act)) → EnactedStands es m found → e.command ≡ Enact act
    → EnactedStands (es ++ e ∷ []) (cond own (enacted_after number (length es) (Enact act) m) m) (first_act found (enacted_or number (cond own (Some act) None) None))
enact_step es e act number true None None h is = (refl, told_last act_of es e ∙ ap act_of is)
enact_step es e act number false None None h is = tt
enact_step es e act number true (Some m) (Some found) h is = enacted_stays es e (Some m) (Some found) h
enact_step es e act number false (Some m) (Some found) h is = enacted_stays es e (Some m) (Some found) h
enact_step es e act number own None (Some found) h is = absurd h
enact_step es e act number own (Some m) None h is = absurd h

pub keep_step : (es : List Entry) (e : Entry) (own : Bool) (m k : Option EnactedMark) (found : Option (ℕ × Act)) → EnactedStands es m found → k ≡ m
    → EnactedStands (es ++ e ∷ []) (cond own k m) (first_act found None)
keep_step es e own None k None h is = subst (λ x. EnactedStands (es ++ e ∷ []) x None) (sym (same own is)) tt
  where
    same : (b : Bool) → k ≡ None → cond b k None ≡ None
    same true i = i
    same false i = refl
keep_step es e own (Some m) k (Some found) h is = subst (λ x. EnactedStands (es ++ e ∷ []) x (Some found)) (sym (same own is)) (enacted_stays es e (Some m) (Some found) h)
  where
    same : (b : Bool) → k ≡ Some m → cond b k (Some m) ≡ Some m
    same true i = i
    same false i = refl
keep_step es e own None k (Some found) h is = absurd h
keep_step es e own (Some m) k None h is = absurd h

pub not_enacting : (number at : ℕ) (c : Command) (m : Option EnactedMark) → newly_enacted number at c ≡ None → enacted_after number at c m ≡ m
not_enacting number at c None h = h
not_enacting number at c (Some m) h = refl

-- how many ids are recorded in a work
item_count : (number item : ℕ) (mods : List Modification) → length (ids_from_item number item mods) ≡ length mods
item_count number item [] = refl
item_count number item (m ∷ ms) = ap suc (item_count number (item + 1) ms)

pub recorded_count : (number : ℕ) (w : List ℕ) (other : List ℕ) (mods : List Modification) → length (ids_recorded number w (Record other mods)) ≡ cond (bytes_eq other w) (length mods) 0
recorded_count number w other mods = by (bytes_eq other w)
  where
    by : (b : Bool) → length (cond b (ids_from_item number 1 mods) []) ≡ cond b (length mods) 0
    by true = item_count number 1 mods
    by false = refl

-- a work's mark, where `own` says whether the law entry concerns it
pub work_case : (es : List Entry) (e : Entry) (w : List ℕ) (ls : List Command) (l c : Command) (count : ℕ) (own : Bool) (old new : Option WorkMark)
    → WorkStands es old (enacted w ls) (last_on w ls) (length (ids_of w ls))
    → concerns ls w l ≡ own
    → EnactedStands (es ++ e ∷ []) (cond own (enacted_after (length ls + 1) (length es) c (enacted_in old)) (enacted_in old)) (first_act (enacted w ls) (enacted_or (length ls + 1) (enacted_by w l) None))
    → length (ids_recorded (length ls + 1) w l) ≡ cond own count 0
    → new ≡ cond own (Some (work_after (length ls + 1) (length es) c count old)) old
    → WorkStands (es ++ e ∷ []) new (enacted w (ls ++ l ∷ [])) (last_on w (ls ++ l ∷ [])) (length (ids_of w (ls ++ l ∷ [])))
work_case es e w ls l c count own old new h concerned act counted put =
    let number : ℕ = length ls + 1 in
    let P : Option WorkMark → Type 0 = λ m. WorkStands (es ++ e ∷ []) m (enacted w (ls ++ l ∷ [])) (last_on w (ls ++ l ∷ [])) (length (ids_of w (ls ++ l ∷ []))) in
    subst P (sym put) (record {
      act = enacted_more_stands own act;
      last = last_is own ∙ ap (λ b. cond b number (last_in old)) (sym concerned) ∙ ap (λ n. cond (concerns ls w l) number n) h.last ∙ sym (last_more w ls l);
      ids = ids_is own ∙ ap (λ n. n + cond own count 0) h.ids ∙ ap (λ n. length (ids_of w ls) + n) (sym counted)
          ∙ sym (length-append (ids_of w ls) (ids_recorded number w l)) ∙ sym (ap length (ids_more w ls l));
    })
  where
    last_is : (b : Bool) → last_in (cond b (Some (work_after (length ls + 1) (length es) c count old)) old) ≡ cond b (length ls + 1) (last_in old)
    last_is true = refl
    last_is false = refl

    plus_nothing : (n : ℕ) → n ≡ n + 0
    plus_nothing n = omega arith

    ids_is : (b : Bool) → ids_in (cond b (Some (work_after (length ls + 1) (length es) c count old)) old) ≡ ids_in old + cond b count 0
    ids_is true = refl
    ids_is false = plus_nothing (ids_in old)

    enacted_is : (b : Bool) → enacted_in (cond b (Some (work_after (length ls + 1) (length es) c count old)) old) ≡ cond b (enacted_after (length ls + 1) (length es) c (enacted_in old)) (enacted_in old)
    enacted_is true = refl
    enacted_is false = refl

    enacted_more_stands : (b : Bool)
        → EnactedStands (es ++ e ∷ []) (cond b (enacted_after (length ls + 1) (length es) c (enacted_in old)) (enacted_in old)) (first_act (enacted w ls) (enacted_or (length ls + 1) (enacted_by w l) None))
        → EnactedStands (es ++ e ∷ []) (enacted_in (cond b (Some (work_after (length ls + 1) (length es) c count old)) old)) (enacted w (ls ++ l ∷ []))
    enacted_more_stands b k =
        let F : Option (ℕ × Act) → Type 0 = λ f. EnactedStands (es ++ e ∷ []) (enacted_in (cond b (Some (work_after (length ls + 1) (length es) c count old)) old)) f in
        let M : Option EnactedMark → Type 0 = λ m. EnactedStands (es ++ e ∷ []) m (first_act (enacted w ls) (enacted_or (length ls + 1) (enacted_by w l) None)) in
        subst F (sym (enacted_more w ls l)) (subst M (sym (enacted_is b)) k)
