-- What is known of a work by one entry more agrees with what was known before the touched day.
use Rattle.std.proofs.Common.{◌≡◌, ◌∙◌, sym, ap, subst, ℕ, zero, suc, ◌+◌, ◌-◌, ◌≤◌, ◌==◌, Bool, true, false, cond, List, [], ◌∷◌, ◌++◌, append_assoc, length, Option, Some, None, option_map, refl, inl, inr, ◌⊎◌, arith}
use Rattle.std.proofs.lemmas.Bool.Decides.{nat_tests}
use Rattle.std.proofs.lemmas.List.{append-nil, length-append}
use Rattle.std.specs.List.{AllByRecursion}
use Rattle.std.specs.Prelude.{slice_get}
use Rattle.std.specs.Str.{bytes_eq}
use Rattle.desk_base.specs.declared.id.Id.{Id}
use Rattle.law_register.specs.declared.answer.question.Reading.{Reading}
use Rattle.law_register.specs.declared.law.act.Act.{Act}
use Rattle.law_register.specs.declared.law.command.Command.{Command}
use Rattle.law_register.specs.declared.law.command.Command.TheVariants.{Enact, Record, Correct, Withdraw, Restore, DraftAdd, DraftDrop, File}
use Rattle.law_register.specs.declared.law.modification.Modification.{Modification}
use Rattle.law_register.specs.declared.register.entry.Entry.{Entry}
use Rattle.law_register.specs.declared.register.known.Known.{Known}
use Rattle.law_register.specs.declared.register.known.KnownMod.{KnownMod}
use Rattle.law_register.specs.declared.register.standing.Standing.TheVariants.{Live, Withdrawn}
use Rattle.law_register.specs.Answer.Counted.{is_same_id}
use Rattle.law_register.specs.Register.Concerns.{is_named, is_of}
use Rattle.law_register.specs.Answer.Touched.{day_among, day_changed, day_corrected, day_entered, day_known, day_recorded, day_saying, first_on, mods_in, mods_of, own_day, touched_day, touched_days, with_day, work_entered}
use Rattle.law_register.specs.Register.Drafts.{draft_of}
use Rattle.law_register.specs.Register.KnownIds.{IdFacts, corrected, enacted, enacted_by, enacted_or, facts_after, facts_of, first_facts, ids_from_item, ids_of, ids_recorded, item_at, known_as, known_at, known_by, known_ids, marked}
use Rattle.law_register.specs.Register.LawList.{front, law_of, laws}
use Rattle.law_register.specs.Register.Standings.{is_live}
use Rattle.law_register.specs.Register.Verdicts.{is_legal}
use Rattle.law_register.proofs.IdSteps.{fresh}
use Rattle.law_register.proofs.Lists.{take_all}
use Rattle.law_register.proofs.Next.{one_at_most}
use Rattle.law_register.proofs.Puts.{bytes_same, id_same, number_is}
use Rattle.law_register.proofs.Snoc.{enacted_more, facts_more, first_act, ids_more, laws_more}
use Rattle.version_cache.specs.Agreement.{Agree, AgreeOn, IsBefore}
use Rattle.version_cache.proofs.Directed.{legal_directed, known_directed, none_at_new}
use Rattle.version_cache.proofs.Mute.{Alike, AlikeIf, IsMute, NoneCounted, agree_on, before_both, none_counted}

-- what holds of no law, and of one law entry more, holds of all law
module _ (P : List Command → Type 0) (more : (ls : List Command) (l : Command) → P ls → P (ls ++ l ∷ [])) where
  along : (before ls : List Command) → P before → P (before ++ ls)
  along before [] p = subst P (sym (append-nil before)) p
  along before (l ∷ ls) p = subst P (append_assoc before (l ∷ []) ls) (along (before ++ l ∷ []) ls (more before l p))

  by_last : P [] → (ls : List Command) → P ls
  by_last p ls = along [] ls p

all_joined : {A : Type 0} (P : A → Type 0) (xs ys : List A) → AllByRecursion P xs → AllByRecursion P ys → AllByRecursion P (xs ++ ys)
all_joined P [] ys h k = k
all_joined P (x ∷ xs) ys h k = (h.0, all_joined P xs ys h.1 k)

all_weaker : {A : Type 0} (P Q : A → Type 0) → ((x : A) → P x → Q x) → (xs : List A) → AllByRecursion P xs → AllByRecursion Q xs
all_weaker P Q weaker [] h = tt
all_weaker P Q weaker (x ∷ xs) h = (weaker x h.0, all_weaker P Q weaker xs h.1)

-- the ids of a work
abbrev OfWork : List ℕ → Option IdFacts → Type 0
OfWork w None = Unit {0}
OfWork w (Some f) = bytes_eq f.work w ≡ true

module _ (w : List ℕ) where
  -- an id of the work is of a law entry that there is, and its work is the work
  abbrev IsOwn : List Command → Id → Type 0
  IsOwn ls id = (id.law ≤ length ls) × OfWork w (facts_of id ls)

  kept_work : (b : Bool) (g : IdFacts → IdFacts) → ((f : IdFacts) → (g f).work ≡ f.work) → (f : Option IdFacts) → OfWork w f → OfWork w (cond b (option_map g f) f)
  kept_work true g same None h = tt
  kept_work true g same (Some f) h = ap (λ k. bytes_eq k w) (same f) ∙ h
  kept_work false g same f h = h

  own_after : (id : Id) (ls : List Command) (l : Command) → IsOwn ls id → OfWork w (facts_after id (length ls + 1) l (facts_of id ls))
  own_after id ls (Record other ms) h =
      subst (λ b. OfWork w (cond b (first_facts other (item_at id.item ms)) (facts_of id ls))) (sym (differ_least id.law (length ls) h.0)) h.1
    where
      differ_least : (a n : ℕ) → a ≤ n → (a == n + 1) ≡ false
      differ_least a n h = grind (arith, nat_tests)
  own_after id ls (Correct other body) h = kept_work (is_same_id other id) (corrected body) (λ f. refl) (facts_of id ls) h.1
  own_after id ls (Withdraw other) h = kept_work (is_same_id other id) (marked (Withdrawn (length ls + 1))) (λ f. refl) (facts_of id ls) h.1
  own_after id ls (Restore other) h = kept_work (is_same_id other id) (marked Live) (λ f. refl) (facts_of id ls) h.1
  own_after id ls (Enact act) h = h.1
  own_after id ls (DraftAdd work body) h = h.1
  own_after id ls (DraftDrop item) h = h.1
  own_after id ls (File work seen) h = h.1

  one_longer : (ls : List Command) (l : Command) → length (ls ++ l ∷ []) ≡ length ls + 1
  one_longer ls l = length-append ls (l ∷ [])

  own_still : (ls : List Command) (l : Command) (id : Id) → IsOwn ls id → IsOwn (ls ++ l ∷ []) id
  own_still ls l id h = (
    (let longer : length (ls ++ l ∷ []) ≡ length ls + 1 = one_longer ls l in let least : id.law ≤ length ls = h.0 in omega arith),
    subst (OfWork w) (sym (facts_more id ls l)) (own_after id ls l h),
  )

  abbrev IsNew : List Command → Id → Type 0
  IsNew ls id = id.law ≡ length ls + 1

  items_new : (ls : List Command) (number item : ℕ) (ms : List Modification) → number ≡ length ls + 1 → AllByRecursion (IsNew ls) (ids_from_item number item ms)
  items_new ls number item [] h = tt
  items_new ls number item (m ∷ ms) h = (h, items_new ls number (item + 1) ms h)

  recorded_new : (ls : List Command) (l : Command) → AllByRecursion (IsNew ls) (ids_recorded (length ls + 1) w l)
  recorded_new ls (Record other ms) = by (bytes_eq other w)
    where
      by : (b : Bool) → AllByRecursion (IsNew ls) (cond b (ids_from_item (length ls + 1) 1 ms) [])
      by true = items_new ls (length ls + 1) 1 ms refl
      by false = tt
  recorded_new ls (Enact act) = tt
  recorded_new ls (Correct other body) = tt
  recorded_new ls (Withdraw other) = tt
  recorded_new ls (Restore other) = tt
  recorded_new ls (DraftAdd work body) = tt
  recorded_new ls (DraftDrop item) = tt
  recorded_new ls (File work seen) = tt

  new_own : (ls : List Command) (other : List ℕ) (ms : List Modification) (id : Id) → bytes_eq other w ≡ true → IsNew ls id → IsOwn (ls ++ Record other ms ∷ []) id
  new_own ls other ms id own new = (
    (let l : Command = Record other ms in let longer : length (ls ++ l ∷ []) ≡ length ls + 1 = one_longer ls l in omega (arith, new)),
    subst (OfWork w) (sym (facts_more id ls (Record other ms)))
        (subst (λ b. OfWork w (cond b (first_facts other (item_at id.item ms)) (facts_of id ls))) (sym (number_is id.law (length ls + 1) new)) (by (item_at id.item ms))),
  )
    where
      by : (m : Option Modification) → OfWork w (first_facts other m)
      by None = tt
      by (Some m) = own

  recorded_own : (ls : List Command) (l : Command) → AllByRecursion (IsOwn (ls ++ l ∷ [])) (ids_recorded (length ls + 1) w l)
  recorded_own ls (Record other ms) = by (bytes_eq other w) refl
    where
      by : (b : Bool) → bytes_eq other w ≡ b → AllByRecursion (IsOwn (ls ++ Record other ms ∷ [])) (cond b (ids_from_item (length ls + 1) 1 ms) [])
      by true own =
          all_weaker (IsNew ls) (IsOwn (ls ++ Record other ms ∷ [])) (λ id new. new_own ls other ms id own new) (ids_from_item (length ls + 1) 1 ms) (items_new ls (length ls + 1) 1 ms refl)
      by false own = tt
  recorded_own ls (Enact act) = tt
  recorded_own ls (Correct other body) = tt
  recorded_own ls (Withdraw other) = tt
  recorded_own ls (Restore other) = tt
  recorded_own ls (DraftAdd work body) = tt
  recorded_own ls (DraftDrop item) = tt
  recorded_own ls (File work seen) = tt

  own_step : (ls : List Command) (l : Command) → AllByRecursion (IsOwn ls) (ids_of w ls) → AllByRecursion (IsOwn (ls ++ l ∷ [])) (ids_of w (ls ++ l ∷ []))
  own_step ls l h =
      subst (AllByRecursion (IsOwn (ls ++ l ∷ []))) (sym (ids_more w ls l))
      (all_joined (IsOwn (ls ++ l ∷ [])) (ids_of w ls) (ids_recorded (length ls + 1) w l)
      (all_weaker (IsOwn ls) (IsOwn (ls ++ l ∷ [])) (own_still ls l) (ids_of w ls) h) (recorded_own ls l))

  all_own : (ls : List Command) → AllByRecursion (IsOwn ls) (ids_of w ls)
  all_own ls = by_last (λ ls. AllByRecursion (IsOwn ls) (ids_of w ls)) own_step tt ls

-- ids as they are known
known_joined : (ls : List Command) (xs ys : List Id) → known_ids ls (xs ++ ys) ≡ known_ids ls xs ++ known_ids ls ys
known_joined ls [] ys = refl
known_joined ls (id ∷ xs) ys =
    ap (λ ms. known_as id (facts_of id ls) ++ ms) (known_joined ls xs ys) ∙ sym (append_assoc (known_as id (facts_of id ls)) (known_ids ls xs) (known_ids ls ys))

known_alike : (old new : List Command) (ids : List Id) → AllByRecursion (λ id. facts_of id new ≡ facts_of id old) ids → known_ids new ids ≡ known_ids old ids
known_alike old new [] h = refl
known_alike old new (id ∷ ids) h = ap (λ f. known_as id f ++ known_ids new ids) h.0 ∙ ap (λ ms. known_as id (facts_of id old) ++ ms) (known_alike old new ids h.1)

abbrev no_change : Id → Bool
no_change id = false

unchanged : (day : ℕ) (ms : List KnownMod) → Alike day no_change ms ms
unchanged day [] = tt
unchanged day (m ∷ ms) = (refl, unchanged day ms)

abbrev known_mod : Id → IdFacts → KnownMod
known_mod id f = record { id = id; live = is_live f.standing; body = f.body; carried = None }

-- ids of which one says something else, or stands no longer or again
module _ (day : ℕ) (other : Id) (g : IdFacts → IdFacts) (old new : List Command)
    (after : (id : Id) → facts_of id new ≡ cond (is_same_id other id) (option_map g (facts_of id old)) (facts_of id old))
    (mute : (f : IdFacts) → facts_of other old ≡ Some f → IsMute day f.body × IsMute day (g f).body) where
  changed_alike : (ids : List Id) → Alike day (is_same_id other) (known_ids old ids) (known_ids new ids)
  changed_alike [] = tt
  changed_alike (id ∷ ids) =
      subst (λ f. Alike day (is_same_id other) (known_as id (facts_of id old) ++ known_ids old ids) (known_as id f ++ known_ids new ids)) (sym (after id))
      (by (is_same_id other id) refl (facts_of id old) refl (changed_alike ids))
    where
      by : (b : Bool) → is_same_id other id ≡ b → (f : Option IdFacts) → facts_of id old ≡ f → Alike day (is_same_id other) (known_ids old ids) (known_ids new ids)
          → Alike day (is_same_id other) (known_as id f ++ known_ids old ids) (known_as id (cond b (option_map g f) f) ++ known_ids new ids)
      by true same None is rest = rest
      by true same (Some f) is rest =
          let both = mute f (ap (λ i. facts_of i old) (id_same other id same) ∙ is) in (
            subst (λ b. AlikeIf day (is_same_id other) b (known_mod id f) (known_mod id (g f)))
                (sym same) (refl, both.0, both.1),
            rest,
          )
      by false same None is rest = rest
      by false same (Some f) is rest = (
        subst (λ b. AlikeIf day (is_same_id other) b (known_mod id f) (known_mod id f))
            (sym same) refl,
        rest,
      )

-- modifications that are known of ids
known_all : (P : KnownMod → Type 0) (ls : List Command) (ids : List Id)
    → AllByRecursion (λ id. (f : IdFacts) → facts_of id ls ≡ Some f → P (known_mod id f)) ids
    → AllByRecursion P (known_ids ls ids)
known_all P ls [] h = tt
known_all P ls (id ∷ ids) h = by (facts_of id ls) refl (known_all P ls ids h.1)
  where
    by : (f : Option IdFacts) → facts_of id ls ≡ f → AllByRecursion P (known_ids ls ids) → AllByRecursion P (known_as id f ++ known_ids ls ids)
    by None is rest = rest
    by (Some f) is rest = (h.0 f is, rest)

all_at : (P : Modification → Type 0) (xs : List Modification) (n : ℕ) (x : Modification) → AllByRecursion P xs → slice_get xs n ≡ Some x → P x
all_at P [] n x h is = absurd (let wrong : None ≡ Some x = is in cc)
all_at P (y ∷ ys) zero x h is = let same : y ≡ x = cc in subst P same h.0
all_at P (y ∷ ys) (suc n) x h is = all_at P ys n x h.1 is

item_in : (P : Modification → Type 0) (xs : List Modification) (item : ℕ) (x : Modification) → AllByRecursion P xs → item_at item xs ≡ Some x → P x
item_in P xs item x h = by (item == 0)
  where
    by : (b : Bool) → cond b None (slice_get xs (item - 1)) ≡ Some x → P x
    by true is = absurd (let wrong : None ≡ Some x = is in cc)
    by false is = all_at P xs (item - 1) x h is

body_in : (P : Modification → Type 0) (w : List ℕ) (m : Option Modification) (f : IdFacts) → ((x : Modification) → m ≡ Some x → P x) → first_facts w m ≡ Some f → P f.body
body_in P w None f h is = absurd (let wrong : None ≡ Some f = is in cc)
body_in P w (Some m) f h is =
    let first : IdFacts = record { work = w; body = m; standing = Live } in
    subst (λ (k : IdFacts). P k.body) (inner first f is) (h m refl)
  where
    inner : (a b : IdFacts) → Some a ≡ Some b → a ≡ b
    inner a b e = cc

bodies_mute : (day : ℕ) (bodies : List Modification) → IsBefore day (day_recorded bodies) → AllByRecursion (IsMute day) bodies
bodies_mute day [] h = tt
bodies_mute day (b ∷ bs) h = let both = before_both day (own_day b) (day_recorded bs) h in (both.0, bodies_mute day bs both.1)

not_new : (a n : ℕ) → a ≤ n → (a == n + 1) ≡ false
not_new a n h = grind (arith, nat_tests)

module _ (es : List Entry) (legal : is_legal es ≡ true) (w : List ℕ) (r : Reading) (day : ℕ) (old : Known)
    (here : known_at es w (front es) ≡ Some old) (old_is : old.mods ≡ known_ids (laws es) (ids_of w (laws es))) where
  abbrev ls : List Command
  ls = laws es

  abbrev ids : List Id
  ids = ids_of w ls

  abbrev was : List KnownMod
  was = known_ids ls ids

  same_mods : (new : Known) → new.mods ≡ was → AgreeOn old new r day
  same_mods new is =
      agree_on day no_change was was [] (unchanged day was) tt (λ id h. absurd (let wrong : false ≡ true = h in cc)) tt r old new old_is (is ∙ sym (append-nil was))

  record_agrees : (other : List ℕ) (bodies : List Modification) (new : Known) → new.mods ≡ known_ids (ls ++ Record other bodies ∷ []) (ids_of w (ls ++ Record other bodies ∷ []))
      → (bytes_eq other w ≡ true → IsBefore day (day_recorded bodies)) → AgreeOn old new r day
  record_agrees other bodies new new_is before =
      let l : Command = Record other bodies in
      let now : List Command = ls ++ l ∷ [] in
      let more : List Id = ids_recorded (length ls + 1) w l in
      agree_on day no_change was was (known_ids now more) (unchanged day was) mute (λ id h. absurd (let wrong : false ≡ true = h in cc)) fresh_ids r old new old_is
      (new_is ∙ ap (known_ids now) (ids_more w ls l) ∙ known_joined now ids more ∙ ap (λ ms. ms ++ known_ids now more) (known_alike ls now ids same))
    where
      same : AllByRecursion (λ id. facts_of id (ls ++ Record other bodies ∷ []) ≡ facts_of id ls) ids
      same = all_weaker (IsOwn w ls) (λ id. facts_of id (ls ++ Record other bodies ∷ []) ≡ facts_of id ls)
          (λ id own. facts_more id ls (Record other bodies) ∙ ap (λ b. cond b (first_facts other (item_at id.item bodies)) (facts_of id ls)) (not_new id.law (length ls) own.0)) ids (all_own w ls)

      said_new : (id : Id) → id.law ≡ length ls + 1 → facts_of id (ls ++ Record other bodies ∷ []) ≡ first_facts other (item_at id.item bodies)
      said_new id is = facts_more id ls (Record other bodies) ∙ ap (λ b. cond b (first_facts other (item_at id.item bodies)) (facts_of id ls)) (number_is id.law (length ls + 1) is)

      brought_mute : IsBefore day (day_recorded bodies) → AllByRecursion (λ (m : KnownMod). IsMute day m.body) (known_ids (ls ++ Record other bodies ∷ []) (ids_from_item (length ls + 1) 1 bodies))
      brought_mute early = known_all (λ m. IsMute day m.body) (ls ++ Record other bodies ∷ []) (ids_from_item (length ls + 1) 1 bodies)
          (all_weaker (IsNew w ls) (λ id. (f : IdFacts) → facts_of id (ls ++ Record other bodies ∷ []) ≡ Some f → IsMute day f.body)
          (λ id is f says. body_in (IsMute day) other (item_at id.item bodies) f (λ x at. item_in (IsMute day) bodies id.item x (bodies_mute day bodies early) at) (sym (said_new id is) ∙ says))
          (ids_from_item (length ls + 1) 1 bodies) (items_new w ls (length ls + 1) 1 bodies refl))

      mute : AllByRecursion (λ (m : KnownMod). IsMute day m.body) (known_ids (ls ++ Record other bodies ∷ []) (ids_recorded (length ls + 1) w (Record other bodies)))
      mute = by (bytes_eq other w) refl
        where
          by : (b : Bool) → bytes_eq other w ≡ b → AllByRecursion (λ (m : KnownMod). IsMute day m.body) (known_ids (ls ++ Record other bodies ∷ []) (cond b (ids_from_item (length ls + 1) 1 bodies) []))
          by true own = brought_mute (before own)
          by false own = tt

      none_there : (id : Id) → id.law ≡ length ls + 1 → NoneCounted (known_ids ls ids) day id
      none_there id is =
          none_counted day id (known_ids ls ids)
          (subst (IsBefore day) (sym (none_at_new ls id (known_ids ls ids) (fresh id ls is) (known_directed ls ids (legal_directed es legal).facts))) tt)

      fresh_ids : AllByRecursion (λ (m : KnownMod). NoneCounted (known_ids ls ids) day m.id) (known_ids (ls ++ Record other bodies ∷ []) (ids_recorded (length ls + 1) w (Record other bodies)))
      fresh_ids = known_all (λ m. NoneCounted (known_ids ls ids) day m.id) (ls ++ Record other bodies ∷ []) (ids_recorded (length ls + 1) w (Record other bodies))
          (all_weaker (IsNew w ls) (λ id. (f : IdFacts) → facts_of id (ls ++ Record other bodies ∷ []) ≡ Some f → NoneCounted (known_ids ls ids) day id)
          (λ id is f says. none_there id is) (ids_recorded (length ls + 1) w (Record other bodies)) (recorded_new w ls (Record other bodies)))

  -- an id says something else, or stands no longer or again
  module _ (other : Id) (g : IdFacts → IdFacts) (l : Command) (none : ids_recorded (length (laws es) + 1) w l ≡ [])
      (after : (id : Id) → facts_of id (laws es ++ l ∷ []) ≡ cond (is_same_id other id) (option_map g (facts_of id (laws es))) (facts_of id (laws es)))
      (new : Known) (new_is : new.mods ≡ known_ids (laws es ++ l ∷ []) (ids_of w (laws es ++ l ∷ [])))
      (touches : (f : IdFacts) → facts_of other (laws es) ≡ Some f → bytes_eq f.work w ≡ true → IsBefore day (day_saying (mods_of es f.work) other f.body) × IsMute day (g f).body) where
    now_is : new.mods ≡ known_ids (ls ++ l ∷ []) ids
    now_is = new_is ∙ ap (known_ids (ls ++ l ∷ [])) (ids_more w ls l ∙ ap (λ more. ids ++ more) none ∙ append-nil ids)

    untouched : AllByRecursion (λ id. is_same_id other id ≡ true → facts_of id (laws es) ≡ None) ids → AgreeOn old new r day
    untouched missing = same_mods new (now_is ∙ known_alike ls (ls ++ l ∷ []) ids
        (all_weaker (λ id. is_same_id other id ≡ true → facts_of id ls ≡ None) (λ id. facts_of id (ls ++ l ∷ []) ≡ facts_of id ls) (λ id none_of. after id ∙ by id none_of (is_same_id other id) refl) ids missing))
      where
        by : (id : Id) → (is_same_id other id ≡ true → facts_of id (laws es) ≡ None) → (b : Bool) → is_same_id other id ≡ b → cond b (option_map g (facts_of id ls)) (facts_of id ls) ≡ facts_of id ls
        by id none_of true is = ap (option_map g) (none_of is) ∙ sym (none_of is)
        by id none_of false is = refl

    touched : (f : IdFacts) → facts_of other (laws es) ≡ Some f → bytes_eq f.work w ≡ true → AgreeOn old new r day
    touched f is own =
        let of_w = bytes_same f.work w own in
        let says = touches f is own in
        let both = before_both day (own_day f.body) (first_on other (mods_of es f.work)) says.0 in
        let known : mods_of es f.work ≡ was = ap (mods_of es) of_w ∙ ap mods_in here ∙ old_is in
        let before : IsBefore day (first_on other was) = subst (λ ms. IsBefore day (first_on other ms)) known both.1 in
        agree_on day (is_same_id other) was (known_ids (ls ++ l ∷ []) ids) []
        (changed_alike day other g ls (ls ++ l ∷ []) after (λ k at. mutes k (inner f k (sym is ∙ at)) both.0 says.1) ids) tt
        (λ id same. subst (λ i. NoneCounted was day i) (id_same other id same) (none_counted day other was before)) tt r old new old_is
        (now_is ∙ sym (append-nil (known_ids (ls ++ l ∷ []) ids)))
      where
        inner : (a b : IdFacts) → Some a ≡ Some b → a ≡ b
        inner a b e = cc

        mutes : (k : IdFacts) → f ≡ k → IsMute day f.body → IsMute day (g f).body → IsMute day k.body × IsMute day (g k).body
        mutes k same a b = subst (λ (x : IdFacts). IsMute day x.body × IsMute day (g x).body) same (a, b)

    change_agrees : AgreeOn old new r day
    change_agrees = by (facts_of other ls) refl
      where
        of_work : (f : IdFacts) → facts_of other (laws es) ≡ Some f → (b : Bool) → bytes_eq f.work w ≡ b → AgreeOn old new r day
        of_work f is true own = touched f is own
        of_work f is false own =
            untouched (all_weaker (IsOwn w ls) (λ id. is_same_id other id ≡ true → facts_of id ls ≡ None)
            (λ id mine same. absurd (let wrong : false ≡ true = sym own ∙ subst (OfWork w) (sym (ap (λ i. facts_of i ls) (id_same other id same)) ∙ is) mine.1 in cc)) ids (all_own w ls))

        by : (f : Option IdFacts) → facts_of other (laws es) ≡ f → AgreeOn old new r day
        by None is = untouched (all_weaker (IsOwn w ls) (λ id. is_same_id other id ≡ true → facts_of id ls ≡ None) (λ id mine same. sym (ap (λ i. facts_of i ls) (id_same other id same)) ∙ is) ids (all_own w ls))
        by (Some f) is = of_work f is (bytes_eq f.work w) refl

  kept_mods : (l : Command) (new : Known) → ids_recorded (length (laws es) + 1) w l ≡ [] → ((id : Id) → facts_after id (length (laws es) + 1) l (facts_of id (laws es)) ≡ facts_of id (laws es))
      → new.mods ≡ known_ids (laws es ++ l ∷ []) (ids_of w (laws es ++ l ∷ [])) → AgreeOn old new r day
  kept_mods l new none after new_is =
      same_mods new
      (new_is ∙ ap (known_ids (ls ++ l ∷ [])) (ids_more w ls l ∙ ap (λ more. ids ++ more) none ∙ append-nil ids)
      ∙ known_alike ls (ls ++ l ∷ []) ids (all_weaker (IsOwn w ls) (λ id. facts_of id (ls ++ l ∷ []) ≡ facts_of id ls) (λ id own. facts_more id ls l ∙ after id) ids (all_own w ls)))

  both_in : (other : Id) (f : IdFacts) → facts_of other (laws es) ≡ Some f → IsBefore day (day_known es other (facts_of other (laws es)))
      → IsBefore day (day_saying (mods_of es f.work) other f.body)
  both_in other f is before = subst (λ k. IsBefore day (day_known es other k)) is before

  -- the work of an id that is recorded is the one that is concerned
  own_id : (id : Id) (f : IdFacts) → facts_of id (laws es) ≡ Some f → bytes_eq f.work w ≡ true → is_of w (facts_of id (laws es)) ≡ true
  own_id id f is own = ap (is_of w) is ∙ own

  law_agrees : (l : Command) (new : Known) → new.mods ≡ known_ids (laws es ++ l ∷ []) (ids_of w (laws es ++ l ∷ []))
      → (is_named w (work_entered es (l ∷ [])) ≡ true → IsBefore day (day_changed es l)) → AgreeOn old new r day
  law_agrees (Record other bodies) new new_is before = record_agrees other bodies new new_is before
  law_agrees (Correct other body) new new_is before =
      change_agrees other (corrected body) (Correct other body) refl (λ id. facts_more id ls (Correct other body)) new new_is
      (λ f is own.
      let both = before_both day (day_known es other (facts_of other ls)) (day_corrected es other body (facts_of other ls)) (before (own_id other f is own)) in (
        both_in other f is both.0,
        (before_both day (own_day body) (first_on other (mods_of es f.work)) (subst (λ k. IsBefore day (day_corrected es other body k)) is both.1)).0,
      ))
  law_agrees (Withdraw other) new new_is before =
      change_agrees other (marked (Withdrawn (length ls + 1))) (Withdraw other) refl (λ id. facts_more id ls (Withdraw other)) new new_is
      (λ f is own. let known = both_in other f is (before (own_id other f is own)) in (known, (before_both day (own_day f.body) (first_on other (mods_of es f.work)) known).0))
  law_agrees (Restore other) new new_is before =
      change_agrees other (marked Live) (Restore other) refl (λ id. facts_more id ls (Restore other)) new new_is
      (λ f is own. let known = both_in other f is (before (own_id other f is own)) in (known, (before_both day (own_day f.body) (first_on other (mods_of es f.work)) known).0))
  law_agrees (Enact act) new new_is before = kept_mods (Enact act) new refl (λ id. refl) new_is
  law_agrees (DraftAdd work body) new new_is before = kept_mods (DraftAdd work body) new refl (λ id. refl) new_is
  law_agrees (DraftDrop item) new new_is before = kept_mods (DraftDrop item) new refl (λ id. refl) new_is
  law_agrees (File work seen) new new_is before = kept_mods (File work seen) new refl (λ id. refl) new_is

-- what a register knows of a work at its front
record Parts (w : List ℕ) (ls : List Command) (k : Known) : Type 0 where
  found : ℕ × Act
  enacts : enacted w ls ≡ Some found
  act : k.act ≡ found.1
  mods : k.mods ≡ known_ids ls (ids_of w ls)

parts_by : (w : List ℕ) (v n : ℕ) (ls : List Command) (found : Option (ℕ × Act)) (k : Known) → enacted w ls ≡ found → known_by w v n ls found ≡ Some k → Parts w ls k
parts_by w v n ls None k enacts is = absurd (let wrong : None ≡ Some k = is in cc)
parts_by w v n ls (Some found) k enacts is =
    let is_known : Known = record { act = found.1; enacted = found.0; viewpoint = v; front = n; mods = known_ids ls (ids_of w ls); source_days = [] } in
    let same : is_known ≡ k = inner is_known k is in
    record { found = found; enacts = enacts; act = sym (ap (λ (x : Known). x.act) same); mods = sym (ap (λ (x : Known). x.mods) same) }
  where
    inner : (a b : Known) → Some a ≡ Some b → a ≡ b
    inner a b e = cc

parts_of : (es : List Entry) (w : List ℕ) (k : Known) → known_at es w (front es) ≡ Some k → Parts w (laws es) k
parts_of es w k is =
    parts_by w (front es) (front es) (laws es) (enacted w (laws es)) k refl
    (sym (ap (λ ls. known_by w (front es) (front es) ls (enacted w ls)) (take_all (laws es) (front es) (omega arith))) ∙ is)

-- the days before that of the work among those that are touched
before_named : (day : ℕ) (w : List ℕ) (named : Option (List ℕ)) (touched : Option ℕ) → IsBefore day (day_among (with_day named touched) w) → is_named w named ≡ true → IsBefore day touched
before_named day w None touched before own = absurd (let wrong : false ≡ true = own in cc)
before_named day w (Some v) None before own = tt
before_named day w (Some v) (Some t) before own = subst (λ b. IsBefore day (cond b (Some t) None)) own before

before_any : (day : ℕ) (w : List ℕ) (named : Option (List ℕ)) (touched : Option ℕ) → IsBefore day touched → IsBefore day (day_among (with_day named touched) w)
before_any day w None touched before = tt
before_any day w (Some v) None before = tt
before_any day w (Some v) (Some t) before = by (bytes_eq v w)
  where
    by : (b : Bool) → IsBefore day (cond b (Some t) None)
    by true = before
    by false = tt

-- before the touched day of the work, what a register knows of it and what it knows with the entry agree
pub one_more_of : (es : List Entry) (e : Entry) → is_legal es ≡ true → (w : List ℕ) (r : Reading) (old new : Known) → known_at es w (front es) ≡ Some old
    → known_at (es ++ e ∷ []) w (front (es ++ e ∷ [])) ≡ Some new → Agree old new r (day_among (touched_days es e) w)
unfolding touched_days touched_day
one_more_of es e legal w r old new was is =
    let before = parts_of es w old was in
    let after = parts_of (es ++ e ∷ []) w new is in
    by (one_at_most (draft_of e.drafter es) e.command) before after
  where
    same_found : (a b : ℕ × Act) → Some a ≡ Some b → a ≡ b
    same_found a b h = cc

    by : (law_of es e ≡ []) ⊎ ((l : Command) × (law_of es e ≡ l ∷ [])) → Parts w (laws es) old → Parts w (laws (es ++ e ∷ [])) new → Agree old new r (day_among (with_day (work_entered es (law_of es e)) (day_entered es (law_of es e))) w)
    by (inl none) before after =
        let same : laws (es ++ e ∷ []) ≡ laws es = laws_more es e ∙ ap (λ l. laws es ++ l) none ∙ append-nil (laws es) in
        let found : before.found ≡ after.found = same_found before.found after.found (sym before.enacts ∙ sym (ap (enacted w) same) ∙ after.enacts) in
        record {
          act = before.act ∙ ap (λ (x : ℕ × Act). x.1) found ∙ sym after.act;
          days = λ day h. same_mods es legal w r day old was before.mods new (after.mods ∙ ap (λ ls. known_ids ls (ids_of w ls)) same);
        }
    by (inr (l, one)) before after =
        let same : laws (es ++ e ∷ []) ≡ laws es ++ l ∷ [] = laws_more es e ∙ ap (λ k. laws es ++ k) one in
        let found : before.found ≡ after.found =
        same_found before.found after.found
        (sym (enacted_more w (laws es) l ∙ ap (λ f. first_act f (enacted_or (length (laws es) + 1) (enacted_by w l) None)) before.enacts)
        ∙ sym (ap (enacted w) same) ∙ after.enacts) in
        record {
          act = before.act ∙ ap (λ (x : ℕ × Act). x.1) found ∙ sym after.act;
          days = λ day h.
              law_agrees es legal w r day old was before.mods l new (after.mods ∙ ap (λ ls. known_ids ls (ids_of w ls)) same)
              (before_named day w (work_entered es (l ∷ [])) (day_changed es l) (subst (λ k. IsBefore day (day_among (with_day (work_entered es k) (day_entered es k)) w)) one h));
        }

-- before the touched day of the entry, all works agree
pub one_more : (es : List Entry) (e : Entry) → is_legal es ≡ true → (w : List ℕ) (r : Reading) (old new : Known) → known_at es w (front es) ≡ Some old
    → known_at (es ++ e ∷ []) w (front (es ++ e ∷ [])) ≡ Some new → Agree old new r (touched_day es e)
unfolding touched_days
one_more es e legal w r old new was is =
    let agree = one_more_of es e legal w r old new was is in
    record { act = agree.act; days = λ day h. agree.days day (before_any day w (work_entered es (law_of es e)) (touched_day es e) h) }
