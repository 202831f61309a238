-- Along some works of the lines of an entry, of which each that is asked is one, the same is found as along the whole lines.
use Rattle.std.proofs.Common.{◌≡◌, ◌∙◌, sym, ap, ap₂, refl, subst, ℕ, Bool, true, false, cond, ◌&&◌, ◌||◌, is_some, List, [], ◌∷◌, ◌++◌, filter, Option, Some, None}
use Rattle.std.proofs.lemmas.List.{append-nil}
use Rattle.std.proofs.lemmas.List.Elements.{filter-append}
use Rattle.std.specs.List.{AllByRecursion, list_any}
use Rattle.std.specs.Option.{option_map_or}
use Rattle.std.specs.Str.{bytes_eq}
use Rattle.law_register.specs.declared.law.act.Act.{Act}
use Rattle.law_register.specs.declared.law.command.Command.{Command}
use Rattle.law_register.specs.declared.law.command.Command.TheVariants.{Enact, Record, Correct, Withdraw, Restore, DraftAdd, DraftDrop, File}
use Rattle.law_register.specs.declared.law.modification.ModSource.{ModSource}
use Rattle.law_register.specs.declared.law.modification.Modification.{Modification}
use Rattle.law_register.specs.declared.law.modification.Modification.TheVariants.{Textual, Force, Efficacy}
use Rattle.law_register.specs.declared.register.draft.DraftItem.{DraftItem}
use Rattle.law_register.specs.declared.register.entry.Entry.{Entry}
use Rattle.law_register.specs.declared.register.known.Known.{Known}
use Rattle.law_register.specs.declared.register.known.KnownMod.{KnownMod}
use Rattle.law_register.specs.Answer.Touched.{sooner, touched_day, with_day, work_entered}
use Rattle.law_register.specs.Law.Sources.{source_of}
use Rattle.law_register.specs.Provisions.Depending.{comes_from, depends, depends_in}
use Rattle.law_register.specs.Provisions.Line.{line, work_in}
use Rattle.law_register.specs.Provisions.Looking.{is_after, looked_at, names_any}
use Rattle.law_register.specs.Provisions.Touching.{flag_day_entered, is_concerned, own, reach}
use Rattle.law_register.specs.Register.Concerns.{is_named}
use Rattle.law_register.specs.Register.Drafts.{draft_of}
use Rattle.law_register.specs.Register.KnownIds.{enacted_by}
use Rattle.law_register.specs.Register.LawList.{law_command, laws}
use Rattle.law_register.proofs.ApartIds.{none_both}
use Rattle.law_register.proofs.Puts.{bytes_same}
use Rattle.law_register.proofs.Unreached.{either_none}
use Rattle.version_cache.specs.Works.{IsAlike}
use Rattle.source_provisions.proofs.Days.{independent}
use Rattle.held_provisions.specs.declared.touching.Reached.{Reached}
use Rattle.held_provisions.specs.Reaching.{AreAlike, AreEnough, days_told, first_reached, is_asked, reached_after, reached_next}

-- ---- on a work that two lines have of one day, or neither has, the same depends in both

module _ (X Y : List Known) (on : List ℕ) (after : (day : ℕ) → is_after day (work_in on X) ≡ is_after day (work_in on Y)) where
  source_same : (day : ℕ) (source : ModSource) → bytes_eq source.href on ≡ true
      → (is_some source.provision && is_after day (work_in source.href X)) ≡ (is_some source.provision && is_after day (work_in source.href Y))
  source_same day source same =
      ap (λ later. is_some source.provision && later)
      (subst (λ work. is_after day (work_in work X) ≡ is_after day (work_in work Y)) (sym (bytes_same source.href on same)) (after day))

  looked_same : (day : ℕ) (body : Modification) → bytes_eq (source_of body).href on ≡ true → looked_at X day body ≡ looked_at Y day body
  looked_same day (Textual source force edit) same = source_same day source same
  looked_same day (Force source destination since effect) same = refl
  looked_same day (Efficacy source destination since effect) same = refl

  nothing : (b : Bool) → (b && false) ≡ false
  nothing true = refl
  nothing false = refl

  comes_same : (day : ℕ) (m : KnownMod) → comes_from X day on m ≡ comes_from Y day on m
  comes_same day m = ap (λ b. m.live && b) (by (bytes_eq (source_of m.body).href on) refl)
    where
      by : (b : Bool) → bytes_eq (source_of m.body).href on ≡ b
          → (looked_at X day m.body && bytes_eq (source_of m.body).href on) ≡ (looked_at Y day m.body && bytes_eq (source_of m.body).href on)
      by true same = ap (λ b. b && bytes_eq (source_of m.body).href on) (looked_same day m.body same)
      by false other =
          ap (λ b. looked_at X day m.body && b) other ∙ nothing (looked_at X day m.body)
          ∙ sym (ap (λ b. looked_at Y day m.body && b) other ∙ nothing (looked_at Y day m.body))

  pub any_same : (day : ℕ) (ms : List KnownMod) → list_any (comes_from X day on) ms ≡ list_any (comes_from Y day on) ms
  any_same day [] = refl
  any_same day (m ∷ ms) = ap₂ (λ a b. a || b) (comes_same day m) (any_same day ms)

-- ---- what is found of a work among some works of a line

-- a work is in neither, or is known alike in both
abbrev IsPair : Option Known → Option Known → Type 0
IsPair None None = Unit {0}
IsPair None (Some known) = ⊥
IsPair (Some other) None = ⊥
IsPair (Some other) (Some known) = IsAlike other known

module _ (keeps : List ℕ → Bool) where
  abbrev kept : List Known → List Known
  kept works = filter (λ known. keeps known.act.work) works

  found_kept : (work : List ℕ) → keeps work ≡ true → (works : List Known) → work_in work (kept works) ≡ work_in work works
  found_kept work is [] = refl
  found_kept work is (k ∷ ks) = by (keeps k.act.work) refl (bytes_eq k.act.work work) refl (found_kept work is ks)
    where
      by : (b : Bool) → keeps k.act.work ≡ b → (c : Bool) → bytes_eq k.act.work work ≡ c → work_in work (kept ks) ≡ work_in work ks
          → work_in work (cond b (k ∷ kept ks) (kept ks)) ≡ cond (bytes_eq k.act.work work) (Some k) (work_in work ks)
      by true keep c same rest = ap (cond (bytes_eq k.act.work work) (Some k)) rest
      by false keep true same rest =
          absurd (let wrong : false ≡ true = sym keep ∙ ap keeps (bytes_same k.act.work work same) ∙ is in cc)
      by false keep false same rest = rest ∙ sym (ap (λ b. cond b (Some k) (work_in work ks)) same)

  found_pair : (work : List ℕ) (some works : List Known) → AreAlike some works → IsPair (work_in work some) (work_in work works)
  found_pair work [] [] alike = tt
  found_pair work [] (k ∷ ks) alike = absurd alike
  found_pair work (s ∷ ss) [] alike = absurd alike
  found_pair work (s ∷ ss) (k ∷ ks) alike = by (bytes_eq k.act.work work) (found_pair work ss ks alike.1)
    where
      both : (b : Bool) → IsPair (work_in work ss) (work_in work ks) → IsPair (cond b (Some s) (work_in work ss)) (cond b (Some k) (work_in work ks))
      both true rest = alike.0
      both false rest = rest

      by : (b : Bool) → IsPair (work_in work ss) (work_in work ks)
          → IsPair (cond (bytes_eq s.act.work work) (Some s) (work_in work ss)) (cond (bytes_eq k.act.work work) (Some k) (work_in work ks))
      by b rest =
          subst (λ (act : Act). IsPair (cond (bytes_eq act.work work) (Some s) (work_in work ss)) (cond (bytes_eq k.act.work work) (Some k) (work_in work ks)))
          (sym alike.0.act) (both (bytes_eq k.act.work work) rest)

  -- some works that are known alike to those of these works that are kept
  module _ (works some : List Known) (alike : AreAlike some (kept works)) where
    pair : (work : List ℕ) → keeps work ≡ true → IsPair (work_in work some) (work_in work works)
    pair work is = subst (IsPair (work_in work some)) (found_kept work is works) (found_pair work some (kept works) alike)

    after_alike : (day : ℕ) (other known : Option Known) → IsPair other known → is_after day other ≡ is_after day known
    after_alike day None None alone = refl
    after_alike day None (Some k) alone = absurd alone
    after_alike day (Some s) None alone = absurd alone
    after_alike day (Some s) (Some k) two = ap (λ (act : Act). is_after day (Some (record k { act = act }))) two.act

    module _ (on : List ℕ) (is : keeps on ≡ true) where
      depends_alike : (other known : Option Known) → IsPair other known
          → option_map_or (λ k. depends some k on) other false ≡ option_map_or (λ k. depends works k on) known false
      depends_alike None None alone = refl
      depends_alike None (Some k) alone = absurd alone
      depends_alike (Some s) None alone = absurd alone
      depends_alike (Some s) (Some k) two =
          ap₂ (λ (act : Act) (mods : List KnownMod). list_any (comes_from some act.day on) mods) two.act two.mods
          ∙ any_same some works on (λ day. after_alike day (work_in on some) (work_in on works) (pair on is)) k.act.day k.mods

      same_depends : (work : List ℕ) → keeps work ≡ true → depends_in some work on ≡ depends_in works work on
      same_depends work here = depends_alike (work_in work some) (work_in work works) (pair work here)

-- ---- a work that is not kept is neither touched nor reached

module _ (entries : List Entry) (entry : Entry) (work : List ℕ) (apart : is_concerned entries entry work ≡ false) where
  none_own : own entries entry work ≡ None
  none_own = ap (λ b. cond b (touched_day entries entry) None) apart

  none_enacted : (draft : List DraftItem) (command : Command) → is_named work (work_entered entries (law_command draft command)) ≡ false
      → list_any (λ law. is_some (enacted_by work law)) (law_command draft command) ≡ false
  none_enacted draft (Enact act) other = ap (λ b. is_some (cond b (Some act) None) || false) other
  none_enacted draft (Record of mods) other = refl
  none_enacted draft (Correct id body) other = refl
  none_enacted draft (Withdraw id) other = refl
  none_enacted draft (Restore id) other = refl
  none_enacted draft (DraftAdd of body) other = refl
  none_enacted draft (DraftDrop item) other = refl
  none_enacted draft (File of seen) other = refl

  none_reach : reach entries entry work None ≡ None
  none_reach =
      ap (λ b. cond b (Some 1) (sooner None (cond (is_concerned entries entry work) (flag_day_entered entries (law_command (draft_of entry.drafter entries) entry.command)) None)))
      (none_enacted (draft_of entry.drafter entries) entry.command apart)
      ∙ ap (λ b. cond b (flag_day_entered entries (law_command (draft_of entry.drafter entries) entry.command)) None) apart

-- of a work of a line that names no provision it depends on none
none_depends : (works : List Known) (P : Known → Bool) (keeps : List ℕ → Bool) → AllByRecursion (λ (k : Known). (names_any k || P k) ≡ true → keeps k.act.work ≡ true) works
    → (ks : List Known) → AllByRecursion (λ (k : Known). (names_any k || P k) ≡ true → keeps k.act.work ≡ true) ks
    → (work on : List ℕ) → keeps work ≡ false → option_map_or (λ k. depends works k on) (work_in work ks) false ≡ false
none_depends works P keeps all [] each work on not_kept = refl
none_depends works P keeps all (k ∷ ks) each work on not_kept =
    by (bytes_eq k.act.work work) refl (none_depends works P keeps all ks each.1 work on not_kept)
  where
    unnamed : k.act.work ≡ work → (b : Bool) → names_any k ≡ b → depends works k on ≡ false
    unnamed same true names =
        absurd (let wrong : true ≡ false =
        sym (each.0 (ap (λ b. b || P k) names)) ∙ ap keeps same ∙ not_kept in cc)
    unnamed same false names = independent works k on names

    by : (b : Bool) → bytes_eq k.act.work work ≡ b → option_map_or (λ k. depends works k on) (work_in work ks) false ≡ false
        → option_map_or (λ k. depends works k on) (cond b (Some k) (work_in work ks)) false ≡ false
    by true same rest = unnamed (bytes_same k.act.work work same) (names_any k) refl
    by false other rest = rest

-- ---- along the lines

abbrev IsQuiet : (List ℕ → Bool) → Reached → Type 0
IsQuiet keeps r = keeps r.work ≡ false → (r.touched ≡ None) × (r.reached ≡ None)

all_and_one : {A : Type 0} (P : A → Type 0) (xs : List A) (x : A) → AllByRecursion P xs → P x → AllByRecursion P (xs ++ x ∷ [])
all_and_one P [] x all here = (here, tt)
all_and_one P (y ∷ ys) x all here = (all.0, all_and_one P ys x all.1 here)

module _ (entries : List Entry) (entry : Entry) (some_old some_new : List Known) (enough : AreEnough entries entry some_old some_new) where
  abbrev L : List Known
  L = line (laws entries)

  abbrev M : List Known
  M = line (laws (entries ++ entry ∷ []))

  abbrev keeps : List ℕ → Bool
  keeps = enough.keeps

  abbrev left : List Reached → List Reached
  left rs = filter (λ r. keeps r.work) rs

  -- by a work that is kept, what is reached first is the same
  either_same : (work on : List ℕ) → keeps work ≡ true → keeps on ≡ true
      → (depends_in some_old work on || depends_in some_new work on) ≡ (depends_in L work on || depends_in M work on)
  either_same work on here there =
      ap₂ (λ a b. a || b) (same_depends keeps L some_old enough.alike_before on there work here)
      (same_depends keeps M some_new enough.alike_then on there work here)

  first_same : (work : List ℕ) → keeps work ≡ true → (rs : List Reached) → AllByRecursion (IsQuiet keeps) rs
      → first_reached some_old some_new work (left rs) ≡ first_reached L M work rs
  first_same work here [] quiet = refl
  first_same work here (r ∷ rs) quiet = by (keeps r.work) refl (first_same work here rs quiet.1)
    where
      by : (b : Bool) → keeps r.work ≡ b → first_reached some_old some_new work (left rs) ≡ first_reached L M work rs
          → first_reached some_old some_new work (cond b (r ∷ left rs) (left rs))
          ≡ sooner (cond (depends_in L work r.work || depends_in M work r.work) r.reached None) (first_reached L M work rs)
      by true there rest =
          ap₂ (λ b first. sooner (cond b r.reached None) first) (either_same work r.work here there) rest
      by false other rest =
          rest
          ∙ sym (ap (λ day. sooner day (first_reached L M work rs))
          (either_none (depends_in L work r.work || depends_in M work r.work) r.reached (quiet.0 other).1))

  -- one that is not kept is reached by none
  none_first : (work : List ℕ) → keeps work ≡ false → (rs : List Reached) → first_reached L M work rs ≡ None
  none_first work not_kept [] = refl
  none_first work not_kept (r ∷ rs) =
      ap₂ (λ b first. sooner (cond b r.reached None) first)
      (none_both (depends_in L work r.work) (depends_in M work r.work)
      (none_depends L (λ k. is_concerned entries entry k.act.work) keeps enough.asked_before L enough.asked_before work r.work not_kept)
      (none_depends M (λ k. is_concerned entries entry k.act.work) keeps enough.asked_then M enough.asked_then work r.work not_kept))
      (none_first work not_kept rs)

  quiet_next : (rs : List Reached) (known : Known) → (is_asked entries entry known ≡ true → keeps known.act.work ≡ true)
      → IsQuiet keeps (reached_next entries entry L M rs known.act.work)
  quiet_next rs known asked not_kept = by (is_concerned entries entry known.act.work) refl
    where
      or_true : (a b : Bool) → b ≡ true → (a || b) ≡ true
      or_true true b h = refl
      or_true false b h = h

      by : (b : Bool) → is_concerned entries entry known.act.work ≡ b
          → ((reached_next entries entry L M rs known.act.work).touched ≡ None) × ((reached_next entries entry L M rs known.act.work).reached ≡ None)
      by true concerned =
          absurd (let wrong : true ≡ false =
          sym (asked (or_true (names_any known) (is_concerned entries entry known.act.work) concerned)) ∙ not_kept in cc)
      by false apart =
          let touched : sooner (own entries entry known.act.work) (first_reached L M known.act.work rs) ≡ None =
          ap₂ sooner (none_own entries entry known.act.work apart) (none_first known.act.work not_kept rs) in
          (touched, ap (reach entries entry known.act.work) touched ∙ none_reach entries entry known.act.work apart)

  quiet_told : (rs : List Reached) → AllByRecursion (IsQuiet keeps) rs → days_told (left rs) ≡ days_told rs
  quiet_told [] quiet = refl
  quiet_told (r ∷ rs) quiet = by (keeps r.work) refl (quiet_told rs quiet.1)
    where
      by : (b : Bool) → keeps r.work ≡ b → days_told (left rs) ≡ days_told rs
          → days_told (cond b (r ∷ left rs) (left rs)) ≡ with_day (Some r.work) r.touched ++ days_told rs
      by true there rest = ap (λ ds. with_day (Some r.work) r.touched ++ ds) rest
      by false other rest = rest ∙ sym (ap (λ day. with_day (Some r.work) day ++ days_told rs) (quiet.0 other).0)

  -- some works go with those that are kept
  along : (works some : List Known) → AllByRecursion (λ known. is_asked entries entry known ≡ true → keeps known.act.work ≡ true) works
      → AreAlike some (filter (λ known. keeps known.act.work) works) → (rs : List Reached) → AllByRecursion (IsQuiet keeps) rs
      → days_told (reached_after entries entry some_old some_new (left rs) some) ≡ days_told (reached_after entries entry L M rs works)
  along [] [] asked alike rs quiet = quiet_told rs quiet
  along [] (s ∷ ss) asked alike rs quiet = absurd alike
  along (k ∷ ks) some asked alike rs quiet =
      by (keeps k.act.work) refl some alike (λ others similar. along ks others asked.1 similar (rs ++ next ∷ []) more)
    where
      next : Reached
      next = reached_next entries entry L M rs k.act.work

      more : AllByRecursion (IsQuiet keeps) (rs ++ next ∷ [])
      more = all_and_one (IsQuiet keeps) rs next quiet (quiet_next rs k asked.0)

      left_more : (b : Bool) → keeps k.act.work ≡ b → left (rs ++ next ∷ []) ≡ left rs ++ cond b (next ∷ []) []
      left_more b is =
          filter-append (λ r. keeps r.work) rs (next ∷ []) ∙ ap (λ c. left rs ++ cond c (next ∷ []) []) is

      by : (b : Bool) → keeps k.act.work ≡ b → (some : List Known)
          → AreAlike some (cond b (k ∷ filter (λ known. keeps known.act.work) ks) (filter (λ known. keeps known.act.work) ks))
          → ((others : List Known) → AreAlike others (filter (λ known. keeps known.act.work) ks)
          → days_told (reached_after entries entry some_old some_new (left (rs ++ next ∷ [])) others)
          ≡ days_told (reached_after entries entry L M (rs ++ next ∷ []) ks))
          → days_told (reached_after entries entry some_old some_new (left rs) some) ≡ days_told (reached_after entries entry L M (rs ++ next ∷ []) ks)
      by true here [] alike rest = absurd alike
      by true here (s ∷ ss) alike rest =
          ap (λ (act : Act). days_told (reached_after entries entry some_old some_new (left rs ++ reached_next entries entry some_old some_new (left rs) act.work ∷ []) ss)) alike.0.act
          ∙ ap
          (λ first. days_told (reached_after entries entry some_old some_new (left rs ++ (let r : Reached = record {
            work = k.act.work;
            touched = sooner (own entries entry k.act.work) first;
            reached = reach entries entry k.act.work (sooner (own entries entry k.act.work) first);
          } in r) ∷ []) ss))
          (first_same k.act.work here rs quiet)
          ∙ ap (λ r. days_told (reached_after entries entry some_old some_new r ss)) (sym (left_more true here))
          ∙ rest ss alike.1
      by false other some alike rest =
          ap (λ r. days_told (reached_after entries entry some_old some_new r some)) (sym (left_more false other ∙ append-nil (left rs)))
          ∙ rest some alike

  -- what is found along them is what the entry touches
  pub found_enough : days_told (reached_after entries entry some_old some_new [] some_new) ≡ days_told (reached_after entries entry L M [] M)
  found_enough = along M some_new enough.asked_then enough.alike_then [] tt

-- the whole lines are enough
itself : (works : List Known) → AreAlike works (filter (λ known. true) works)
itself [] = tt
itself (known ∷ works) = (record { act = refl; enacted = refl; mods = refl; sources = refl }, itself works)

all_kept : (P : Known → Type 0) (works : List Known) → AllByRecursion (λ (known : Known). P known → true ≡ true) works
all_kept P [] = tt
all_kept P (known ∷ works) = ((λ h. refl), all_kept P works)

pub lines_are_enough : (entries : List Entry) (entry : Entry) (old new : List Known) → old ≡ line (laws entries) → new ≡ line (laws (entries ++ entry ∷ []))
    → AreEnough entries entry old new
lines_are_enough entries entry old new was is =
    subst (λ ks. AreEnough entries entry ks new) (sym was)
    (subst (AreEnough entries entry (line (laws entries))) (sym is)
    (record {
      keeps = λ work. true;
      asked_before = all_kept (λ known. is_asked entries entry known ≡ true) (line (laws entries));
      asked_then = all_kept (λ known. is_asked entries entry known ≡ true) (line (laws (entries ++ entry ∷ [])));
      alike_before = itself (line (laws entries));
      alike_then = itself (line (laws (entries ++ entry ∷ [])));
    }))
