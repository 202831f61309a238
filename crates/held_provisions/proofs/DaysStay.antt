-- The days on which the text of a work may change stay, where an entry neither concerns nor touches the work.
use Rattle.std.proofs.Common.{◌≡◌, ◌∙◌, sym, ap, refl, subst, ℕ, Bool, true, false, cond, ◌&&◌, ◌||◌, nat_lt, List, [], ◌∷◌, ◌++◌, map, Option, Some, None, option_map}
use Rattle.std.specs.List.{AllByRecursion, list_any}
use Rattle.std.specs.List.Sorted.{IsStrictlySortedBy}
use Rattle.std.specs.Option.{option_map_or}
use Rattle.std.specs.Str.{bytes_eq}
use Rattle.law_register.specs.declared.answer.question.Reading.TheVariants.{Force}
use Rattle.law_register.specs.declared.register.entry.Entry.{Entry}
use Rattle.law_register.specs.declared.register.known.Known.{Known}
use Rattle.law_register.specs.Answer.Breakpoints.{days_with, has_day}
use Rattle.law_register.specs.Answer.Touched.{day_among, sooner, with_day}
use Rattle.law_register.specs.Provisions.Depending.{breakpoints_of, days_along, depends, depends_in, source_days}
use Rattle.law_register.specs.Provisions.Line.{IsLine, line, line_cmp, work_in}
use Rattle.law_register.specs.Provisions.Looking.{is_after}
use Rattle.law_register.specs.Provisions.Touching.{WorkTouched, days_told, enacts, first_reached, flags_from, is_concerned, own, reach, touched, touched_after, touched_along, touched_as, touched_by, touched_works}
use Rattle.law_register.specs.Register.KnownNext.{known_now, up_to}
use Rattle.law_register.specs.Register.LawList.{front, laws}
use Rattle.law_register.specs.Register.Verdicts.{is_accepted, is_legal, verdict}
use Rattle.law_register.proofs.CarryingNothing.{days_then}
use Rattle.law_register.proofs.Next.{entry_apart}
use Rattle.law_register.proofs.Puts.{bytes_same, left_true}
use Rattle.source_provisions.proofs.BeforeTouched.{along_known, is_known, known_pushed, newly, not_yet, pushed, still_after, was_known}
use Rattle.source_provisions.proofs.Days.{all_dropped}
use Rattle.source_provisions.proofs.Lines.{not_after}
use Rattle.source_provisions.proofs.Looking.{depends_after}
use Rattle.source_provisions.proofs.Own.{is_line}
use Rattle.held_provisions.proofs.AscendingDays.{one_list}
use Rattle.held_provisions.proofs.Concerned.{apart_where_unreached, none_left, none_right}
use Rattle.held_provisions.proofs.KeptSources.{found_name}
use Rattle.held_provisions.proofs.LinesTold.{days_told as told_in_line}
use Rattle.held_provisions.proofs.Partial.{any_same}
use Rattle.held_provisions.proofs.SourceDays.{sources_ascend, sources_have}

-- ---- lists

one_of : (a b : Known) → Some a ≡ Some b → a ≡ b
one_of a b e = cc

-- what passes is one of them
some_one : (test : Known → Bool) (P : Known → Type 0) (xs : List Known) → AllByRecursion P xs → list_any test xs ≡ true → (x : Known) × (test x ≡ true) × P x
some_one test P [] all some = absurd (let no : false ≡ true = some in cc)
some_one test P (x ∷ xs) all some = by (test x) refl some (some_one test P xs all.1)
  where
    by : (b : Bool) → test x ≡ b → (b || list_any test xs) ≡ true → (list_any test xs ≡ true → (y : Known) × (test y ≡ true) × P y) → (y : Known) × (test y ≡ true) × P y
    by true is some rest = (x, is, all.0)
    by false is some rest = rest some

any_found : (test : Known → Bool) (work : List ℕ) (ks : List Known) (k : Known) → work_in work ks ≡ Some k → test k ≡ true → list_any test ks ≡ true
any_found test work [] k there is = absurd (let no : None ≡ Some k = there in cc)
any_found test work (x ∷ xs) k there is = by (bytes_eq x.act.work work) there (any_found test work xs k)
  where
    either : (b c : Bool) → c ≡ true → (b || c) ≡ true
    either true c h = refl
    either false c h = h

    by : (b : Bool) → cond b (Some x) (work_in work xs) ≡ Some k → (work_in work xs ≡ Some k → test k ≡ true → list_any test xs ≡ true) → (test x || list_any test xs) ≡ true
    by true there rest = ap (λ b. b || list_any test xs) (ap test (one_of x k there) ∙ is)
    by false there rest = either (test x) (list_any test xs) (rest there is)

same_bool : (a b : Bool) → (a ≡ true → b ≡ true) → (b ≡ true → a ≡ true) → a ≡ b
same_bool true b there back = sym (there refl)
same_bool false true there back = back refl
same_bool false false there back = refl

-- the days of its sources, asked of the works of a line
has_days : (works : List Known) → IsLine works → (known : Known) (day : ℕ)
    → has_day day (source_days works known (days_along works)) ≡ list_any (λ s. depends works known s.act.work && has_day day (breakpoints_of works s)) works
has_days works is known day = ap (λ ws. has_day day (source_days works known ws)) (told_in_line works is) ∙ sources_have works known day works

module _ (es : List Entry) (e : Entry) (legal : is_legal es ≡ true) (accepted : is_accepted e.law (verdict es e.drafter e.request e.command) ≡ true) where
  abbrev L : List Known
  L = line (laws es)

  abbrev M : List Known
  M = line (laws (es ++ e ∷ []))

  abbrev IsOwn : WorkTouched → Type 0
  IsOwn t = work_in t.known.act.work M ≡ Some t.known

  -- what is claimed of a work that is neither concerned nor touched
  abbrev Claim : WorkTouched → Type 0
  Claim t =
      (t.reached ≡ reach es e t.known.act.work t.touched)
      × ((old : Known) → work_in t.known.act.work L ≡ Some old → is_concerned es e t.known.act.work ≡ false → t.touched ≡ None
      → breakpoints_of L old ≡ breakpoints_of M t.known)
      × (t.reached ≡ None → is_concerned es e t.known.act.work ≡ false)

  unreached : (w : List ℕ) (t : Option ℕ) → reach es e w t ≡ None → (enacts es e w ≡ false) × (t ≡ None)
  unreached w t none = by (enacts es e w) refl
    where
      by : (b : Bool) → enacts es e w ≡ b → (enacts es e w ≡ false) × (t ≡ None)
      by true is = absurd (let no : Some 1 ≡ None = sym (ap (λ b. cond b (Some 1) (sooner t (flags_from es e w))) is) ∙ none in cc)
      by false is = (is, none_left t (flags_from es e w) (sym (ap (λ b. cond b (Some 1) (sooner t (flags_from es e w))) is) ∙ none))

  -- a source of a work that is reached through none: it is in both lines, of one day, and has its days
  record IsStill (on : List ℕ) : Type 0 where
    before : Known
    now : Known
    was : work_in on L ≡ Some before
    is : work_in on M ≡ Some now
    day : before.act.day ≡ now.act.day
    days : breakpoints_of L before ≡ breakpoints_of M now

  still_of : (on : List ℕ) (t : WorkTouched) → Claim t → IsOwn t → t.known.act.work ≡ on → t.reached ≡ None → IsStill on
  still_of on t claim there same none =
      by (work_in on L) refl
    where
      nothing : (enacts es e t.known.act.work ≡ false) × (t.touched ≡ None)
      nothing = unreached t.known.act.work t.touched (sym claim.0 ∙ none)

      same_day : (o : Known) → work_in on L ≡ Some o → o.act.day ≡ t.known.act.day
      same_day o was =
          let apart : known_now (es ++ e ∷ []) t.known.act.work ≡ option_map (up_to (front (es ++ e ∷ []))) (known_now es t.known.act.work) =
          entry_apart es e t.known.act.work (claim.2 none) in
          ap (λ (k : Known). k.act.day)
          (one_of (up_to (front (es ++ e ∷ [])) o) t.known
          (sym (ap (option_map (up_to (front (es ++ e ∷ [])))) (was_known es e legal Force 1 t.known.act.work o (ap (λ w. work_in w L) same ∙ was)))
          ∙ sym apart ∙ is_known es e legal Force 1 t.known.act.work t.known there))

      by : (o : Option Known) → work_in on L ≡ o → IsStill on
      by (Some o) was = record {
        before = o;
        now = t.known;
        was = was;
        is = ap (λ w. work_in w M) (sym same) ∙ there;
        day = same_day o was;
        days = claim.1 o (ap (λ w. work_in w L) same ∙ was) (claim.2 none) nothing.1;
      }
      by None was =
          absurd (let no : false ≡ true =
          sym nothing.0
          ∙ newly es e legal Force 1 t.known.act.work t.known (not_yet es e legal Force 1 t.known.act.work (ap (λ w. work_in w L) same ∙ was))
          (is_known es e legal Force 1 t.known.act.work t.known there) in cc)

  found_still : (w on : List ℕ) → (depends_in L w on || depends_in M w on) ≡ true → (ts : List WorkTouched) → AllByRecursion Claim ts → AllByRecursion IsOwn ts
      → first_reached L M w ts ≡ None → (n : Known) → work_in on (map (λ t. t.known) ts) ≡ Some n → IsStill on
  found_still w on dependent [] claims own none n found = absurd (let no : None ≡ Some n = found in cc)
  found_still w on dependent (t ∷ ts) claims own none n found =
      by (bytes_eq t.known.act.work on) refl found (found_still w on dependent ts claims.1 own.1)
    where
      here : t.known.act.work ≡ on → t.reached ≡ None
      here same =
          subst (λ b. cond b t.reached None ≡ None) (ap (λ v. depends_in L w v || depends_in M w v) same ∙ dependent)
          (none_left (cond (depends_in L w t.known.act.work || depends_in M w t.known.act.work) t.reached None) (first_reached L M w ts) none)

      by : (b : Bool) → bytes_eq t.known.act.work on ≡ b → cond b (Some t.known) (work_in on (map (λ x. x.known) ts)) ≡ Some n
          → (first_reached L M w ts ≡ None → (m : Known) → work_in on (map (λ x. x.known) ts) ≡ Some m → IsStill on) → IsStill on
      by true same found rest =
          still_of on t claims.0 own.0 (bytes_same t.known.act.work on same) (here (bytes_same t.known.act.work on same))
      by false other found rest =
          rest (none_right (cond (depends_in L w t.known.act.work || depends_in M w t.known.act.work) t.reached None) (first_reached L M w ts) none) n found

  -- a work of the line, behind those of which the claim holds
  module _ (ts : List WorkTouched) (known : Known) (behind : List Known) (split : map (λ t. t.known) ts ++ known ∷ behind ≡ M)
      (claims : AllByRecursion Claim ts) (own_ts : AllByRecursion IsOwn ts) (there : work_in known.act.work M ≡ Some known) (old : Known)
      (was_there : work_in known.act.work L ≡ Some old) (apart : is_concerned es e known.act.work ≡ false)
      (none : first_reached L M known.act.work ts ≡ None) where
    abbrev n : ℕ
    n = front (es ++ e ∷ [])

    same : known ≡ up_to n old
    same =
        one_of known (up_to n old)
        (sym (is_known es e legal Force 1 known.act.work known there) ∙ entry_apart es e known.act.work apart
        ∙ ap (option_map (up_to n)) (was_known es e legal Force 1 known.act.work old was_there))

    sorted : IsStrictlySortedBy line_cmp (map (λ t. t.known) ts ++ known ∷ behind)
    sorted = subst (IsStrictlySortedBy line_cmp) (sym split) (is_line (laws (es ++ e ∷ []))).ascends

    source : (on : List ℕ) → (depends_in L known.act.work on || depends_in M known.act.work on) ≡ true → is_after old.act.day (work_in on M) ≡ true → IsStill on
    source on dependent later = by (work_in on (map (λ t. t.known) ts)) refl
      where
        by : (s : Option Known) → work_in on (map (λ t. t.known) ts) ≡ s → IsStill on
        by (Some s) found = found_still known.act.work on dependent ts claims own_ts none s found
        by None missing =
            absurd (let no : true ≡ false =
            sym later ∙ ap (λ (k : Known). is_after k.act.day (work_in on M)) (sym same)
            ∙ ap (λ works. is_after known.act.day (work_in on works)) (sym split)
            ∙ not_after (map (λ t. t.known) ts) known behind sorted on missing in cc)

    after_same : (on : List ℕ) → IsStill on → (day : ℕ) → is_after day (work_in on L) ≡ is_after day (work_in on M)
    after_same on still day =
        ap (is_after day) still.was
        ∙ ap (λ d. nat_lt day d) still.day
        ∙ sym (ap (is_after day) still.is)

    depends_same : (on : List ℕ) → IsStill on → depends L old on ≡ depends M old on
    depends_same on still = any_same L M on (after_same on still) old.act.day old.mods

    or_left : (a b : Bool) → a ≡ true → (a || b) ≡ true
    or_left true b h = refl
    or_left false b h = absurd (let no : false ≡ true = h in cc)

    or_right : (a b : Bool) → b ≡ true → (a || b) ≡ true
    or_right true b h = refl
    or_right false b h = h

    module _ (day : ℕ) where
      abbrev before : Known → Bool
      before s = depends L old s.act.work && has_day day (breakpoints_of L s)

      abbrev now : Known → Bool
      now s = depends M old s.act.work && has_day day (breakpoints_of M s)

      there_too : list_any before L ≡ true → list_any now M ≡ true
      there_too some = by (some_one before (λ (s : Known). work_in s.act.work L ≡ Some s) L (is_line (laws es)).own some)
        where
          with_still : (s : Known) → work_in s.act.work L ≡ Some s → before s ≡ true → IsStill s.act.work → list_any now M ≡ true
          with_still s here passes still =
              any_found now s.act.work M still.now still.is
              (ap (λ w. depends M old w && has_day day (breakpoints_of M still.now)) (found_name s.act.work still.now M still.is)
              ∙ ap (λ days. depends M old s.act.work && has_day day days) (sym still.days)
              ∙ ap (λ (k : Known). depends M old s.act.work && has_day day (breakpoints_of L k)) (one_of still.before s (sym still.was ∙ here))
              ∙ ap (λ b. b && has_day day (breakpoints_of L s)) (sym (depends_same s.act.work still))
              ∙ passes)

          later : (s : Known) → work_in s.act.work L ≡ Some s → depends L old s.act.work ≡ true → is_after old.act.day (work_in s.act.work M) ≡ true
          later s here dep = by_still (still_after es e legal Force 1 s.act.work old.act.day s here)
            where
              by_still : (m : Known) × (work_in s.act.work M ≡ Some m) × (is_after old.act.day (Some m) ≡ is_after old.act.day (Some s))
                  → is_after old.act.day (work_in s.act.work M) ≡ true
              by_still (m, found, same_after) =
                  ap (is_after old.act.day) found ∙ same_after ∙ sym (ap (is_after old.act.day) here) ∙ depends_after L old s.act.work dep

          by : (s : Known) × (before s ≡ true) × (work_in s.act.work L ≡ Some s) → list_any now M ≡ true
          by (s, passes, here) =
              let dep : depends L old s.act.work ≡ true = left_true (depends L old s.act.work) (has_day day (breakpoints_of L s)) passes in
              with_still s here passes
              (source s.act.work
              (or_left (depends_in L known.act.work s.act.work) (depends_in M known.act.work s.act.work)
              (ap (λ k. option_map_or (λ x. depends L x s.act.work) k false) was_there ∙ dep))
              (later s here dep))

      back_too : list_any now M ≡ true → list_any before L ≡ true
      back_too some = by (some_one now (λ (s : Known). work_in s.act.work M ≡ Some s) M (is_line (laws (es ++ e ∷ []))).own some)
        where
          with_still : (s : Known) → work_in s.act.work M ≡ Some s → now s ≡ true → IsStill s.act.work → list_any before L ≡ true
          with_still s here passes still =
              any_found before s.act.work L still.before still.was
              (ap (λ w. depends L old w && has_day day (breakpoints_of L still.before)) (found_name s.act.work still.before L still.was)
              ∙ ap (λ days. depends L old s.act.work && has_day day days) still.days
              ∙ ap (λ (k : Known). depends L old s.act.work && has_day day (breakpoints_of M k)) (one_of still.now s (sym still.is ∙ here))
              ∙ ap (λ b. b && has_day day (breakpoints_of M s)) (depends_same s.act.work still)
              ∙ passes)

          by : (s : Known) × (now s ≡ true) × (work_in s.act.work M ≡ Some s) → list_any before L ≡ true
          by (s, passes, here) =
              let dep : depends M old s.act.work ≡ true = left_true (depends M old s.act.work) (has_day day (breakpoints_of M s)) passes in
              with_still s here passes
              (source s.act.work
              (or_right (depends_in L known.act.work s.act.work) (depends_in M known.act.work s.act.work)
              (ap (λ k. option_map_or (λ x. depends M x s.act.work) k false) there ∙ ap (λ k. depends M k s.act.work) same ∙ dep))
              (depends_after M old s.act.work dep))

      has_same : has_day day (source_days L old (days_along L)) ≡ has_day day (source_days M old (days_along M))
      has_same =
          has_days L (is_line (laws es)) old day
          ∙ same_bool (list_any before L) (list_any now M) there_too back_too
          ∙ sym (has_days M (is_line (laws (es ++ e ∷ []))) old day)

    days_same : breakpoints_of L old ≡ breakpoints_of M known
    days_same =
        ap (days_with old) (one_list (source_days L old (days_along L)) (source_days M old (days_along M)) (sources_ascend L old (days_along L)) (sources_ascend M old (days_along M)) has_same)
        ∙ ap (days_with old) (sym (days_then M n n old (days_along M)))
        ∙ ap (breakpoints_of M) (sym same)

  -- the claim holds of one work more
  claim_more : (ts : List WorkTouched) (known : Known) (behind : List Known) → map (λ t. t.known) ts ++ known ∷ behind ≡ M → AllByRecursion Claim ts
      → AllByRecursion IsOwn ts → work_in known.act.work M ≡ Some known → Claim (touched_as es e known (touched_by es e L M ts known.act.work))
  claim_more ts known behind split claims own_ts there = (
    refl,
    λ old was_there apart none.
        days_same ts known behind split claims own_ts there old was_there apart (none_right (own es e known.act.work) (first_reached L M known.act.work ts) none),
    λ none. apart_where_unreached es e known.act.work (first_reached L M known.act.work ts) accepted none,
  )

  all_claims : (ts : List WorkTouched) (works : List Known) → map (λ t. t.known) ts ++ works ≡ M → AllByRecursion Claim ts → AllByRecursion IsOwn ts
      → AllByRecursion Claim (touched_after es e L M ts works)
  all_claims ts [] split claims own_ts = claims
  all_claims ts (known ∷ works) split claims own_ts =
      all_claims (ts ++ touched_as es e known (touched_by es e L M ts known.act.work) ∷ []) works
      (known_pushed es e legal Force 1 ts (touched_as es e known (touched_by es e L M ts known.act.work)) works ∙ split)
      (pushed es e legal Force 1 Claim ts (touched_as es e known (touched_by es e L M ts known.act.work)) claims (claim_more ts known works split claims own_ts there))
      (pushed es e legal Force 1 IsOwn ts (touched_as es e known (touched_by es e L M ts known.act.work)) own_ts there)
    where
      there : work_in known.act.work M ≡ Some known
      there =
          (all_dropped (λ (k : Known). work_in k.act.work M ≡ Some k) (map (λ t. t.known) ts) (known ∷ works)
          (subst (AllByRecursion (λ (k : Known). work_in k.act.work M ≡ Some k)) (sym split) (is_line (laws (es ++ e ∷ []))).own)).0

  -- of what is found among those that are told, nothing is told where it is not touched
  found_untold : (w : List ℕ) (new : Known) (ts : List WorkTouched) → AllByRecursion Claim ts → work_in w (map (λ t. t.known) ts) ≡ Some new
      → day_among (days_told ts) w ≡ None → (t : WorkTouched) × Claim t × (t.known ≡ new) × (t.known.act.work ≡ w) × (t.touched ≡ None)
  found_untold w new [] claims found none = absurd (let no : None ≡ Some new = found in cc)
  found_untold w new (t ∷ ts) claims found none =
      by (bytes_eq t.known.act.work w) refl found t.touched refl none (found_untold w new ts claims.1)
    where
      by : (b : Bool) → bytes_eq t.known.act.work w ≡ b → cond b (Some t.known) (work_in w (map (λ x. x.known) ts)) ≡ Some new
          → (d : Option ℕ) → t.touched ≡ d → day_among (with_day (Some t.known.act.work) d ++ days_told ts) w ≡ None
          → (work_in w (map (λ x. x.known) ts) ≡ Some new → day_among (days_told ts) w ≡ None
          → (x : WorkTouched) × Claim x × (x.known ≡ new) × (x.known.act.work ≡ w) × (x.touched ≡ None))
          → (x : WorkTouched) × Claim x × (x.known ≡ new) × (x.known.act.work ≡ w) × (x.touched ≡ None)
      by true at found None untouched none rest = (t, claims.0, one_of t.known new found, bytes_same t.known.act.work w at, untouched)
      by true at found (Some d) some none rest =
          absurd (let no : Some d ≡ None = sym (ap (λ b. cond b (Some d) (day_among (days_told ts) w)) at) ∙ none in cc)
      by false at found None untouched none rest = rest found none
      by false at found (Some d) some none rest =
          rest found (sym (ap (λ b. cond b (Some d) (day_among (days_told ts) w)) at) ∙ none)

  pub days_stay : (w : List ℕ) (old new : Known) → work_in w L ≡ Some old → work_in w M ≡ Some new → is_concerned es e w ≡ false → touched es e w ≡ None
      → breakpoints_of (line (laws es)) old ≡ breakpoints_of (line (laws (es ++ e ∷ []))) new
  unfolding touched_works touched_along
  days_stay w old new was_there there apart none =
      by (found_untold w new (touched_after es e L M [] M) (all_claims [] M refl tt tt) (ap (work_in w) (along_known es e legal Force 1 [] M) ∙ there) none)
    where
      by : (t : WorkTouched) × Claim t × (t.known ≡ new) × (t.known.act.work ≡ w) × (t.touched ≡ None) → breakpoints_of L old ≡ breakpoints_of M new
      by (t, claim, same, own_name, untouched) =
          claim.1 old (ap (λ v. work_in v L) own_name ∙ was_there) (ap (is_concerned es e) own_name ∙ apart) untouched
          ∙ ap (breakpoints_of M) same
